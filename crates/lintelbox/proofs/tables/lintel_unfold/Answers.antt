-- `lintelbox::tables::lintel_unfold` meets its contract. Assumes nothing.
use mathlib.Core.Path.{ap, ◌∙◌}
use Rattle.box_answers.specs.Border.{unfolded_said}
use Rattle.box_answers.proofs.Crossing.{too_short, stayed, went, less, enough, first_no, second_no, both_yes, via, past, unfolded_is}
use Rattle.lintelbox.proofs.tables.lintel_unfold.Goals as goal

pub returns-then-slots-from-clause-result_after : goal.returns-then-slots-from-clause-result_after
returns-then-slots-from-clause-result_after c = too_short _ _ _ (first_no _ _ (less _ _ (rw c.from.ensures at c.if-slots-from.true)))

pub returns-then-slots-from-clause-room_after : goal.returns-then-slots-from-clause-room_after
returns-then-slots-from-clause-room_after c = stayed _ _ _ (first_no _ _ (less _ _ (rw c.from.ensures at c.if-slots-from.true)))

pub returns-then-answer-lt-ANSWER-clause-result_after : goal.returns-then-answer-lt-ANSWER-clause-result_after
returns-then-answer-lt-ANSWER-clause-result_after c = too_short _ _ _ (second_no _ _ (enough _ _ (rw c.from.ensures at c.if-slots-from.false)) (less _ _ c.if-answer-lt-ANSWER.true))

pub returns-then-answer-lt-ANSWER-clause-room_after : goal.returns-then-answer-lt-ANSWER-clause-room_after
returns-then-answer-lt-ANSWER-clause-room_after c = stayed _ _ _ (second_no _ _ (enough _ _ (rw c.from.ensures at c.if-slots-from.false)) (less _ _ c.if-answer-lt-ANSWER.true))

pub returns-clause-result_after : goal.returns-clause-result_after
returns-clause-result_after c = past _ _ _ _ _ (enough _ _ (rw c.from.ensures at c.if-slots-from.false)) (via _ _ _ _ _ c.say.ensures (c.unfolded_said.ensures ∙ ap unfolded_said c.unfold-u.ensures.0 ∙ unfolded_is _))

pub returns-clause-room_after : goal.returns-clause-room_after
returns-clause-room_after c = went _ _ _ _ (both_yes _ _ (enough _ _ (rw c.from.ensures at c.if-slots-from.false)) (enough _ _ c.if-answer-lt-ANSWER.false)) c.unfold-u.ensures.1

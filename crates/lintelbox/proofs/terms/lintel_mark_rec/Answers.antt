-- `lintelbox::terms::lintel_mark_rec` meets its contract. Assumes nothing.
use mathlib.Core.Path.{◌∙◌}
use Rattle.box_answers.proofs.Crossing.{too_short, stayed, went, less, enough, via, added_is, left_is}
use Rattle.lintelbox.proofs.terms.lintel_mark_rec.Goals as goal

pub returns-then-answer-lt-ANSWER-clause-result_after : goal.returns-then-answer-lt-ANSWER-clause-result_after
returns-then-answer-lt-ANSWER-clause-result_after c = too_short _ _ _ (less _ _ c.if-answer-lt-ANSWER.true)

pub returns-then-answer-lt-ANSWER-clause-recs_after : goal.returns-then-answer-lt-ANSWER-clause-recs_after
returns-then-answer-lt-ANSWER-clause-recs_after c = stayed _ _ _ (less _ _ c.if-answer-lt-ANSWER.true)

pub returns-clause-result_after : goal.returns-clause-result_after
returns-clause-result_after c = via _ _ _ _ _ c.say.ensures (c.added_said.ensures ∙ added_is _ _ c.flag-a.ensures.result_value)

pub returns-clause-recs_after : goal.returns-clause-recs_after
returns-clause-recs_after c = went _ _ _ _ (enough _ _ c.if-answer-lt-ANSWER.false) (c.flag-a.ensures.r_after ∙ left_is _ _)

-- `lintelbox::tables::lintel_add_site` meets its contract. Assumes nothing.
use mathlib.Core.Path.{ap, ◌∙◌}
use Rattle.box_answers.specs.Border.{numbered_said}
use Rattle.box_answers.proofs.Crossing.{too_short, stayed, went, less, enough, via, numbered_is}
use Rattle.lintelbox.proofs.tables.lintel_add_site.Goals as goal

pub returns-then-answer-lt-ANSWER-clause-result_after : goal.returns-then-answer-lt-ANSWER-clause-result_after
returns-then-answer-lt-ANSWER-clause-result_after c = too_short _ _ _ (less _ _ c.if-answer-lt-ANSWER.true)

pub returns-then-answer-lt-ANSWER-clause-slots_after : goal.returns-then-answer-lt-ANSWER-clause-slots_after
returns-then-answer-lt-ANSWER-clause-slots_after c = stayed _ _ _ (less _ _ c.if-answer-lt-ANSWER.true)

pub returns-clause-result_after : goal.returns-clause-result_after
returns-clause-result_after c = via _ _ _ _ _ c.say.ensures (c.numbered_said.ensures ∙ ap numbered_said c.add-n.ensures.0 ∙ numbered_is _ _)

pub returns-clause-slots_after : goal.returns-clause-slots_after
returns-clause-slots_after c = went _ _ _ _ (enough _ _ c.if-answer-lt-ANSWER.false) c.add-n.ensures.1

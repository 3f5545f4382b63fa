-- `lintelbox::terms::lintel_add_edge` meets its contract. Assumes nothing.
use mathlib.Core.Path.{◌∙◌}
use Rattle.box_answers.proofs.Crossing.{too_short, stayed, went, less, enough, via, added_is, left_is}
use Rattle.lintelbox.proofs.terms.lintel_add_edge.Goals as goal

pub returns-then-answer-lt-ANSWER-clause-result_after : goal.returns-then-answer-lt-ANSWER-clause-result_after
returns-then-answer-lt-ANSWER-clause-result_after c = too_short _ _ _ (less _ _ c.if-answer-lt-ANSWER.true)

pub returns-then-answer-lt-ANSWER-clause-table_after : goal.returns-then-answer-lt-ANSWER-clause-table_after
returns-then-answer-lt-ANSWER-clause-table_after c = stayed _ _ _ (less _ _ c.if-answer-lt-ANSWER.true)

pub returns-clause-result_after : goal.returns-clause-result_after
returns-clause-result_after c = via _ _ _ _ _ c.say.ensures (c.added_said.ensures ∙ added_is _ _ c.add-a.ensures.result_value)

pub returns-clause-table_after : goal.returns-clause-table_after
returns-clause-table_after c = went _ _ _ _ (enough _ _ c.if-answer-lt-ANSWER.false) (c.add-a.ensures.t_after ∙ left_is _ _)

-- `lintelbox::joins::lintel_merge` meets its contract. Assumes nothing.
use mathlib.Core.Path.{◌∙◌}
use Rattle.box_answers.proofs.Crossing.{too_short, stayed, went, less, enough, via, merged_is}
use Rattle.lintelbox.proofs.joins.lintel_merge.Goals as goal

pub returns-then-answer-lt-ANSWER-clause-result_after : goal.returns-then-answer-lt-ANSWER-clause-result_after
returns-then-answer-lt-ANSWER-clause-result_after c = too_short _ _ _ (less _ _ c.if-answer-lt-ANSWER.true)

pub returns-then-answer-lt-ANSWER-clause-count_after : goal.returns-then-answer-lt-ANSWER-clause-count_after
returns-then-answer-lt-ANSWER-clause-count_after c = stayed _ _ _ (less _ _ c.if-answer-lt-ANSWER.true)

pub returns-clause-result_after : goal.returns-clause-result_after
returns-clause-result_after c = via _ _ _ _ _ c.say.ensures (c.joined_said.ensures ∙ (merged_is _ _ _ _ _ c.merge_in-j.ensures).0)

pub returns-clause-count_after : goal.returns-clause-count_after
returns-clause-count_after c = went _ _ _ _ (enough _ _ c.if-answer-lt-ANSWER.false) (merged_is _ _ _ _ _ c.merge_in-j.ensures).1

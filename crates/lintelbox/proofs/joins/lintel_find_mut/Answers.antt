-- `lintelbox::joins::lintel_find_mut` meets its contract. Assumes nothing.
use mathlib.Core.Path.{◌∙◌}
use Rattle.box_answers.proofs.Crossing.{too_short, stayed, went, less, enough, via, sought_is}
use Rattle.lintelbox.proofs.joins.lintel_find_mut.Goals as goal

pub returns-then-answer-lt-ANSWER-clause-by_index : goal.returns-then-answer-lt-ANSWER-clause-by_index
returns-then-answer-lt-ANSWER-clause-by_index c = (λ R n. too_short _ _ _ (less _ _ c.if-answer-lt-ANSWER.true))

pub returns-then-answer-lt-ANSWER-clause-by_index_2 : goal.returns-then-answer-lt-ANSWER-clause-by_index_2
returns-then-answer-lt-ANSWER-clause-by_index_2 c = (λ R n. stayed _ _ _ (less _ _ c.if-answer-lt-ANSWER.true))

pub returns-clause-by_index : goal.returns-clause-by_index
returns-clause-by_index c = (λ R n. via _ _ _ _ _ c.say.ensures (c.sought_said.ensures ∙ (sought_is _ _ _ _ (c.find_mut_in-s.ensures R n)).0))

pub returns-clause-by_index_2 : goal.returns-clause-by_index_2
returns-clause-by_index_2 c = (λ R n. went _ _ _ _ (enough _ _ c.if-answer-lt-ANSWER.false) (sought_is _ _ _ _ (c.find_mut_in-s.ensures R n)).1)

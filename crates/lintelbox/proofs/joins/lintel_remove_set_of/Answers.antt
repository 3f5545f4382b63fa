-- `lintelbox::joins::lintel_remove_set_of` meets its contract. Assumes nothing.
use mathlib.Core.Path.{◌∙◌}
use Rattle.box_answers.proofs.Crossing.{too_short, stayed, went, less, enough, first_no, second_no, both_yes, via, past, all_taken}
use Rattle.lintelbox.proofs.joins.lintel_remove_set_of.Goals as goal

pub returns-then-members-lt-SITES-clause-by_index : goal.returns-then-members-lt-SITES-clause-by_index
returns-then-members-lt-SITES-clause-by_index c = (λ R. too_short _ _ _ (first_no _ _ (less _ _ c.if-members-lt-SITES.true)))

pub returns-then-members-lt-SITES-clause-by_index_2 : goal.returns-then-members-lt-SITES-clause-by_index_2
returns-then-members-lt-SITES-clause-by_index_2 c = (λ R. stayed _ _ _ (first_no _ _ (less _ _ c.if-members-lt-SITES.true)))

pub returns-then-members-lt-SITES-clause-by_index_3 : goal.returns-then-members-lt-SITES-clause-by_index_3
returns-then-members-lt-SITES-clause-by_index_3 c = (λ R. stayed _ _ _ (first_no _ _ (less _ _ c.if-members-lt-SITES.true)))

pub returns-then-answer-lt-ANSWER-clause-by_index : goal.returns-then-answer-lt-ANSWER-clause-by_index
returns-then-answer-lt-ANSWER-clause-by_index c = (λ R. too_short _ _ _ (second_no _ _ (enough _ _ c.if-members-lt-SITES.false) (less _ _ c.if-answer-lt-ANSWER.true)))

pub returns-then-answer-lt-ANSWER-clause-by_index_2 : goal.returns-then-answer-lt-ANSWER-clause-by_index_2
returns-then-answer-lt-ANSWER-clause-by_index_2 c = (λ R. stayed _ _ _ (second_no _ _ (enough _ _ c.if-members-lt-SITES.false) (less _ _ c.if-answer-lt-ANSWER.true)))

pub returns-then-answer-lt-ANSWER-clause-by_index_3 : goal.returns-then-answer-lt-ANSWER-clause-by_index_3
returns-then-answer-lt-ANSWER-clause-by_index_3 c = (λ R. stayed _ _ _ (second_no _ _ (enough _ _ c.if-members-lt-SITES.false) (less _ _ c.if-answer-lt-ANSWER.true)))

pub returns-clause-by_index : goal.returns-clause-by_index
returns-clause-by_index c = (λ R. past _ _ _ _ _ (enough _ _ c.if-members-lt-SITES.false) (via _ _ _ _ _ c.say.ensures (c.taken_said.ensures ∙ (all_taken _ _ c.args.members.now _ _ _ c.if-members-lt-SITES.false (c.remove_set_of_in-t.ensures R)).says)))

pub returns-clause-by_index_2 : goal.returns-clause-by_index_2
returns-clause-by_index_2 c = (λ R. went _ _ _ _ (both_yes _ _ (enough _ _ c.if-members-lt-SITES.false) (enough _ _ c.if-answer-lt-ANSWER.false)) (all_taken _ _ c.args.members.now _ _ _ c.if-members-lt-SITES.false (c.remove_set_of_in-t.ensures R)).leaves)

pub returns-clause-by_index_3 : goal.returns-clause-by_index_3
returns-clause-by_index_3 c = (λ R. went _ _ _ _ (both_yes _ _ (enough _ _ c.if-members-lt-SITES.false) (enough _ _ c.if-answer-lt-ANSWER.false)) (all_taken _ _ c.args.members.now _ _ _ c.if-members-lt-SITES.false (c.remove_set_of_in-t.ensures R)).lists)

-- `lintelbox::terms::lintel_cyclic_terms` meets its contract. Assumes nothing.
use mathlib.Core.List.{◌++◌}
use mathlib.Core.Path.{◌≡◌, ap, refl, sym, ◌∙◌}
use lib.ListN.{length, drop}
use lib.Seq.{length-take-le}
use borrow.Author.Rules.{rules}
use Rattle.term_table.specs.Table.{terms}
use Rattle.term_table.specs.declared.Listed.{Listed}
use Rattle.box_answers.proofs.Crossing.{too_short, stayed, went, less, enough, first_no, second_no, both_yes, via, past, done_as, listed_count}
use Rattle.lintelbox.proofs.terms.lintel_cyclic_terms.Goals as goal

pub returns-then-found-lt-TERMS-clause-result_after : goal.returns-then-found-lt-TERMS-clause-result_after
returns-then-found-lt-TERMS-clause-result_after c = too_short _ _ _ (first_no _ _ (less _ _ c.if-found-lt-TERMS.true))

pub returns-then-found-lt-TERMS-clause-found_after : goal.returns-then-found-lt-TERMS-clause-found_after
returns-then-found-lt-TERMS-clause-found_after c = stayed _ _ _ (first_no _ _ (less _ _ c.if-found-lt-TERMS.true))

pub returns-then-answer-lt-ANSWER-clause-result_after : goal.returns-then-answer-lt-ANSWER-clause-result_after
returns-then-answer-lt-ANSWER-clause-result_after c = too_short _ _ _ (second_no _ _ (enough _ _ c.if-found-lt-TERMS.false) (less _ _ c.if-answer-lt-ANSWER.true))

pub returns-then-answer-lt-ANSWER-clause-found_after : goal.returns-then-answer-lt-ANSWER-clause-found_after
returns-then-answer-lt-ANSWER-clause-found_after c = stayed _ _ _ (second_no _ _ (enough _ _ c.if-found-lt-TERMS.false) (less _ _ c.if-answer-lt-ANSWER.true))

pub returns-clause-result_after : goal.returns-clause-result_after
returns-clause-result_after c = past _ _ _ _ _ (enough _ _ c.if-found-lt-TERMS.false) (via _ _ _ _ _ c.say.ensures (done_as _ _ _ _ _ c.done.ensures (c.from.ensures ∙ ap (λ (l : Listed). l.count) c.findings-l.ensures ∙ listed_count _) refl))

pub returns-clause-found_after : goal.returns-clause-found_after
returns-clause-found_after c = went _ _ _ _ (both_yes _ _ (enough _ _ c.if-found-lt-TERMS.false) (enough _ _ c.if-answer-lt-ANSWER.false)) (ap (λ s. s ++ drop terms c.args.found.now) (c.copy_from_slice.ensures.after ∙ ap (λ (l : Listed). l.terms) c.findings-l.ensures))

pub copy_from_slice-requires : goal.copy_from_slice-requires
copy_from_slice-requires c =
    let long : length c.findings-l.result.terms ≡ terms = search (rules, c.findings-l.type_inv) in
    length-take-le terms c.args.found.now c.if-found-lt-TERMS.false ∙ sym long

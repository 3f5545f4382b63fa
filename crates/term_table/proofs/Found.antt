-- "Cyclic terms without rec are findings", over any list of sets, of which only the term and the flag matter: the table that their edges make, and
-- the row that their rec flags make, give the ascending list.
use mathlib.Core.Path.{◌≡◌, refl, sym, ◌∙◌, ap}
use mathlib.Core.Bool.{Bool, true, false, ◌&&◌, not}
use mathlib.Core.Logic.{inr, ⊎_elim}
use mathlib.Core.List.{List, map, Memᴰ}
use Prim.Native.Nat.{ℕ, ◌<◌}
use lib.ListN.{length, length-replicate}
use Rattle.paper.specs.Words.{keep, ascending, Edges, Walk, one, more, returns}
use Rattle.paper.proofs.Walks.{returns_is}
use Rattle.paper.proofs.Lists.{no_way}
use Rattle.term_table.specs.Table.{terms, words, in_row, no_marks, no_edges, numbers, with_edges, unflagged}
use Rattle.term_table.specs.Heads.{rec_marks, Sheeted}
use Rattle.term_table.proofs.Lists.{keep_same, mem_keep, mem_numbers, in_map, Mapped, mapped, of_map}
use Rattle.term_table.proofs.Marks.{none_row}
use Rattle.term_table.proofs.Closing.{same_test}
use Rattle.term_table.proofs.Adding.{cyclic_held, terms_marked}
use Rattle.term_table.proofs.Ascending.{asc_same, mem_ascending, asc_ascending, asc_numbers, asc_keep}

no_words : length no_marks ≡ words
unfolding no_marks
no_words = length-replicate {A = ℕ} words 0

module _ {H : Type 0} (term : H → ℕ) (rec : H → Bool) (hs : List H) (es : Edges) where
  abbrev recs : List ℕ
  recs = rec_marks term rec hs

  abbrev found : List ℕ
  found = ascending (map term (keep (λ h. not (rec h) && returns es (term h)) hs))

  module _ (S : Sheeted term rec hs es) where
    rec_row : (h : H) → Memᴰ h hs → in_row recs (term h) ≡ rec h
    rec_row h m = same_test (in_row recs (term h)) (rec h) of to
      where
        here : Mapped term (keep rec hs) (term h) → rec h ≡ true
        here (mapped k n e) = let q = (mem_keep rec k hs).0 n in S.once h k m q.0 e ∙ q.1

        of : in_row recs (term h) ≡ true → rec h ≡ true
        of r =
            ⊎_elim (λ x. no_way (sym x ∙ none_row (term h) (S.fits h m))) (λ x. here (of_map term (keep rec hs) (term h) x))
            ((terms_marked (map term (keep rec hs)) no_marks (term h) no_words (S.fits h m)).0 r)

        to : rec h ≡ true → in_row recs (term h) ≡ true
        to r = (terms_marked (map term (keep rec hs)) no_marks (term h) no_words (S.fits h m)).1 (inr (in_map term h (keep rec hs) ((mem_keep rec h hs).1 (m, r))))

    a_set : (a : ℕ) → Walk es a a → Mapped term hs a
    a_set a (one m) = of_map term hs a (S.starts a a m)
    a_set a (more {b = b} m w) = of_map term hs a (S.starts a b m)

    both : {x y : Bool} → x ≡ true → y ≡ true → (x && y) ≡ true
    both p q = rw (p, q) refl

    parts : (x y : Bool) → (x && y) ≡ true → (x ≡ true) × (y ≡ true)
    parts true y e = (refl, e)
    parts false y e = no_way (sym e)

    of_found : (a : ℕ) → Memᴰ a found → (returns es a && not (in_row recs a)) ≡ true × (a < terms)
    of_found a m = go (of_map term (keep (λ h. not (rec h) && returns es (term h)) hs) a ((mem_ascending a _).0 m))
      where
        go : Mapped term (keep (λ h. not (rec h) && returns es (term h)) hs) a → (returns es a && not (in_row recs a)) ≡ true × (a < terms)
        go (mapped h n e) =
            let q = (mem_keep (λ h. not (rec h) && returns es (term h)) h hs).0 n in
            let p = parts (not (rec h)) (returns es (term h)) q.1 in
            rw e (both p.1 (ap not (rec_row h q.0) ∙ p.0), S.fits h q.0)

    to_found : (a : ℕ) → (returns es a && not (in_row recs a)) ≡ true → Memᴰ a found
    to_found a e = go (a_set a ((returns_is es a).0 (parts (returns es a) _ e).0))
      where
        go : Mapped term hs a → Memᴰ a found
        go (mapped h n q) =
            let p = parts (returns es a) (not (in_row recs a)) e in
            let r : not (rec h) ≡ true = ap not (sym (rec_row h n) ∙ ap (in_row recs) (sym q)) ∙ p.1 in
            let s : returns es (term h) ≡ true = ap (returns es) (sym q) ∙ p.0 in
            (mem_ascending a _).1 (rw q (in_map term h _ ((mem_keep (λ h. not (rec h) && returns es (term h)) h hs).1 (n, both r s))))

    pub findings_are : unflagged (with_edges no_edges es) (rec_marks term rec hs)
        ≡ ascending (map term (keep (λ h. not (rec h) && returns es (term h)) hs))
    unfolding unflagged numbers
    findings_are =
        keep_same _ (λ a. returns es a && not (in_row recs a)) numbers (λ a m. ap (λ (x : Bool). x && not (in_row recs a)) (cyclic_held es S.between a))
        ∙ asc_same (keep (λ a. returns es a && not (in_row recs a)) numbers) found (asc_keep _ numbers (asc_numbers terms)) (asc_ascending _) (λ a. (of a, to a))
      where
        of : (a : ℕ) → Memᴰ a (keep (λ a. returns es a && not (in_row recs a)) numbers) → Memᴰ a found
        of a m = to_found a ((mem_keep (λ a. returns es a && not (in_row recs a)) a numbers).0 m).1

        to : (a : ℕ) → Memᴰ a found → Memᴰ a (keep (λ a. returns es a && not (in_row recs a)) numbers)
        to a m = let q = of_found a m in (mem_keep (λ a. returns es a && not (in_row recs a)) a numbers).1 ((mem_numbers terms a).1 q.1, q.0)

-- New sites on their way into their slots: the bytes of a child, one slot after the other.
use mathlib.Core.Path.{◌≡◌, refl, sym, ap, ◌∙◌}
use mathlib.Core.Bool.{Bool, true, false}
use mathlib.Core.List.{List, [], ◌∷◌, ◌++◌}
use Prim.Native.Nat.{ℕ, suc, ◌+◌, ◌-◌, ◌*◌, ◌/◌, ◌%◌, ◌≤◌}
use native.Mathlib.Omega.{arith}
use native.Mathlib.Numerals.{add-one}
use lib.ListN.{length, get_or, take, drop}
use borrow.Rule.Slice.PartMut.{put_mid}
use Rattle.std.proofs.lemmas.List.{take_all}
use Rattle.std.proofs.lemmas.Slice.{put_mid-paste}
use lib.Dec.{eqb}
use borrow.Author.Tests.{eqb-true, ne_eqb}
use Rattle.paper.specs.Words.{or_else, below, two}
use Rattle.paper.specs.Sites.{Site, parent, body, body_by}
use Rattle.sites.specs.Slots.{slot, put, store}
use Rattle.rule_children.specs.Tail.{site_of_word}
use Rattle.rule_rows.proofs.Holders.{length_below}
use Rattle.rule_load.specs.Parts.{ChildWord, new_sites}

-- ---- bytes that are copied to a place
pub put_written : (m : List ℕ) (at : ℕ) (bs part : List ℕ) → at + length bs ≤ length m → part ≡ bs → put_mid at (at + length bs - at) m part ≡ put m at bs
unfolding put
put_written m at bs part h e =
    put_mid-paste at (at + length bs - at) m part bs (length bs) e (omega arith) refl
    ∙ ap (λ (x : List ℕ). take at m ++ x ++ drop (at + length bs) m) (take_all (length bs) bs (omega arith))

-- ---- the body of a child
module _ (w s : ℕ) (e : s ≡ or_else (parent (site_of_word w)) 0) where
  variant_body : w % 256 ≡ 8 → length (body (site_of_word w)) ∷ body (site_of_word w) ≡ 6 ∷ 8 ∷ s / 256 ∷ s % 256 ∷ w / 256 / 256 % 65536 / 256 ∷ w / 256 / 256 % 65536 % 256 ∷ w / 256 % 256 ∷ []
  unfolding site_of_word parent body body_by two
  variant_body a = rw (e, a)

  struct_body : w % 256 ≡ 10 → length (body (site_of_word w)) ∷ body (site_of_word w) ≡ 4 ∷ 10 ∷ s / 256 ∷ s % 256 ∷ w / 256 % 256 ∷ []
  unfolding site_of_word parent body body_by two
  struct_body a = rw (e, a)

  some_body : w % 256 ≡ 12 → length (body (site_of_word w)) ∷ body (site_of_word w) ≡ 3 ∷ 12 ∷ s / 256 ∷ s % 256 ∷ []
  unfolding site_of_word parent body body_by two
  some_body a = rw (e, a)

-- a word of a child that is of neither other kind
last_kind : (w : ℕ) → ChildWord w → (w % 256 ≡ 8 → ⊥) → (w % 256 ≡ 10 → ⊥) → w % 256 ≡ 12
unfolding site_of_word
last_kind w k a b = go (eqb (w % 256) 12) refl
  where
    go : (t : Bool) → eqb (w % 256) 12 ≡ t → w % 256 ≡ 12
    go true e = eqb-true _ _ e
    go false e = absurd (k.real (rw (ne_eqb (w % 256) 8 a, ne_eqb (w % 256) 10 b, e)))

module _ (m x : List ℕ) (i w s : ℕ) (e : s ≡ or_else (parent (site_of_word w)) 0) where
  pub put_variant : w % 256 ≡ 8 → x ≡ put m (i * slot) (6 ∷ 8 ∷ s / 256 ∷ s % 256 ∷ w / 256 / 256 % 65536 / 256 ∷ w / 256 / 256 % 65536 % 256 ∷ w / 256 % 256 ∷ [])
      → x ≡ put m (i * slot) (length (body (site_of_word w)) ∷ body (site_of_word w))
  put_variant a f = rw (variant_body w s e a) f

  pub put_struct : w % 256 ≡ 10 → x ≡ put m (i * slot) (4 ∷ 10 ∷ s / 256 ∷ s % 256 ∷ w / 256 % 256 ∷ []) → x ≡ put m (i * slot) (length (body (site_of_word w)) ∷ body (site_of_word w))
  put_struct a f = rw (struct_body w s e a) f

  pub put_some : ChildWord w → (w % 256 ≡ 8 → ⊥) → (w % 256 ≡ 10 → ⊥) → x ≡ put m (i * slot) (3 ∷ 12 ∷ s / 256 ∷ s % 256 ∷ []) → x ≡ put m (i * slot) (length (body (site_of_word w)) ∷ body (site_of_word w))
  put_some k a b f = rw (some_body w s e (last_kind w k a b)) f

-- ---- one slot after the other
pub store_last : (m : List ℕ) (n : ℕ) (ss : List Site) (s : Site) → store m n (ss ++ (s ∷ [])) ≡ put (store m n ss) ((n + length ss) * slot) (length (body s) ∷ body s)
unfolding store
store_last m n [] s = let e : n + 0 ≡ n = omega arith in rw e
store_last m n (x ∷ ss) s = let e : n + suc (length ss) ≡ suc n + length ss = omega arith in rw e (store_last (put m (n * slot) (length (body x) ∷ body x)) (suc n) ss s)

module _ (m : List ℕ) (n : ℕ) (tail : List ℕ) where
  pub none_stored : m ≡ store m n (new_sites tail 0)
  unfolding new_sites below store
  none_stored = refl

  pub one_stored : (x y : List ℕ) (i j : ℕ) → j ≡ n → x ≡ store m n (new_sites tail i) → y ≡ put x ((j + i) * slot) (length (body (site_of_word (get_or tail i 0))) ∷ body (site_of_word (get_or tail i 0))) → y ≡ store m n (new_sites tail (i + 1))
  unfolding new_sites below
  one_stored x y i j q e f =
      let l : i ≡ length (below i (λ k. site_of_word (get_or tail k 0))) = sym (length_below i (λ k. site_of_word (get_or tail k 0))) in
      let g : put (store m n (below i (λ k. site_of_word (get_or tail k 0)))) ((n + i) * slot) (length (body (site_of_word (get_or tail i 0))) ∷ body (site_of_word (get_or tail i 0))) ≡ store m n (below (suc i) (λ k. site_of_word (get_or tail k 0))) =
      ap (λ k. put (store m n (below i (λ k. site_of_word (get_or tail k 0)))) ((n + k) * slot) (length (body (site_of_word (get_or tail i 0))) ∷ body (site_of_word (get_or tail i 0)))) l
      ∙ sym (store_last m n (below i (λ k. site_of_word (get_or tail k 0))) (site_of_word (get_or tail i 0))) in
      f ∙ rw (q, e, add-one) g

  pub all_stored : (x : List ℕ) (i t : ℕ) → i ≤ t → t ≤ i → x ≡ store m n (new_sites tail i) → x ≡ store m n (new_sites tail t)
  all_stored x i t h k e = let z : i ≡ t = omega arith in e ∙ ap (λ j. store m n (new_sites tail j)) z

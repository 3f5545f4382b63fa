-- The walk over the kept rules, and the gathered words.
use mathlib.Core.Path.{◌≡◌, refl, sym, ap, ◌∙◌}
use mathlib.Core.Bool.{Bool, true, false, ◌||◌}
use mathlib.Core.List.{List, []}
use Prim.Native.Nat.{ℕ, suc, ◌+◌, ◌-◌, ◌*◌, ◌/◌, ◌%◌, ◌≤◌, ◌<◌}
use native.Mathlib.Omega.{arith}
use native.Mathlib.Numerals.{add-one}
use lib.ListN.{length, get_or, set, take}
use lib.Seq.{take-suc-set}
use lib.Dec.{eqb}
use borrow.Author.Tests.{eq-eqb, ne_eqb}
use Rattle.paper.specs.Words.{any, below}
use Rattle.paper.specs.Loading.{Kept}
use Rattle.rule_words.specs.Stored.{run, base, place_at, kept_at, kept_in, kept_first}
use Rattle.rule_load.specs.Parts.{has_place, gathered}

-- the rules from i on
unfoldable pub place_from : List ℕ → ℕ → ℕ → ℕ → Bool
place_from ws place i n = any (λ (q : Kept). eqb q.place place) (run (kept_in ws) i n)

module _ (ws : List ℕ) (k place : ℕ) where
  pub place_all : place_from ws place 0 (k - 0) ≡ has_place ws k place
  unfolding place_from has_place kept_first
  place_all = let e : k - 0 ≡ k = omega arith in rw e

  step : (i n : ℕ) → place_from ws place i (suc n) ≡ (eqb (place_at ws (base i)) place || place_from ws place (suc i) n)
  unfolding place_from any run kept_in kept_at
  step i n = refl

  from : (i : ℕ) → i < k → place_from ws place i (k - i) ≡ (eqb (place_at ws (base i)) place || place_from ws place (i + 1) (k - (i + 1)))
  from i h = let e : k - i ≡ suc (k - (i + 1)) = omega arith in rw (e, step i (k - (i + 1)), add-one)

  pub place_here : (i b p : ℕ) → i < k → place_from ws place i (k - i) ≡ has_place ws k place → b ≡ base i → p ≡ place_at ws b → p ≡ place → true ≡ has_place ws k place
  place_here i b p h e f g q =
      let z : place_at ws (base i) ≡ place = ap (place_at ws) (sym f) ∙ sym g ∙ q in
      let y : eqb (place_at ws (base i)) place ≡ true = eq-eqb _ _ z in
      sym (sym e ∙ from i h ∙ ap (λ t. t || place_from ws place (i + 1) (k - (i + 1))) y)

  pub place_next : (i b p : ℕ) → i < k → place_from ws place i (k - i) ≡ has_place ws k place → b ≡ base i → p ≡ place_at ws b → (p ≡ place → ⊥) → place_from ws place (i + 1) (k - (i + 1)) ≡ has_place ws k place
  place_next i b p h e f g q =
      let z : place_at ws (base i) ≡ p = ap (place_at ws) (sym f) ∙ sym g in
      let y : eqb (place_at ws (base i)) place ≡ false = ne_eqb _ _ (λ x. q (sym z ∙ x)) in
      sym (ap (λ t. t || place_from ws place (i + 1) (k - (i + 1))) y) ∙ sym (from i h) ∙ e

  pub place_none : (i : ℕ) → k ≤ i → place_from ws place i (k - i) ≡ has_place ws k place → false ≡ has_place ws k place
  unfolding place_from any run
  place_none i h e = let z : k - i ≡ 0 = omega arith in sym (ap (place_from ws place i) z) ∙ e

-- ---- gathering
module _ (rows shapes : List ℕ) where
  pub gathered_none : [] ≡ gathered rows shapes 0
  unfolding gathered below
  gathered_none = refl

  pub gathered_turn : (out : List ℕ) (k r : ℕ) → k < length out → r ≡ get_or rows (k / 3) 0 → take k out ≡ gathered rows shapes k → take (k + 1) (set out k (get_or shapes (3 * r + k % 3) 0)) ≡ gathered rows shapes (k + 1)
  unfolding gathered below
  gathered_turn out k r h f e = rw (add-one, take-suc-set out k _ h, e, f)

pub third_below : (k held : ℕ) → k < 3 * held → k / 3 < held
third_below k held h = omega arith

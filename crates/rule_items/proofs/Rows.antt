-- A row: whether it has a constraint, and how it is written.
use mathlib.Core.Path.{◌≡◌, refl, sym, ◌∙◌, ap}
use mathlib.Core.Bool.{Bool, true, false}
use mathlib.Core.List.{List}
use Prim.Native.Nat.{ℕ, ◌+◌, ◌*◌, ◌<◌}
use native.Mathlib.Omega.{arith}
use lib.ListN.{get_or}
use lib.Dec.{eqb}
use borrow.Author.Tests.{eqb-true, eqb-false}
use Rattle.paper.specs.declared.Constraint.{Constraint}
use Rattle.paper.specs.Sites.{same_constraint}
use Rattle.rule_words.specs.Packing.{head, second, third, unpack, InRange}
use Rattle.rule_words.specs.Stored.{constraint_at}
use Rattle.rule_words.proofs.PackLaws.{unpack_pack, same_words, other_head, other_second, other_third}
use Rattle.rule_rows.specs.Holding.{shape_in}
use Rattle.rule_items.specs.Way.{Worded}

-- ---- the constraint of a row

shape_is : (words : List ℕ) (i : ℕ) → shape_in words i ≡ unpack (get_or words (3 * i) 0) (get_or words (3 * i + 1) 0) (get_or words (3 * i + 2) 0)
unfolding shape_in constraint_at
shape_is words i = refl

module _ (words : List ℕ) (i k : ℕ) (c : Constraint) (R : InRange c) (ek : k ≡ 3 * i) where
  pub row_first : (a x : ℕ) → a ≡ head c → x ≡ get_or words k 0 → (a ≡ x → ⊥) → false ≡ same_constraint c (shape_in words i)
  row_first a x ea ex h =
      let q = other_head (head c) (second c) (third c) (get_or words (3 * i) 0) (get_or words (3 * i + 1) 0) (get_or words (3 * i + 2) 0) (λ e. h (ea ∙ e ∙ sym (ex ∙ ap (λ j. get_or words j 0) ek))) in
      sym (rw shape_is (rw (unpack_pack c R) at q))

  pub row_second : (b y : ℕ) → b ≡ second c → y ≡ get_or words (k + 1) 0 → (b ≡ y → ⊥) → false ≡ same_constraint c (shape_in words i)
  row_second b y eb ey h =
      let q = other_second (head c) (second c) (third c) (get_or words (3 * i) 0) (get_or words (3 * i + 1) 0) (get_or words (3 * i + 2) 0) (λ e. h (eb ∙ e ∙ sym (ey ∙ ap (λ j. get_or words (j + 1) 0) ek))) in
      sym (rw shape_is (rw (unpack_pack c R) at q))

  pub row_third : (a b d x y z : ℕ) → a ≡ head c → b ≡ second c → d ≡ third c → x ≡ get_or words k 0 → y ≡ get_or words (k + 1) 0 → z ≡ get_or words (k + 2) 0 → a ≡ x → b ≡ y → eqb d z ≡ same_constraint c (shape_in words i)
  row_third a b d x y z ea eb ed ex ey ez p q = go (eqb d z) refl
    where
      fx : x ≡ get_or words (3 * i) 0
      fx = ex ∙ ap (λ j. get_or words j 0) ek

      fy : y ≡ get_or words (3 * i + 1) 0
      fy = ey ∙ ap (λ j. get_or words (j + 1) 0) ek

      fz : z ≡ get_or words (3 * i + 2) 0
      fz = ez ∙ ap (λ j. get_or words (j + 2) 0) ek

      go : (t : Bool) → eqb d z ≡ t → t ≡ same_constraint c (shape_in words i)
      go true e =
          let u = same_words (head c) (second c) (third c) (get_or words (3 * i) 0) (get_or words (3 * i + 1) 0) (get_or words (3 * i + 2) 0) (sym ea ∙ p ∙ fx) (sym eb ∙ q ∙ fy) (sym ed ∙ eqb-true d z e ∙ fz) in
          sym (rw shape_is (rw (unpack_pack c R) at u))
      go false e =
          let u = other_third (head c) (second c) (third c) (get_or words (3 * i) 0) (get_or words (3 * i + 1) 0) (get_or words (3 * i + 2) 0) (λ f. eqb-false d z e (ed ∙ f ∙ sym fz)) in
          sym (rw shape_is (rw (unpack_pack c R) at u))

-- what a row that was written reads
pub worded_shape : (words : List ℕ) (i : ℕ) (c : Constraint) (a b d : ℕ) (words' : List ℕ) → InRange c → a ≡ head c → b ≡ second c → d ≡ third c → Worded words i a b d words' → shape_in words' i ≡ c
worded_shape words i c a b d words' R ea eb ed W =
    let x = W.one ∙ ea in
    let y = W.two ∙ eb in
    let z = W.three ∙ ed in
    let q : unpack (get_or words' (3 * i) 0) (get_or words' (3 * i + 1) 0) (get_or words' (3 * i + 2) 0) ≡ unpack (head c) (second c) (third c) = rw (x, y, z) in
    shape_is words' i ∙ q ∙ unpack_pack c R

pub worded_older : (words : List ℕ) (i a b d : ℕ) (words' : List ℕ) → Worded words i a b d words' → (j : ℕ) → j < i → shape_in words' j ≡ shape_in words j
worded_older words i a b d words' W j h =
    let x = W.other (3 * j) (omega arith) in
    let y = W.other (3 * j + 1) (omega arith) in
    let z = W.other (3 * j + 2) (omega arith) in
    let q : unpack (get_or words' (3 * j) 0) (get_or words' (3 * j + 1) 0) (get_or words' (3 * j + 2) 0) ≡ unpack (get_or words (3 * j) 0) (get_or words (3 * j + 1) 0) (get_or words (3 * j + 2) 0) = rw (x, y, z) in
    shape_is words' j ∙ q ∙ sym (shape_is words j)

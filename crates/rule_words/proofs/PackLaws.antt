-- Packing loses nothing, and two stored constraints are one exactly when their words are.
use mathlib.Core.Path.{◌≡◌, refl, sym, ap, ◌∙◌}
use mathlib.Core.Bool.{Bool, true, false, ◌&&◌}
use Prim.Native.Nat.{ℕ, ◌+◌, ◌/◌, ◌%◌, ◌<◌}
use native.Mathlib.Omega.{arith}
use lib.Dec.{eqb, ltb}
use borrow.Author.Tests.{eqb-true, eqb-false, ltb-true, ne_eqb}
use Rattle.paper.specs.declared.Constraint.{Constraint}
use Rattle.paper.specs.declared.Constraint.TheVariants.{Variant, Struct, ConstBool, ConstInt, ConstPrim, Some}
use Rattle.std.specs.Prelude.{if◌then◌else◌}
use Rattle.paper.specs.Words.{flag}
use Rattle.paper.specs.Sites.{same_constraint, constraint_body}
use Rattle.paper.proofs.Laws.{same_list_refl, same_constraint_true}
use Rattle.paper.proofs.Lists.{and_both, and_false}
use Rattle.rule_words.specs.Packing.{head, second, third, unpack, narrow, InRange}

choose : (P : Constraint → Type 0) (t : Bool) (x y : Constraint) → (t ≡ true → P x) → P y → P (if t then x else y)
choose P true x y f h = f refl
choose P false x y f h = h

-- ---- back and forth

-- every triple of words is the packing of what it is read as
abbrev pub Packs : ℕ → ℕ → ℕ → Constraint → Type 0
Packs a b c k = (head k ≡ a) × ((second k ≡ b) × (third k ≡ c))

flag_of : (b : ℕ) (t : Bool) → eqb b 1 ≡ t → b < 2 → flag t ≡ b
flag_of b true e h = sym (eqb-true b 1 e)
flag_of b false e h = let n = eqb-false b 1 e in omega arith

pub pack_unpack : (a b c : ℕ) → Packs a b c (unpack a b c)
unfolding unpack
pack_unpack a b c = choose (Packs a b c) is_struct_kind _ _ struct (choose (Packs a b c) is_bool_kind _ _ bool (choose (Packs a b c) is_int_kind _ _ int (choose (Packs a b c) is_prim_kind _ _ prim (choose (Packs a b c) is_some_kind _ _ some_one (refl, (refl, refl))))))
  where
    is_struct_kind : Bool
    is_struct_kind = eqb (a / 65536) 1 && eqb c 0

    is_bool_kind : Bool
    is_bool_kind = eqb (a / 65536) 2 && (ltb b 2 && eqb c 0)

    is_int_kind : Bool
    is_int_kind = eqb (a / 65536) 3

    is_prim_kind : Bool
    is_prim_kind = eqb (a / 65536) 4 && (eqb b 0 && eqb c 0)

    is_some_kind : Bool
    is_some_kind = eqb (a / 65536) 5 && (eqb (a % 65536) 0 && (eqb b 0 && eqb c 0))

    struct : is_struct_kind ≡ true → Packs a b c (Struct (a % 65536) b)
    struct e =
        let p = and_both (eqb (a / 65536) 1) (eqb c 0) e in
        let u = eqb-true (a / 65536) 1 p.0 in
        (omega arith, (refl, sym (eqb-true c 0 p.1)))

    bool : is_bool_kind ≡ true → Packs a b c (ConstBool (a % 65536) (eqb b 1))
    bool e =
        let p = and_both (eqb (a / 65536) 2) (ltb b 2 && eqb c 0) e in
        let q = and_both (ltb b 2) (eqb c 0) p.1 in
        let u = eqb-true (a / 65536) 2 p.0 in
        (omega arith, (flag_of b (eqb b 1) refl (ltb-true b 2 q.0), sym (eqb-true c 0 q.1)))

    int : is_int_kind ≡ true → Packs a b c (ConstInt (a % 65536) b c)
    int e = let u = eqb-true (a / 65536) 3 e in (omega arith, (refl, refl))

    prim : is_prim_kind ≡ true → Packs a b c (ConstPrim (a % 65536))
    prim e =
        let p = and_both (eqb (a / 65536) 4) (eqb b 0 && eqb c 0) e in
        let q = and_both (eqb b 0) (eqb c 0) p.1 in
        let u = eqb-true (a / 65536) 4 p.0 in
        (omega arith, (sym (eqb-true b 0 q.0), sym (eqb-true c 0 q.1)))

    some_one : is_some_kind ≡ true → Packs a b c Some
    some_one e =
        let p = and_both (eqb (a / 65536) 5) (eqb (a % 65536) 0 && (eqb b 0 && eqb c 0)) e in
        let o = and_both (eqb (a % 65536) 0) (eqb b 0 && eqb c 0) p.1 in
        let q = and_both (eqb b 0) (eqb c 0) o.1 in
        let u = eqb-true (a / 65536) 5 p.0 in
        let v = eqb-true (a % 65536) 0 o.0 in
        (omega arith, (sym (eqb-true b 0 q.0), sym (eqb-true c 0 q.1)))

-- packing loses nothing on values in range
pub unpack_pack : (c : Constraint) → InRange c → unpack (head c) (second c) (third c) ≡ c
unfolding unpack
unpack_pack (Variant t v n) h = let d : t / 65536 ≡ 0 = omega arith in rw d
unpack_pack (Struct t n) h = let d : (65536 + t) / 65536 ≡ 1 = omega arith in let m : (65536 + t) % 65536 ≡ t = omega arith in rw (d, m)
unpack_pack (ConstBool t true) h = let d : (131072 + t) / 65536 ≡ 2 = omega arith in let m : (131072 + t) % 65536 ≡ t = omega arith in rw (d, m)
unpack_pack (ConstBool t false) h = let d : (131072 + t) / 65536 ≡ 2 = omega arith in let m : (131072 + t) % 65536 ≡ t = omega arith in rw (d, m)
unpack_pack (ConstInt t a b) h = let d : (196608 + t) / 65536 ≡ 3 = omega arith in let m : (196608 + t) % 65536 ≡ t = omega arith in rw (d, m)
unpack_pack (ConstPrim v) h = let d : (262144 + v) / 65536 ≡ 4 = omega arith in let m : (262144 + v) % 65536 ≡ v = omega arith in rw (d, m)
unpack_pack Some h = refl

pub narrow_same : (c : Constraint) → InRange c → narrow c ≡ c
narrow_same (Variant t v n) h = let x : t % 65536 ≡ t = omega arith in let y : v % 65536 ≡ v = omega arith in let z : n % 256 ≡ n = omega arith in cc
narrow_same (Struct t n) h = let z : n % 256 ≡ n = omega arith in cc
narrow_same (ConstBool t v) h = refl
narrow_same (ConstInt t a b) h = refl
narrow_same (ConstPrim v) h = refl
narrow_same Some h = refl

-- ---- what words are read as, test by test
module _ (a b c : ℕ) where
  pub as_other : (a / 65536 ≡ 3 → ⊥) → (c ≡ 0 → ⊥) → unpack a b c ≡ Variant a b c
  unfolding unpack
  as_other k z = simp (ne_eqb _ _ k, ne_eqb _ _ z, and_false)

-- ---- two constraints are one exactly when their words are

pub same_refl : (k : Constraint) → same_constraint k k ≡ true
unfolding same_constraint
same_refl k = same_list_refl (constraint_body k)

pub same_not : (k l : Constraint) → (k ≡ l → ⊥) → same_constraint k l ≡ false
same_not k l f = go (same_constraint k l) refl
  where
    go : (t : Bool) → same_constraint k l ≡ t → t ≡ false
    go true e = absurd (f (same_constraint_true k l e))
    go false e = refl

module _ (a b c d e f : ℕ) where
  pub same_words : a ≡ d → b ≡ e → c ≡ f → same_constraint (unpack a b c) (unpack d e f) ≡ true
  same_words p q r =
      let k : unpack a b c ≡ unpack d e f = cc in
      ap (λ l. same_constraint l (unpack d e f)) k ∙ same_refl (unpack d e f)

  pub other_head : (a ≡ d → ⊥) → same_constraint (unpack a b c) (unpack d e f) ≡ false
  other_head n = same_not _ _ (λ k. n (sym (pack_unpack a b c).0 ∙ (ap head k ∙ (pack_unpack d e f).0)))

  pub other_second : (b ≡ e → ⊥) → same_constraint (unpack a b c) (unpack d e f) ≡ false
  other_second n = same_not _ _ (λ k. n (sym (pack_unpack a b c).1.0 ∙ (ap second k ∙ (pack_unpack d e f).1.0)))

  pub other_third : (c ≡ f → ⊥) → same_constraint (unpack a b c) (unpack d e f) ≡ false
  other_third n = same_not _ _ (λ k. n (sym (pack_unpack a b c).1.1 ∙ (ap third k ∙ (pack_unpack d e f).1.1)))

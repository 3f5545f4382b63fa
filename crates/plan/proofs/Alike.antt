-- The overlap answer of two rules does not depend on which stands first. Of rules whose constrained sites ascend.
use mathlib.Core.Path.{◌≡◌, refl, sym, ap}
use mathlib.Core.Bool.{Bool, true, false, ◌&&◌, not}
use mathlib.Core.Option.{Option, none, some}
use mathlib.Core.Logic.{◌⊎◌, inl, inr}
use mathlib.Core.List.{[], ◌∷◌, Memᴰ}
use Prim.Native.Nat.{ℕ, suc, ◌≤◌}
use native.Mathlib.Omega.{arith}
use lib.ListN.{length}
use lib.Dec.{leb}
use borrow.Author.Tests.{leb-true, leb-false}
use Rattle.paper.specs.declared.Constraint.{Constraint}
use Rattle.std.specs.Prelude.{if◌then◌else◌}
use Rattle.paper.specs.Words.{look}
use Rattle.paper.specs.Sites.{same_constraint}
use Rattle.paper.proofs.Laws.{same_constraint_true}
use Rattle.paper.specs.Loading.{Kept, Constraints}
use Rattle.paper.specs.Rules.{other_there, same_there, differ, within, no_equals, compare_with, may_overlap}
use Rattle.paper.proofs.Tables.{Rising, above, look_in, in_look}
use Rattle.plan.proofs.Tools.{apart, either, is_false, same_test, of_every, of_any, in_any, same_constraint_refl}

-- ---- differ

other_both : (c d : Constraint) → same_constraint c d ≡ false → same_constraint d c ≡ false
other_both c d e = is_false (same_constraint d c) (λ t. let q = same_constraint_true d c t in let s : same_constraint c d ≡ true = rw q (same_constraint_refl c) in apart s e)

other_is : (o : Option Constraint) (c : Constraint) → other_there o c ≡ true → (d : Constraint) × (o ≡ some d) × (same_constraint c d ≡ false)
other_is none c e = absurd (apart e refl)
other_is (some d) c e = (d, refl, is_false (same_constraint c d) (λ t. let z : not true ≡ true = rw t at e in apart z refl))

differ_back : (a b : Constraints) → Rising 0 a → differ a b ≡ true → differ b a ≡ true
unfolding differ
differ_back a b r e =
    let w = of_any (λ (p : ℕ × Constraint). other_there (look b p.0) p.1) a e in
    let o = other_is (look b w.0.0) w.0.1 w.2 in
    let s = other_both w.0.1 o.0 o.2 in
    let l = in_look 0 a w.0 r w.1 in
    in_any (λ (p : ℕ × Constraint). other_there (look a p.0) p.1) b (w.0.0, o.0) (look_in b w.0.0 o.0 o.1) (rw (l, s) refl)

pub differ_both : (a b : Constraints) → Rising 0 a → Rising 0 b → differ a b ≡ differ b a
differ_both a b r s = same_test (differ a b) (differ b a) (differ_back a b r) (differ_back b a s)

-- ---- within, of as many

abbrev In : Constraints → Constraints → Type 0
In a b = (p : ℕ × Constraint) → Memᴰ p a → Memᴰ p b

same_is : (o : Option Constraint) (c : Constraint) → same_there o c ≡ true → o ≡ some c
same_is none c e = absurd (apart e refl)
same_is (some d) c e = ap some (sym (same_constraint_true c d e))

within_in : (a b : Constraints) → within a b ≡ true → In a b
unfolding within
within_in a b e p m = look_in b p.0 p.1 (same_is (look b p.0) p.1 (of_every (λ (p : ℕ × Constraint). same_there (look b p.0) p.1) a e p m))

-- the first of both is one, or the first of b is not in a
in_tails : (n m : ℕ) (x y : ℕ × Constraint) (a b : Constraints) → Rising n (x ∷ a) → Rising m (y ∷ b) → In (x ∷ a) (y ∷ b) → ((x ≡ y) × In a b) ⊎ In (x ∷ a) b
in_tails n m x y a b r s f = go (f x (Memᴰ.head refl))
  where
    past : (p : ℕ × Constraint) → (p ≡ y → ⊥) → Memᴰ p (y ∷ b) → Memᴰ p b
    past p g (Memᴰ.head q) = absurd (g q)
    past p g (Memᴰ.tail q) = q

    go : Memᴰ x (y ∷ b) → ((x ≡ y) × In a b) ⊎ In (x ∷ a) b
    go (Memᴰ.head q) = inl (q, λ p k. past p (λ z. let l = above (suc x.0) a p r.1 k in let u = ap (λ w. w.0) z in let v = ap (λ w. w.0) q in omega arith) (f p (Memᴰ.tail k)))
    go (Memᴰ.tail q) = inr (λ p k. past p (λ z. let l = above x.0 (x ∷ a) p ((omega arith), r.1) k in let u = ap (λ w. w.0) z in let v = above (suc y.0) b x s.1 q in omega arith) (f p k))

in_fewer : (b a : Constraints) (n m : ℕ) → Rising n a → Rising m b → In a b → length a ≤ length b
in_fewer [] [] n m r s f = omega arith
in_fewer [] (x ∷ a) n m r s f = elim (f x (Memᴰ.head refl)) [ ]
in_fewer (y ∷ b) [] n m r s f = omega arith
in_fewer (y ∷ b) (x ∷ a) n m r s f = go (in_tails n m x y a b r s f) (λ c k t g. in_fewer b c k (suc y.0) t s.1 g)
  where
    go : ((x ≡ y) × In a b) ⊎ In (x ∷ a) b → ((a : Constraints) (n : ℕ) → Rising n a → In a b → length a ≤ length b) → length (x ∷ a) ≤ length (y ∷ b)
    go (inl q) h = let i = h a (suc x.0) r.1 q.1 in omega arith
    go (inr q) h = let i = h (x ∷ a) n r q in omega arith

-- "subset" of as many constraints: the same constraints
pub in_same : (n m : ℕ) (a b : Constraints) → Rising n a → Rising m b → In a b → length a ≡ length b → a ≡ b
in_same n m [] [] r s f e = refl
in_same n m [] (y ∷ b) r s f e = absurd (omega arith)
in_same n m (x ∷ a) [] r s f e = absurd (omega arith)
in_same n m (x ∷ a) (y ∷ b) r s f e = go (in_tails n m x y a b r s f) (λ g. in_same (suc x.0) (suc y.0) a b r.1 s.1 g (omega arith))
  where
    go : ((x ≡ y) × In a b) ⊎ In (x ∷ a) b → (In a b → a ≡ b) → ◌≡◌ {A = Constraints} (x ∷ a) (y ∷ b)
    go (inl q) h = let t = h q.1 in let u = q.0 in cc
    go (inr q) h = let i = in_fewer b (x ∷ a) n (suc y.0) r s.1 q in absurd (omega arith)

within_back : (a b : Constraints) → Rising 0 a → Rising 0 b → length a ≡ length b → within a b ≡ true → within b a ≡ true
within_back a b r s l e = let q = in_same 0 0 a b r s (within_in a b e) l in let z : within b b ≡ true = rw q at e in rw q z

pub within_both : (a b : Constraints) → Rising 0 a → Rising 0 b → length a ≡ length b → within a b ≡ within b a
within_both a b r s l = same_test (within a b) (within b a) (within_back a b r s l) (within_back b a s r (sym l))

-- ---- the answer

and_turn : (a b c : Bool) → (a && (b && c)) ≡ (b && (a && c))
and_turn true true c = refl
and_turn true false c = refl
and_turn false true c = refl
and_turn false false c = refl

compare_both : (a b : Kept) → Rising 0 a.constraints → Rising 0 b.constraints → length a.constraints ≡ length b.constraints → compare_with a b ≡ compare_with b a
unfolding compare_with
compare_both a b r s l =
    let d = differ_both a.constraints b.constraints r s in
    let w = within_both a.constraints b.constraints r s l in
    let t = and_turn (no_equals a.equals) (no_equals b.equals) (within b.constraints a.constraints) in
    rw (d, w, t) refl

pub overlap_both : (a b : Kept) → Rising 0 a.constraints → Rising 0 b.constraints → may_overlap a b ≡ may_overlap b a
unfolding may_overlap
overlap_both a b r s = go (either (leb la lb)) (either (leb lb la))
  where
    la : ℕ
    la = length a.constraints

    lb : ℕ
    lb = length b.constraints

    go : (leb la lb ≡ true) ⊎ (leb la lb ≡ false) → (leb lb la ≡ true) ⊎ (leb lb la ≡ false) → (if leb la lb then compare_with a b else compare_with b a) ≡ (if leb lb la then compare_with b a else compare_with a b)
    go (inl p) (inl q) = let u = leb-true la lb p in let v = leb-true lb la q in let w = compare_both a b r s (omega arith) in rw (p, q) w
    go (inl p) (inr q) = rw (p, q) refl
    go (inr p) (inl q) = rw (p, q) refl
    go (inr p) (inr q) = let u = leb-false la lb p in let v = leb-false lb la q in absurd (omega arith)

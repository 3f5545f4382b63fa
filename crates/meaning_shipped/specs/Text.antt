-- The text of findings says them: no two lists of findings have one text.
use Rattle.std.specs.Prelude.{◌≡◌, refl, Bool, true, false, List, [], ◌∷◌, ◌++◌, map, ℕ, ◌+◌, ◌/◌, ◌%◌, ltb}
use Rattle.std.proofs.Common.{sym, arith, ltb-true, ltb-false}
use Rattle.std.specs.Prelude.{if◌then◌else◌}
use Rattle.paper.specs.Words.{joined}
use Rattle.paper.specs.Layout.{digit_of, hex}

-- a digit says its value, and is no LF
same_digit : (v w : ℕ) → digit_of v ≡ digit_of w → v ≡ w
unfolding digit_of
same_digit v w e = go (ltb v 10) refl (ltb w 10) refl e
  where
    go : (a : Bool) → ltb v 10 ≡ a → (b : Bool) → ltb w 10 ≡ b → (if a then v + 48 else v + 55) ≡ (if b then w + 48 else w + 55) → v ≡ w
    go true p true q e = omega arith
    go true p false q e = let x = ltb-true v 10 p in let y = ltb-false w 10 q in absurd (omega arith)
    go false p true q e = let x = ltb-false v 10 p in let y = ltb-true w 10 q in absurd (omega arith)
    go false p false q e = omega arith

no_feed : (v : ℕ) → 10 ≡ digit_of v → ⊥
unfolding digit_of
no_feed v e = go (ltb v 10) e
  where
    go : (a : Bool) → 10 ≡ (if a then v + 48 else v + 55) → ⊥
    go true e = omega arith
    go false e = omega arith

-- the first line, and what is behind it
same_line : (f g s t : List ℕ) → hex f ++ s ≡ hex g ++ t → (f ≡ g) × (s ≡ t)
unfolding hex
same_line [] [] s t e = let q : s ≡ t = cc in (refl, q)
same_line [] (b ∷ g) s t e = let q : 10 ≡ digit_of (b / 16) = cc in absurd (no_feed (b / 16) q)
same_line (a ∷ f) [] s t e = let q : 10 ≡ digit_of (a / 16) = cc in absurd (no_feed (a / 16) q)
same_line (a ∷ f) (b ∷ g) s t e =
    let x : digit_of (a / 16) ≡ digit_of (b / 16) = cc in
    let y : digit_of (a % 16) ≡ digit_of (b % 16) = cc in
    let z : hex f ++ s ≡ hex g ++ t = cc in
    let i = same_digit (a / 16) (b / 16) x in
    let j = same_digit (a % 16) (b % 16) y in
    let k : a ≡ b = omega arith in
    let r = same_line f g s t z in
    let l = r.0 in
    (rw (k, l) refl, r.1)

some_line : (f s : List ℕ) → [] ≡ hex f ++ s → ⊥
unfolding hex
some_line [] s e = let z : ◌≡◌ {A = ℕ} 0 1 = cc in omega arith
some_line (b ∷ f) s e = let z : ◌≡◌ {A = ℕ} 0 1 = cc in omega arith

pub same_text : (fs gs : List (List ℕ)) → joined (map hex fs) ≡ joined (map hex gs) → fs ≡ gs
unfolding joined
same_text [] [] e = refl
same_text [] (g ∷ gs) e = absurd (some_line g (joined (map hex gs)) e)
same_text (f ∷ fs) [] e = absurd (some_line f (joined (map hex fs)) (sym e))
same_text (f ∷ fs) (g ∷ gs) e =
    let r = same_line f g (joined (map hex fs)) (joined (map hex gs)) e in
    let l = r.0 in
    let q = same_text fs gs r.1 in
    rw (l, q) refl

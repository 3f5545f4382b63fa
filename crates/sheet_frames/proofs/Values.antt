-- The table of digits' values is right, by one test that is computed, an entry after the other.
use mathlib.Core.Path.{◌≡◌, refl, ap, ◌∙◌}
use mathlib.Core.Bool.{Bool, true, false, ◌&&◌}
use mathlib.Core.List.{List, [], ◌∷◌}
use Prim.Native.Nat.{ℕ, zero, suc, ◌+◌, ◌-◌, ◌≤◌, ◌<◌}
use native.Mathlib.Omega.{arith}
use lib.ListN.{length, get_or}
use lib.Dec.{eqb, leb}
use borrow.Author.Tests.{eqb-true, leb-true, lt-ltb, le-ltb}
use Rattle.paper.specs.Layout.{digit}
use Rattle.sheet_frames.specs.Said.{values_said}

-- the entries of vs are the values of i and what follows it
abbrev right : ℕ → List ℕ → Bool
right i [] = true
right i (v ∷ vs) = eqb v (digit i) && (leb v 16 && right (suc i) vs)

first : (a b : Bool) → a && b ≡ true → a ≡ true
first true b e = refl
first false b e = e

second : (a b : Bool) → a && b ≡ true → b ≡ true
second true b e = e
second false b e = absurd (let z : ◌≡◌ {A = ℕ} 0 1 = cc in omega arith)

right_at : (i : ℕ) (vs : List ℕ) → right i vs ≡ true → (k : ℕ) → k < length vs → (get_or vs k 0 ≡ digit (i + k)) × (get_or vs k 0 ≤ 16)
right_at i [] e k h = absurd (omega arith)
right_at i (v ∷ vs) e zero h =
    let n : i ≡ i + 0 = omega arith in
    let t = second (eqb v (digit i)) _ e in
    (eqb-true v (digit i) (first (eqb v (digit i)) _ e) ∙ ap digit n, leb-true v 16 (first (leb v 16) _ t))
right_at i (v ∷ vs) e (suc k) h =
    let n : suc i + k ≡ i + suc k = omega arith in
    let t = second (eqb v (digit i)) _ e in
    let r = right_at (suc i) vs (second (leb v 16) _ t) k (omega arith) in
    (r.0 ∙ ap digit n, r.1)

pub value_at : (d : ℕ) → 48 ≤ d → d ≤ 70 → (get_or values_said (d - 48) 0 ≡ digit d) × (get_or values_said (d - 48) 0 ≤ 16)
unfolding digit
value_at d a b =
    let r = right_at 48 values_said refl (d - 48) (omega arith) in
    let n : 48 + (d - 48) ≡ d = omega arith in
    (r.0 ∙ ap digit n, r.1)

-- the same, of a table that is this one
pub value_in : (vs : List ℕ) (d : ℕ) → vs ≡ values_said → 48 ≤ d → d ≤ 70 → (get_or vs (d - 48) 0 ≡ digit d) × (get_or vs (d - 48) 0 ≤ 16)
value_in vs d e a b = rw e (value_at d a b)

pub values_long : (vs : List ℕ) → vs ≡ values_said → length vs ≡ 23
values_long vs e = rw e

pub value_low : (d : ℕ) → d < 48 → (16 ≡ digit d) × (16 ≤ 16)
unfolding digit
value_low d h = (rw (lt-ltb d 48 h), omega arith)

pub value_high : (d : ℕ) → 70 < d → (16 ≡ digit d) × (16 ≤ 16)
unfolding digit
value_high d h = (rw (le-ltb d 48 (omega arith), le-ltb d 58 (omega arith), le-ltb d 65 (omega arith), le-ltb d 71 (omega arith)), omega arith)

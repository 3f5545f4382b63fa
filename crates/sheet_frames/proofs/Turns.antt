-- What the needs of the layout's code ask, over plain variables.
use mathlib.Core.Path.{◌≡◌, refl, ap, ◌∙◌}
use mathlib.Core.List.{List}
use Prim.Native.Nat.{ℕ, suc, ◌+◌, ◌*◌}
use native.Mathlib.Omega.{arith}
use lib.ListN.{get_or}
use Rattle.sheet_frames.specs.Said.{number_at}

-- ---- numbers
pub two_law : (s : List ℕ) (at r : ℕ) → r ≡ get_or s at 0 * 256 + get_or s (at + 1) 0 → r ≡ number_at s 0 2 at
unfolding number_at
two_law s at r p =
    let e : get_or s (at + 1) 0 ≡ get_or s (suc at) 0 = ap (λ i. get_or s i 0) (let e : at + 1 ≡ suc at = omega arith in e) in
    omega arith

two_on : (s : List ℕ) (n at : ℕ) → number_at s n 2 at ≡ n * 65536 + number_at s 0 2 at
unfolding number_at
two_on s n at = omega arith

four_split : (s : List ℕ) (n at : ℕ) → number_at s n 4 at ≡ number_at s (number_at s n 2 at) 2 (suc (suc at))
unfolding number_at
four_split s n at = refl

pub four_law : (s : List ℕ) (at a b : ℕ) → a ≡ number_at s 0 2 at → b ≡ number_at s 0 2 (at + 2) → a * 65536 + b ≡ number_at s 0 4 at
four_law s at a b p q =
    let e : at + 2 ≡ suc (suc at) = omega arith in
    let r : b ≡ number_at s 0 2 (suc (suc at)) = q ∙ ap (number_at s 0 2) e in
    let t = four_split s 0 at in
    let u = two_on s (number_at s 0 2 at) (suc (suc at)) in
    omega arith

four_on : (s : List ℕ) (n at : ℕ) → number_at s n 4 at ≡ n * 4294967296 + number_at s 0 4 at
unfolding number_at
four_on s n at = omega arith

eight_split : (s : List ℕ) (n at : ℕ) → number_at s n 8 at ≡ number_at s (number_at s n 4 at) 4 (suc (suc (suc (suc at))))
unfolding number_at
eight_split s n at = refl

pub eight_law : (s : List ℕ) (at a b : ℕ) → a ≡ number_at s 0 4 at → b ≡ number_at s 0 4 (at + 4) → a * 4294967296 + b ≡ number_at s 0 8 at
eight_law s at a b p q =
    let e : at + 4 ≡ suc (suc (suc (suc at))) = omega arith in
    let r : b ≡ number_at s 0 4 (suc (suc (suc (suc at)))) = q ∙ ap (number_at s 0 4) e in
    let t = eight_split s 0 at in
    let u = four_on s (number_at s 0 4 at) (suc (suc (suc (suc at)))) in
    omega arith

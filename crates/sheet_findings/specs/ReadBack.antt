-- A finding's line is read back: it is one line of upper-case hexadecimal, and its digits write the finding's bytes.
use Rattle.std.specs.Prelude.{◌≡◌, refl, Bool, true, false, List, [], ◌∷◌, ◌++◌, ℕ, ◌+◌, ◌*◌, ◌/◌, ◌%◌, ◌≤◌, ◌<◌, eqb, ltb}
use Rattle.std.proofs.Common.{arith, lt-ltb, le-ltb, ne_eqb, ltb-true, ltb-false}
use Rattle.std.proofs.Math.Option.{some}
use Rattle.paper.specs.Layout.{line, lines, digit, digit_of, bytes, hex}
use Rattle.sheet_findings.specs.Written.{digits_of}

abbrev pub AllBytes : List ℕ → Type 0
AllBytes [] = Unit {0}
AllBytes (b ∷ s) = (b < 256) × AllBytes s

low_digit : (v : ℕ) → v < 10 → digit_of v ≡ v + 48
unfolding digit_of
low_digit v h = rw (lt-ltb v 10 h)

high_digit : (v : ℕ) → 10 ≤ v → digit_of v ≡ v + 55
unfolding digit_of
high_digit v h = rw (le-ltb v 10 h)

digit_low : (v : ℕ) → v < 10 → digit (v + 48) ≡ v
unfolding digit
digit_low v h = rw (le-ltb (v + 48) 48 (omega arith), lt-ltb (v + 48) 58 (omega arith)) (omega arith)

digit_high : (v : ℕ) → 10 ≤ v → v < 16 → digit (v + 55) ≡ v
unfolding digit
digit_high v h l =
    rw (
      le-ltb (v + 55) 48 (omega arith),
      le-ltb (v + 55) 58 (omega arith),
      le-ltb (v + 55) 65 (omega arith),
      lt-ltb (v + 55) 71 (omega arith),
    ) (omega arith)

-- a digit is the value that it was written for, and no LF
digit_back : (v : ℕ) → v < 16 → (digit (digit_of v) ≡ v) × (eqb (digit_of v) 10 ≡ false)
digit_back v h = go (ltb v 10) refl
  where
    go : (t : Bool) → ltb v 10 ≡ t → (digit (digit_of v) ≡ v) × (eqb (digit_of v) 10 ≡ false)
    go true e = let l = ltb-true v 10 e in let d = low_digit v l in (rw d (digit_low v l), ne_eqb (digit_of v) 10 (λ q. omega arith))
    go false e = let l = ltb-false v 10 e in let d = high_digit v l in (rw d (digit_high v l h), ne_eqb (digit_of v) 10 (λ q. omega arith))

pub digits_back : (s : List ℕ) → AllBytes s → bytes (digits_of s) ≡ some s
unfolding bytes digits_of
digits_back [] h = refl
digits_back (b ∷ s) h =
    let lo = h.0 in
    let one = digit_back (b / 16) (omega arith) in
    let other = digit_back (b % 16) (omega arith) in
    let w : b / 16 * 16 + b % 16 ≡ b = omega arith in
    rw (digits_back s h.1, one.0, other.0, lt-ltb (b / 16) 16 (omega arith), lt-ltb (b % 16) 16 (omega arith), w)

pub line_back : (s t : List ℕ) → AllBytes s → lines (hex s ++ t) ≡ line (digits_of s) (lines t)
unfolding lines hex digits_of
line_back [] t h = refl
line_back (b ∷ s) t h =
    let lo = h.0 in
    let one = digit_back (b / 16) (omega arith) in
    let other = digit_back (b % 16) (omega arith) in
    rw (one.1, other.1, line_back s t h.1)

-- Laws of lines in lent memory.
use mathlib.Core.Path.{◌≡◌, refl, sym, ap, ◌∙◌}
use mathlib.Core.Bool.{true, false}
use mathlib.Core.List.{List, [], ◌∷◌}
use Prim.Native.Nat.{ℕ, ◌+◌, ◌*◌, ◌≤◌, ◌<◌}
use native.Mathlib.Omega.{arith}
use lib.ListN.{length, set, length-append}
use Rattle.std.proofs.lemmas.List.Edits.{sets, sets-eq}
use lib.Dec.{leb}
use borrow.Author.Tests.{le-leb, lt-leb}
use Rattle.std.specs.declared.option.Option.TheVariants.{None, Some}
use Rattle.paper.specs.declared.Refusal.{Refusal}
use Rattle.paper.specs.Numbers.{number}
use Rattle.paper.specs.Layout.{hex}
use Rattle.paper.specs.Sheets.{refusal_found, stop_found}
use Rattle.sheet_digits.proofs.DigitLaws.{hex_digits, length_digits, then_sets}
use Rattle.paper.specs.Answered.{Maybe}
use Rattle.sheet_findings.specs.Written.{written_at, room_said, room_after, digits_of, five_found}

-- ---- digits
length_hex : (b : List ℕ) → length (hex b) ≡ 2 * length b + 1
length_hex b = ap length (hex_digits b) ∙ (length-append (digits_of b) (10 ∷ []) ∙ ap (λ n. n + 1) (length_digits b))

-- ---- LF behind the digits
ended : (m : List ℕ) (at : ℕ) (b : List ℕ) → at + (2 * length b + 1) ≤ length m → set (sets m at (digits_of b)) (at + 2 * length b) 10 ≡ written_at m at (hex b)
unfolding written_at
ended m at b h =
    let d = digits_of b in
    let n = length_digits b in
    let k = length_hex b in
    let one = then_sets m (sets m at d) (set (sets m at d) (at + 2 * length b) 10) at (at + 2 * length b) d (10 ∷ []) refl (omega arith) refl in
    one ∙ (ap (sets m at) (sym (hex_digits b)) ∙ sets-eq (hex b) m at (omega arith))

-- ---- what the needs ask
pub short_room : (m : List ℕ) (at : ℕ) (b : List ℕ) → length m < at + (2 * length b + 1) → (None ≡ room_said m at (hex b)) × (m ≡ room_after m at (hex b))
unfolding room_said room_after
short_room m at b h =
    let n = length_hex b in
    let f : leb (at + length (hex b)) (length m) ≡ false = lt-leb (at + length (hex b)) (length m) (omega arith) in
    (rw f, rw f)

pub long_room : (m : List ℕ) (at : ℕ) (b out : List ℕ) → at + (2 * length b + 1) ≤ length m → out ≡ sets m at (digits_of b) → (Some (at + 2 * length b + 1) ≡ room_said m at (hex b)) × (set out (at + 2 * length b) 10 ≡ room_after m at (hex b))
unfolding room_said room_after
long_room m at b out h e =
    let n = length_hex b in
    let f : leb (at + length (hex b)) (length m) ≡ true = le-leb (at + length (hex b)) (length m) (omega arith) in
    let i : at + 2 * length b + 1 ≡ at + length (hex b) = omega arith in
    (rw (f, i), rw (f, e) (ended m at b h))

-- the same bytes, the same line
pub same_line : (w : Maybe ℕ) (out m : List ℕ) (at : ℕ) (s t : List ℕ) → s ≡ t → (w ≡ room_said m at (hex s)) × (out ≡ room_after m at (hex s)) → (w ≡ room_said m at (hex t)) × (out ≡ room_after m at (hex t))
same_line w out m at s t e p = rw e at p

pub refusal_is : (place n : ℕ) (r : Refusal) → n ≡ number r → five_found 17 place n ≡ refusal_found place r
unfolding five_found refusal_found
refusal_is place n r e = rw e

pub stop_is : (line n : ℕ) (r : Refusal) → n ≡ number r → five_found 31 line n ≡ stop_found line r
unfolding five_found stop_found
stop_is line n r e = rw e

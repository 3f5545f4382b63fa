-- Digits one after another, and stores one after another.
use mathlib.Core.Path.{◌≡◌, refl, sym, ap, ◌∙◌}
use mathlib.Core.List.{List, [], ◌∷◌, ◌++◌}
use Prim.Native.Nat.{ℕ, suc, ◌+◌, ◌*◌, ◌/◌, ◌%◌, ◌<◌, ◌≤◌, min}
use native.Mathlib.Omega.{arith}
use native.Mathlib.Numerals.{add-one}
use Rattle.std.specs.Int.{w16, w32, to_be_bytes, byte_at}
use Rattle.std.proofs.lemmas.List.{take_more, length-take-le}
use lib.ListN.{length, get_or, take, set}
use lib.Seq.{sets, set_out}
use Rattle.std.specs.Prelude.{Bool, true, false, ltb}
use borrow.Author.Tests.{lt-ltb, le-ltb, ltb-true, ltb-false}
use Rattle.paper.specs.Words.{two, four}
use Rattle.paper.specs.Layout.{digit_of, hex}
use Rattle.sheet_digits.specs.Digits.{digits_of}

pub digits_append : (s t : List ℕ) → digits_of (s ++ t) ≡ digits_of s ++ digits_of t
unfolding digits_of
digits_append [] t = refl
digits_append (b ∷ s) t = rw (digits_append s t)

pub hex_digits : (s : List ℕ) → hex s ≡ digits_of s ++ (10 ∷ [])
unfolding digits_of hex
hex_digits [] = refl
hex_digits (b ∷ s) = rw (hex_digits s)

pub length_digits : (s : List ℕ) → length (digits_of s) ≡ 2 * length s
unfolding digits_of
length_digits [] = refl
length_digits (b ∷ s) = omega (arith, length_digits s)

pub sets_append : {A : Type 0} (l : List A) (i : ℕ) (xs ys : List A) → sets (sets l i xs) (i + length xs) ys ≡ sets l i (xs ++ ys)
sets_append l i [] ys = let z : i + 0 ≡ i = omega arith in ap (λ k. sets l k ys) z
sets_append l i (x ∷ xs) ys = let z : i + suc (length xs) ≡ suc i + length xs = omega arith in ap (λ k. sets (sets (set l i x) (suc i) xs) k ys) z ∙ sets_append (set l i x) (suc i) xs ys

-- one store after those of xs, and stores after those of xs
pub then_sets : {A : Type 0} (l v w : List A) (i k : ℕ) (xs ys : List A) → v ≡ sets l i xs → k ≡ i + length xs → w ≡ sets v k ys → w ≡ sets l i (xs ++ ys)
then_sets l v w i k xs ys e f g = g ∙ (ap (λ z. sets z k ys) e ∙ (ap (λ z. sets (sets l i xs) z ys) f ∙ sets_append l i xs ys))

pub digit_low : (v : ℕ) → v < 10 → v + 48 ≡ digit_of v
unfolding digit_of
digit_low v h = rw (lt-ltb v 10 h)

pub digit_high : (v : ℕ) → 10 ≤ v → v + 55 ≡ digit_of v
unfolding digit_of
digit_high v h = rw (le-ltb v 10 h)

pub byte_put : (l v w : List ℕ) (i b x y : ℕ) → x ≡ digit_of (b / 16) → y ≡ digit_of (b % 16) → v ≡ set l i x → w ≡ set v (i + 1) y → w ≡ sets l i (digits_of (b ∷ []))
unfolding digits_of
byte_put l v w i b x y e f g h = h ∙ rw (g, e, f, add-one)

-- past the end of the room nothing is stored
pub byte_out : (l v : List ℕ) (i b x : ℕ) → x ≡ digit_of (b / 16) → v ≡ set l i x → length v ≤ i → v ≡ sets l i (digits_of (b ∷ []))
unfolding digits_of
byte_out l v i b x e g h =
    let o : set v (i + 1) (digit_of (b % 16)) ≡ v = set_out v (i + 1) (digit_of (b % 16)) (omega arith) in
    sym o ∙ byte_put l v (set v (i + 1) (digit_of (b % 16))) i b x (digit_of (b % 16)) e refl g refl

-- the bytes of s before the k-th are written, then the k-th
pub bytes_more : (l v w s : List ℕ) (i k : ℕ) → k < length s → v ≡ sets l i (digits_of (take k s)) → w ≡ sets v (i + 2 * k) (digits_of (get_or s k 0 ∷ [])) → w ≡ sets l i (digits_of (take (k + 1) s))
bytes_more l v w s i k h e f =
    let n : length (take k s) ≡ k = length-take-le k s (omega arith) in
    let d = digits_append (take k s) (get_or s k 0 ∷ []) in
    rw (take_more s k 0 h, d) (then_sets l v w i (i + 2 * k) (digits_of (take k s)) (digits_of (get_or s k 0 ∷ [])) e (omega (arith, length_digits (take k s))) f)

sets_past : {A : Type 0} (l : List A) (i : ℕ) (ys : List A) → length l ≤ i → sets l i ys ≡ l
sets_past l i [] h = refl
sets_past l i (y ∷ ys) h = let o = set_out l i y h in ap (λ z. sets z (suc i) ys) o ∙ sets_past l (suc i) ys (omega (arith, h))

-- the same where the place stops at the highest number, past the end of any room
pub bytes_far : (l v w s : List ℕ) (i k j : ℕ) → k < length s → v ≡ sets l i (digits_of (take k s)) → j ≡ min (i + 2 * k) 18446744073709551615 → length v < 18446744073709551615
    → w ≡ sets v j (digits_of (get_or s k 0 ∷ [])) → w ≡ sets l i (digits_of (take (k + 1) s))
bytes_far l v w s i k j h e m r f = go _ refl where
  go : (b : Bool) → ltb (i + 2 * k) 18446744073709551615 ≡ b → w ≡ sets l i (digits_of (take (k + 1) s))
  go true t = let q = ltb-true (i + 2 * k) 18446744073709551615 t in let z : j ≡ i + 2 * k = omega (arith, m, q) in bytes_more l v w s i k h e (rw (sym z) f)
  go false t =
      let q = ltb-false (i + 2 * k) 18446744073709551615 t in
      let past = sets_past v j (digits_of (get_or s k 0 ∷ [])) (omega (arith, m, q, r)) in
      let same = sets_past v (i + 2 * k) (digits_of (get_or s k 0 ∷ [])) (omega (arith, q, r)) in
      bytes_more l v w s i k h e (f ∙ (past ∙ sym same))

pub two_is : (n : ℕ) → n < 65536 → to_be_bytes w16 n ≡ two n
unfolding two
two_is n h =
    let a : byte_at 1 n ≡ n / 256 = omega arith in
    let b : byte_at 0 n ≡ n % 256 = omega arith in
    rw (a, b)

pub four_is : (n : ℕ) → n < 4294967296 → to_be_bytes w32 n ≡ four n
unfolding four
four_is n h =
    let a : byte_at 3 n ≡ n / 256 / 256 / 256 = omega arith in
    let b : byte_at 2 n ≡ n / 256 / 256 % 256 = omega arith in
    let x : byte_at 1 n ≡ n / 256 % 256 = omega arith in
    let y : byte_at 0 n ≡ n % 256 = omega arith in
    rw (a, b, x, y)

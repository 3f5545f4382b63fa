-- Laws that the functions' proofs cite.
use mathlib.Core.Path.{◌≡◌, sym, ap, ◌∙◌}
use mathlib.Core.List.{List, [], ◌∷◌, ◌++◌}
use Prim.Native.Nat.{ℕ, ◌+◌, ◌/◌, ◌%◌, ◌≤◌, ◌<◌}
use native.Mathlib.Numerals.{add-one}
use lib.ListN.{length, get_or, drop}
use lib.Seq.{drop-cons}
use Rattle.paper.specs.Words.{four, eight}
use Rattle.paper.specs.Layout.{digit_of}
use Rattle.paper.proofs.Lists.{drop_all}
use Rattle.sheet_digits.specs.Digits.{digits_of}
use Rattle.sheet_digits.proofs.DigitLaws.{digits_append}
use Rattle.tell_text.specs.Written.{Room, wrote, after, follows, nothing}
use Rattle.tell_text.specs.Decimal.{decimal, one_digit, more_digits}

-- ---- a number
pub last_digit : (p q : Room) (n : ℕ) → n < 10 → q ≡ wrote p ((48 + n % 10) ∷ []) → q ≡ wrote p (decimal n)
last_digit p q n h e = e ∙ ap (λ s. wrote p s) (sym (one_digit n h))

pub digit_after : (p q r : Room) (n : ℕ) → 10 ≤ n → q ≡ wrote p (decimal (n / 10)) → r ≡ wrote q ((48 + n % 10) ∷ []) → r ≡ wrote p (decimal n)
digit_after p q r n h e f = follows p q r (decimal (n / 10)) ((48 + n % 10) ∷ []) e f ∙ ap (λ s. wrote p s) (sym (more_digits n h))

-- ---- a text: what is left of it
pub one_more : (p q r : Room) (s : List ℕ) (i : ℕ) → i < length s → wrote q (drop i s) ≡ wrote p s → r ≡ wrote q (get_or s i 0 ∷ []) → wrote r (drop (i + 1) s) ≡ wrote p s
one_more p q r s i h e f =
    let d : drop i s ≡ get_or s i 0 ∷ drop (i + 1) s = rw add-one (drop-cons s i 0 h) in
    ap (λ z. wrote z (drop (i + 1) s)) f ∙ (after q (get_or s i 0 ∷ []) (drop (i + 1) s) ∙ (ap (λ t. wrote q t) (sym d) ∙ e))

pub all_put : (p q : Room) (s : List ℕ) (i : ℕ) → length s ≤ i → wrote q (drop i s) ≡ wrote p s → q ≡ wrote p s
all_put p q s i h e = nothing q ∙ (ap (λ t. wrote q t) (sym (drop_all s i h)) ∙ e)

-- ---- hexadecimal digits
pub byte_put : (p q r : Room) (b h l : ℕ) → h ≡ digit_of (b / 16) → l ≡ digit_of (b % 16) → q ≡ wrote p (h ∷ []) → r ≡ wrote q (l ∷ []) → r ≡ wrote p (digits_of (b ∷ []))
unfolding digits_of
byte_put p q r b h l e f g k = rw (e, f) at (follows p q r (h ∷ []) (l ∷ []) g k)

pub byte_more : (p q r : Room) (s : List ℕ) (i : ℕ) → i < length s → wrote q (digits_of (drop i s)) ≡ wrote p (digits_of s) → r ≡ wrote q (digits_of (get_or s i 0 ∷ [])) → wrote r (digits_of (drop (i + 1) s)) ≡ wrote p (digits_of s)
byte_more p q r s i h e f =
    let d : (get_or s i 0 ∷ []) ++ drop (i + 1) s ≡ drop i s = sym (rw add-one (drop-cons s i 0 h)) in
    let t : digits_of (get_or s i 0 ∷ []) ++ digits_of (drop (i + 1) s) ≡ digits_of (drop i s) = sym (digits_append (get_or s i 0 ∷ []) (drop (i + 1) s)) ∙ ap digits_of d in
    ap (λ z. wrote z (digits_of (drop (i + 1) s))) f ∙ (after q (digits_of (get_or s i 0 ∷ [])) (digits_of (drop (i + 1) s)) ∙ (ap (λ t. wrote q t) t ∙ e))

pub all_bytes : (p q : Room) (s : List ℕ) (i : ℕ) → length s ≤ i → wrote q (digits_of (drop i s)) ≡ wrote p (digits_of s) → q ≡ wrote p (digits_of s)
unfolding digits_of
all_bytes p q s i h e =
    let n : digits_of (drop i s) ≡ [] = rw (drop_all s i h) in
    nothing q ∙ (ap (λ t. wrote q t) (sym n) ∙ e)

pub eight_put : (p q r : Room) (v : ℕ) → q ≡ wrote p (digits_of (four (v / 4294967296))) → r ≡ wrote q (digits_of (four (v % 4294967296))) → r ≡ wrote p (digits_of (eight v))
unfolding eight
eight_put p q r v e f =
    let a = four (v / 4294967296) in
    let b = four (v % 4294967296) in
    follows p q r (digits_of a) (digits_of b) e f ∙ ap (λ s. wrote p s) (sym (digits_append a b))

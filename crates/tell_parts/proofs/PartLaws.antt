-- Laws of the parts of a frame, for the functions that write them.
use mathlib.Core.Path.{◌≡◌, refl, sym, ap, ◌∙◌}
use mathlib.Core.List.{List, [], ◌∷◌, ◌++◌}
use Prim.Native.Nat.{ℕ, suc, ◌+◌, ◌-◌, ◌*◌, ◌/◌, ◌≤◌, ◌<◌}
use native.Mathlib.Omega.{arith}
use native.Mathlib.Numerals.{add-one}
use lib.ListN.{length, get_or, drop}
use lib.Seq.{drop-cons}
use Rattle.paper.proofs.Lists.{drop_all}
use Rattle.tell_text.specs.Written.{Room, wrote, after, follows, nothing}
use Rattle.tell_text.specs.Decimal.{decimal}
use Rattle.tell_parts.specs.Parts.{four_at, separator, rest, places, part, filled}

-- ---- a number, or a text, in place of what it is
pub instead : (p q : Room) (s t : List ℕ) → s ≡ t → q ≡ wrote p s → q ≡ wrote p t
instead p q s t e f = f ∙ ap (λ z. wrote p z) e

pub number_instead : (p q : Room) (n m : ℕ) → n ≡ m → q ≡ wrote p (decimal n) → q ≡ wrote p (decimal m)
number_instead p q n m e = instead p q (decimal n) (decimal m) (ap decimal e)

-- ---- a list of places
pub place_put : (p q r : Room) (f : List ℕ) (i left n : ℕ) → n ≡ four_at f i → q ≡ wrote p (separator left) → r ≡ wrote q (decimal n) → r ≡ wrote p (separator left ++ decimal (four_at f i))
place_put p q r f i left n e a b = follows p q r (separator left) (decimal (four_at f i)) a (number_instead q r n (four_at f i) e b)

pub rest_turn : (p q r : Room) (f : List ℕ) (from count n : ℕ) → n < count → wrote q (rest f (from + 4 * n) (count - n)) ≡ wrote p (rest f from count)
    → r ≡ wrote q (separator (count - n - 1) ++ decimal (four_at f (from + 4 * n))) → wrote r (rest f (from + 4 * (n + 1)) (count - (n + 1))) ≡ wrote p (rest f from count)
unfolding rest
rest_turn p q r f from count n h e g =
    let left = count - (n + 1) in
    let i = from + 4 * n in
    let s = separator left ++ decimal (four_at f i) in
    let one : count - n ≡ suc left = omega arith in
    let two : count - n - 1 ≡ left = omega arith in
    let next : from + 4 * (n + 1) ≡ i + 4 = omega arith in
    rw next (ap (λ z. wrote z (rest f (i + 4) left)) (rw two at g) ∙ (after q s (rest f (i + 4) left) ∙ (rw one at e)))

pub rest_done : (p q : Room) (f : List ℕ) (from count n : ℕ) → count ≤ n → wrote q (rest f (from + 4 * n) (count - n)) ≡ wrote p (rest f from count) → q ≡ wrote p (rest f from count)
unfolding rest
rest_done p q f from count n h e =
    let none : count - n ≡ 0 = omega arith in
    nothing q ∙ (rw none at e)

append_none : (s : List ℕ) → s ++ [] ≡ s
append_none [] = refl
append_none (x ∷ s) = ap (λ t. x ∷ t) (append_none s)

pub one_place : (p q : Room) (f : List ℕ) (n : ℕ) → length f < 11 → n ≡ four_at f 7 → q ≡ wrote p (decimal n) → q ≡ wrote p (places f)
unfolding places rest
one_place p q f n h e g =
    let z : (length f - 11) / 4 ≡ 0 = omega arith in
    number_instead p q n (four_at f 7) e g ∙ ap (λ s. wrote p s) (rw z (sym (append_none (decimal (four_at f 7)))))

pub more_places : (p q r : Room) (f : List ℕ) (n : ℕ) → n ≡ four_at f 7 → q ≡ wrote p (decimal n) → r ≡ wrote q (rest f 11 ((length f - 11) / 4)) → r ≡ wrote p (places f)
unfolding places
more_places p q r f n e a b = follows p q r (decimal (four_at f 7)) (rest f 11 ((length f - 11) / 4)) (number_instead p q n (four_at f 7) e a) b

-- ---- the words: what is left of them
pub part_turn : (p q r : Room) (f words : List ℕ) (i : ℕ) → i < length words → wrote q (filled f (drop i words)) ≡ wrote p (filled f words) → r ≡ wrote q (part f (get_or words i 0)) → wrote r (filled f (drop (i + 1) words)) ≡ wrote p (filled f words)
unfolding filled
part_turn p q r f words i h e g =
    let d : drop i words ≡ get_or words i 0 ∷ drop (i + 1) words = rw add-one (drop-cons words i 0 h) in
    let t : part f (get_or words i 0) ++ filled f (drop (i + 1) words) ≡ filled f (drop i words) = rw d in
    ap (λ z. wrote z (filled f (drop (i + 1) words))) g ∙ (after q (part f (get_or words i 0)) (filled f (drop (i + 1) words)) ∙ (ap (λ s. wrote q s) t ∙ e))

pub parts_done : (p q : Room) (f words : List ℕ) (i : ℕ) → length words ≤ i → wrote q (filled f (drop i words)) ≡ wrote p (filled f words) → q ≡ wrote p (filled f words)
unfolding filled
parts_done p q f words i h e =
    let n : filled f (drop i words) ≡ [] = rw (drop_all words i h) in
    nothing q ∙ (ap (λ s. wrote q s) (sym n) ∙ e)

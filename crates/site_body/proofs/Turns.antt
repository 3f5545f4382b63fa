-- What the needs ask, over plain variables.
use mathlib.Core.Path.{◌≡◌, refl, sym, ap, ◌∙◌}
use mathlib.Core.Bool.{true, false, not}
use mathlib.Core.Option.{none, some}
use mathlib.Core.List.{List, [], ◌∷◌}
use Prim.Native.Nat.{ℕ, zero, suc, ◌+◌, ◌-◌, ◌*◌, ◌≤◌, ◌<◌}
use native.Mathlib.Omega.{arith}
use lib.ListN.{length, get_or, drop, get_or-eq_default}
use lib.Seq.{drop-cons}
use lib.Dec.{ltb}
use borrow.Author.Tests.{lt-ltb, le-ltb}
use Rattle.paper.specs.Words.{first}
use Rattle.paper.proofs.Laws.{first_here, first_next}
use Rattle.site_body.specs.Body.{count_by, is_body, many_of, missing, off_of, offs, tail_of, tails, ways, words}
use Rattle.site_body.proofs.Shape.{is_past, is_wrong, is_bool, is_right}

-- ---- the tables

-- every kind's sources begin past the kind byte and within 20 bytes
abbrev Between : List ℕ → Type 0
Between [] = Unit {0}
Between (x ∷ xs) = (0 < x) × (x < 20) × Between xs

between_at : (xs : List ℕ) → Between xs → (k : ℕ) → k < length xs → (0 < get_or xs k 0) × (get_or xs k 0 < 20)
between_at [] h k l = absurd (omega arith)
between_at (x ∷ xs) h zero l = (h.0, h.1)
between_at (x ∷ xs) h (suc k) l = between_at xs h.2 k (omega arith)

pub off_bound : (k : ℕ) → k < 14 → (0 < get_or offs k 0) × (get_or offs k 0 < 20)
off_bound k h = between_at offs (omega arith) k h

pub off_is : (b : List ℕ) (k r : ℕ) → k ≡ get_or b 0 0 → k < 14 → r ≡ get_or offs k 0 → (r ≡ off_of b) × (r < 20)
unfolding off_of
off_is b k r e h q = let g = off_bound k h in (q ∙ ap (λ i. get_or offs i 0) e, omega arith)

-- few bytes follow the sources
abbrev AllBelow : ℕ → List ℕ → Type 0
AllBelow n [] = Unit {0}
AllBelow n (x ∷ xs) = (x < n) × AllBelow n xs

below_at : (n : ℕ) (xs : List ℕ) → AllBelow n xs → (k : ℕ) → k < length xs → get_or xs k 0 < n
below_at n [] h k l = absurd (omega arith)
below_at n (x ∷ xs) h zero l = h.0
below_at n (x ∷ xs) h (suc k) l = below_at n xs h.1 k (omega arith)

pub tail_low : (k : ℕ) → k < 14 → get_or tails k 0 < 4
tail_low k h = below_at 4 tails (omega arith) k h

-- what no kind has
pub off_past : (b : List ℕ) (k : ℕ) → k ≡ get_or b 0 0 → 14 ≤ k → (0 ≡ off_of b) × (0 < 20)
unfolding off_of
off_past b k e h = (sym (ap (λ i. get_or offs i 0) (sym e) ∙ get_or-eq_default offs 0 h), omega arith)

pub many_past : (b : List ℕ) (k : ℕ) → k ≡ get_or b 0 0 → 14 ≤ k → (0 ≡ many_of b) × (0 < 256)
unfolding many_of
many_past b k e h =
    let w : get_or ways (get_or b 0 0) 0 ≡ 0 = ap (λ i. get_or ways i 0) (sym e) ∙ get_or-eq_default ways 0 h in
    (sym (ap (λ w. count_by w (get_or b (off_of b - 1) 0)) w), omega arith)

pub off_least : (b : List ℕ) (k o : ℕ) → k ≡ get_or b 0 0 → k < 14 → o ≡ off_of b → 0 < o
unfolding off_of
off_least b k o e h q = let g = off_bound k h in let p : o ≡ get_or offs k 0 = q ∙ ap (λ i. get_or offs i 0) (sym e) in omega arith

pub many_none : (b : List ℕ) (k : ℕ) → k ≡ get_or b 0 0 → get_or ways k 0 ≡ 0 → (0 ≡ many_of b) × (0 < 256)
unfolding many_of
many_none b k e q = let f : get_or ways (get_or b 0 0) 0 ≡ 0 = ap (λ i. get_or ways i 0) (sym e) ∙ q in (rw f, omega arith)

pub many_one : (b : List ℕ) (k : ℕ) → k ≡ get_or b 0 0 → get_or ways k 0 ≡ 1 → (1 ≡ many_of b) × (1 < 256)
unfolding many_of
many_one b k e q = let f : get_or ways (get_or b 0 0) 0 ≡ 1 = ap (λ i. get_or ways i 0) (sym e) ∙ q in (rw f, omega arith)

count_more : (w n : ℕ) → (w ≡ 0 → ⊥) → (w ≡ 1 → ⊥) → count_by w n ≡ n
count_more zero n a b = absurd (a refl)
count_more (suc zero) n a b = absurd (b refl)
count_more (suc (suc w)) n a b = refl

pub many_more : (b : List ℕ) (k o r : ℕ) → k ≡ get_or b 0 0 → (get_or ways k 0 ≡ 0 → ⊥) → (get_or ways k 0 ≡ 1 → ⊥) → o ≡ off_of b → r ≡ get_or b (o - 1) 0 → r < 256 → (r ≡ many_of b) × (r < 256)
unfolding many_of
many_more b k o r e x y p q l = (q ∙ rw p (sym (count_more (get_or ways (get_or b 0 0) 0) (get_or b (off_of b - 1) 0) (rw e at x) (rw e at y))), l)

-- ---- a byte, and two of them

pub byte_past : (b : List ℕ) (at : ℕ) → length b ≤ at → 0 ≡ get_or b at 0
byte_past b at h = sym (get_or-eq_default b 0 h)

pub word_past : (b : List ℕ) (at : ℕ) → length b ≤ at → 0 ≡ get_or b at 0 * 256 + get_or b (at + 1) 0
word_past b at h = let x = byte_past b at h in let y = byte_past b (at + 1) (omega arith) in omega arith

-- ---- is it a body

module _ (b : List ℕ) (k : ℕ) (e : k ≡ get_or b 0 0) where
  pub shape_past : 14 ≤ k → false ≡ is_body b
  shape_past l = sym (is_past b (omega arith))

  module _ (o n t : ℕ) (l : k < 14) (p : o ≡ off_of b) (q : n ≡ many_of b) (r : t ≡ get_or tails k 0) where
    tail_as : t ≡ tail_of b
    unfolding tail_of
    tail_as = r ∙ ap (λ i. get_or tails i 0) e

    pub shape_wrong : (length b ≡ o + 2 * n + t → ⊥) → false ≡ is_body b
    shape_wrong w = let u = tail_as in sym (is_wrong b (omega arith) (λ z. w (omega arith)))

    pub shape_bool : (x : ℕ) → length b ≡ o + 2 * n + t → k ≡ 0 → x ≡ get_or b 3 0 → ltb x 2 ≡ is_body b
    shape_bool x m w c = let u = tail_as in rw c (sym (is_bool b (omega arith) (omega arith) (omega arith)))

    pub shape_right : length b ≡ o + 2 * n + t → (k ≡ 0 → ⊥) → true ≡ is_body b
    shape_right m w = let u = tail_as in sym (is_right b (omega arith) (omega arith) (λ z. w (e ∙ z)))

-- ---- sources, two bytes each

pub words_cons : (k : ℕ) (b : List ℕ) (at : ℕ) → at + 2 ≤ length b → words (suc k) (drop at b) ≡ (get_or b at 0 * 256 + get_or b (at + 1) 0) ∷ words k (drop (at + 2) b)
unfolding words
words_cons k b at h =
    let x = drop-cons b at 0 (omega arith) in
    let y = drop-cons b (suc at) 0 (omega arith) in
    let p : suc at ≡ at + 1 = omega arith in
    let q : suc (suc at) ≡ at + 2 = omega arith in
    let e : drop at b ≡ get_or b at 0 ∷ (get_or b (at + 1) 0 ∷ drop (at + 2) b) = rw (← p, ← q) (x ∙ ap (λ l. get_or b at 0 ∷ l) y) in
    rw e

-- the search for a source that is missing: it is the first; or the others decide
pub missing_here : (b : List ℕ) (n k at s : ℕ) → 0 < k → at + 2 * k ≤ length b → s ≡ get_or b at 0 * 256 + get_or b (at + 1) 0 → n ≤ s → missing n (words k (drop at b)) ≡ some s
unfolding missing
missing_here b n zero at s h l e q = absurd (omega arith)
missing_here b n (suc k) at s h l e q =
    let w = words_cons k b at (omega arith) in
    rw (w, ← e) (first_here (λ i. not (ltb i n)) s (words k (drop (at + 2) b)) (rw (le-ltb s n q)))

pub missing_next : (b : List ℕ) (n k at s : ℕ) → 0 < k → at + 2 * k ≤ length b → s ≡ get_or b at 0 * 256 + get_or b (at + 1) 0 → s < n → missing n (words k (drop at b)) ≡ missing n (words (k - 1) (drop (at + 2) b))
unfolding missing
missing_next b n zero at s h l e q = absurd (omega arith)
missing_next b n (suc k) at s h l e q =
    let w = words_cons k b at (omega arith) in
    let p : suc k - 1 ≡ k = omega arith in
    rw (w, ← e, p) (first_next (λ i. not (ltb i n)) s (words k (drop (at + 2) b)) (rw (lt-ltb s n q)))

pub missing_none : (b : List ℕ) (n k at : ℕ) → k ≤ 0 → missing n (words k (drop at b)) ≡ none
unfolding missing words first
missing_none b n zero at h = refl
missing_none b n (suc k) at h = absurd (omega arith)

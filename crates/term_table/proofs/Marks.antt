-- What the definitions do to the marks of a square.
use mathlib.Core.Path.{◌≡◌, refl, sym, ◌∙◌, ap, subst⁻¹}
use mathlib.Core.Bool.{Bool, true, false, ◌&&◌, ◌||◌}
use mathlib.Core.List.{List, [], ◌∷◌}
use Prim.Native.Nat.{ℕ, zero, suc, ◌+◌, ◌/◌, ◌%◌, ◌^◌, ◌≤◌, ◌<◌}
use native.Mathlib.Omega.{arith}
use native.Mathlib.Decide.{ℕ_discrete, dec_lt}
use lib.ListN.{get_or, set, length, length-set, length-replicate, get_or-replicate}
use lib.Seq.{get_or-set_same, get_or-set_other}
use lib.Dec.{eqb, ltb}
use lib.Bits.{bit_or}
use borrow.Author.Tests.{eq-eqb, ne_eqb, eqb-true, not-false, lt-ltb, le-ltb}
use Rattle.std.specs.Prelude.{if◌then◌else◌}
use Rattle.paper.proofs.Lists.{no_way, or_false}
use Rattle.term_table.specs.Table.{terms, words, Square, row, in_row, marked, row_with, with_mark, no_marks, no_edges}
use Rattle.term_table.specs.Loops.{both_of, has_some, join_at, join_by, join_to, widen, pass}
use Rattle.term_table.proofs.Bits.{bit, or_bit, power_bit, zero_bit, or_zero}

-- 256 rows of 4 words
pub record Whole (t : Square) : Type 0 where
  pub rows : length t ≡ terms
  pub words : (i : ℕ) → i < terms → length (row t i) ≡ words

-- all that the type `[[u64; 4]; 256]` says
pub record Stored (t : Square) : Type 0 where
  pub whole : Whole t
  pub fits : (a q : ℕ) → a < terms → q < words → get_or (row t a) q 0 < 2 ^ 64

-- ---- one mark more

pub put_row : (r : List ℕ) (j b : ℕ) → length r ≡ words → j < terms → b < terms → in_row (row_with r j) b ≡ (in_row r b || eqb b j)
unfolding in_row row_with
put_row r j b l hj hb = go (ℕ_discrete (b / 64) (j / 64)) (ℕ_discrete b j)
  where
    w : ℕ
    w = bit_or (get_or r (j / 64) 0) (2 ^ (j % 64))

    go : Dec (b / 64 ≡ j / 64) → Dec (b ≡ j) → bit (get_or (set r (j / 64) w) (b / 64) 0) (b % 64) ≡ (bit (get_or r (b / 64) 0) (b % 64) || eqb b j)
    go (yes e) d =
        let q : get_or (set r (j / 64) w) (j / 64) 0 ≡ w = get_or-set_same r (j / 64) w 0 (omega arith) in
        let s : eqb (b % 64) (j % 64) ≡ eqb b j = same d in
        rw (e, q) (or_bit (get_or r (j / 64) 0) (2 ^ (j % 64)) (b % 64) ∙ ap (λ (x : Bool). bit (get_or r (j / 64) 0) (b % 64) || x) (power_bit (j % 64) (b % 64) ∙ s))
      where
        same : Dec (b ≡ j) → eqb (b % 64) (j % 64) ≡ eqb b j
        same (yes o) = eq-eqb (b % 64) (j % 64) (ap (λ (v : ℕ). v % 64) o) ∙ sym (eq-eqb b j o)
        same (no o) = ne_eqb (b % 64) (j % 64) (λ q. o (omega arith)) ∙ sym (ne_eqb b j o)
    go (no n) d =
        let q : eqb b j ≡ false = ne_eqb b j (λ o. n (ap (λ (v : ℕ). v / 64) o)) in
        ap (λ (v : ℕ). bit v (b % 64)) (get_or-set_other r (j / 64) (b / 64) w 0 n) ∙ sym (ap (λ (x : Bool). bit (get_or r (b / 64) 0) (b % 64) || x) q ∙ or_false _)

set_marks : (t : Square) (i : ℕ) → i < length t → (r : List ℕ) (a b : ℕ) → marked (set t i r) a b ≡ (if eqb a i then in_row r b else marked t a b)
unfolding marked
set_marks t i l r a b = go (ℕ_discrete a i)
  where
    go : Dec (a ≡ i) → in_row (row (set t i r) a) b ≡ (if eqb a i then in_row r b else in_row (row t a) b)
    go (yes e) = simp (eq-eqb a i e) (ap (λ (x : List ℕ). in_row x b) (ap (row (set t i r)) e ∙ get_or-set_same t i r [] l))
    go (no d) = simp (ne_eqb a i d) (ap (λ (x : List ℕ). in_row x b) (get_or-set_other t i a r [] d))

module _ (t : Square) (W : Whole t) (i : ℕ) (hi : i < terms) where
  set_whole : (r : List ℕ) → length r ≡ words → Whole (set t i r)
  set_whole r l = record { rows = length-set t i r ∙ W.rows; words = λ a h. go a h (ℕ_discrete a i) }
    where
      go : (a : ℕ) → a < terms → Dec (a ≡ i) → length (row (set t i r) a) ≡ words
      go a h (yes e) = ap length (ap (row (set t i r)) e ∙ get_or-set_same t i r [] (omega (arith, W.rows))) ∙ l
      go a h (no d) = ap length (get_or-set_other t i a r [] d) ∙ W.words a h

  pub put_whole : (j : ℕ) → Whole (with_mark t i j)
  unfolding with_mark row_with
  put_whole j = set_whole (row_with (row t i) j) (length-set (row t i) (j / 64) _ ∙ W.words i hi)

  pub put_marks : (j a b : ℕ) → j < terms → b < terms → marked (with_mark t i j) a b ≡ (marked t a b || (eqb a i && eqb b j))
  unfolding with_mark marked
  put_marks j a b hj hb = set_marks t i (omega (arith, W.rows)) (row_with (row t i) j) a b ∙ go (ℕ_discrete a i)
    where
      go : Dec (a ≡ i) → (if eqb a i then in_row (row_with (row t i) j) b else marked t a b) ≡ (marked t a b || (eqb a i && eqb b j))
      go (yes e) = simp (eq-eqb a i e) (put_row (row t i) j b (W.words i hi) hj hb ∙ ap (λ (y : ℕ). in_row (row t y) b || eqb b j) (sym e))
      go (no d) = simp (ne_eqb a i d) (sym (or_false _))

-- ---- no marks

pub none_row : (b : ℕ) → b < terms → in_row no_marks b ≡ false
unfolding in_row no_marks
none_row b h = ap (λ (v : ℕ). bit v (b % 64)) (get_or-replicate words (b / 64) 0 0 (omega arith)) ∙ zero_bit (b % 64)

pub none_whole : Whole no_edges
unfolding no_edges no_marks
none_whole = record { rows = length-replicate terms no_marks; words = λ i h. ap length (get_or-replicate terms i no_marks [] h) ∙ length-replicate {A = ℕ} words 0 }

pub none_marks : (a b : ℕ) → a < terms → b < terms → marked no_edges a b ≡ false
unfolding marked no_edges
none_marks a b h k = ap (λ (r : List ℕ). in_row r b) (get_or-replicate terms a no_marks [] h) ∙ none_row b k

pub row_of : (t : Square) (a b : ℕ) → in_row (row t a) b ≡ marked t a b
unfolding marked
row_of t a b = refl

-- what has a mark is one of the table's rows, however many those are: what lies behind a reference tells no length
row_there : (t : Square) (a b : ℕ) → marked t a b ≡ true → a < length t
unfolding marked in_row
row_there [] a b m = no_way (sym m ∙ zero_bit (b % 64))
row_there (r ∷ t) zero b m = omega arith
row_there (r ∷ t) (suc a) b m = let l = row_there t a b m in omega arith

-- ---- two rows together

word_both : (x y : List ℕ) (q : ℕ) → q < words → get_or (both_of x y) q 0 ≡ bit_or (get_or x q 0) (get_or y q 0)
unfolding both_of
word_both x y zero h = refl
word_both x y (suc zero) h = refl
word_both x y (suc (suc zero)) h = refl
word_both x y (suc (suc (suc zero))) h = refl
word_both x y (suc (suc (suc (suc q)))) h = absurd (omega arith)

pub both_row : (x y : List ℕ) (b : ℕ) → b < terms → in_row (both_of x y) b ≡ (in_row x b || in_row y b)
unfolding in_row
both_row x y b h = ap (λ (v : ℕ). bit v (b % 64)) (word_both x y (b / 64) (omega arith)) ∙ or_bit (get_or x (b / 64) 0) (get_or y (b / 64) 0) (b % 64)

word_zero : (r : List ℕ) (q : ℕ) → has_some r ≡ false → q < words → get_or r q 0 ≡ 0
unfolding has_some
word_zero r q h = go q
  where
    z : bit_or (bit_or (bit_or (get_or r 0 0) (get_or r 1 0)) (get_or r 2 0)) (get_or r 3 0) ≡ 0
    z = eqb-true _ 0 (not-false _ h)

    a : (bit_or (bit_or (get_or r 0 0) (get_or r 1 0)) (get_or r 2 0) ≡ 0) × (get_or r 3 0 ≡ 0)
    a = or_zero _ _ z

    b : (bit_or (get_or r 0 0) (get_or r 1 0) ≡ 0) × (get_or r 2 0 ≡ 0)
    b = or_zero _ _ a.0

    d : (get_or r 0 0 ≡ 0) × (get_or r 1 0 ≡ 0)
    d = or_zero _ _ b.0

    go : (q : ℕ) → q < words → get_or r q 0 ≡ 0
    go zero h = d.0
    go (suc zero) h = d.1
    go (suc (suc zero)) h = b.1
    go (suc (suc (suc zero))) h = a.1
    go (suc (suc (suc (suc q)))) h = absurd (omega arith)

pub row_empty : (r : List ℕ) (b : ℕ) → has_some r ≡ false → b < terms → in_row r b ≡ false
unfolding in_row
row_empty r b h k = ap (λ (v : ℕ). bit v (b % 64)) (word_zero r (b / 64) h (omega arith)) ∙ zero_bit (b % 64)

-- ---- rows join others

-- the marks after a term k was passed through; after k and the next
abbrev pub via : (ℕ → ℕ → Bool) → ℕ → ℕ → ℕ → Bool
via e k a b = e a b || (e a k && e k b)

abbrev pub via_two : (ℕ → ℕ → Bool) → ℕ → ℕ → ℕ → Bool
via_two e k = via (via e k) (k + 1)

-- by the two marks of a row
module _ (x y z r s : Bool) where
  abbrev both_terms : Bool → Bool → Bool
  both_terms p q = (x || (p && y)) || ((q || (p && r)) && (z || (s && y)))

neither : (x y z r s : Bool) → x ≡ both_terms x y z r s false false
neither true y z r s = refl
neither false y z r s = refl

first : (x y z r s : Bool) → (x || (if r then (y || z) else y)) ≡ both_terms x y z r s true false
first true y z r s = refl
first false true z true s = refl
first false true z false s = refl
first false false true true s = refl
first false false false true true = refl
first false false false true false = refl
first false false z false s = refl

second : (x y z r s : Bool) → (x || (if s then (y || z) else z)) ≡ both_terms x y z r s false true
second true y z r s = refl
second false true true r true = refl
second false true false r true = refl
second false false true r true = refl
second false false false r true = refl
second false y true r false = refl
second false y false r false = refl

each : (x y z r s : Bool) → (x || (y || z)) ≡ both_terms x y z r s true true
each true y z r s = refl
each false true z r s = refl
each false false true r s = refl
each false false false r true = refl
each false false false r false = refl

nothing : (x p q : Bool) → x ≡ both_terms x false false false false p q
nothing true p q = refl
nothing false true true = refl
nothing false true false = refl
nothing false false true = refl
nothing false false false = refl

abbrev pub Through : ℕ → Square → Square → ℕ → Type 0
Through n t u k = (a b : ℕ) → b < terms → marked u a b ≡ (if ltb a n then via_two (marked t) k a b else marked t a b)

-- what row i is joined by
record Rows (t : Square) (k : ℕ) (one other two : List ℕ) : Type 0 where
  one_is : (b : ℕ) → b < terms → in_row one b ≡ (if marked t k (k + 1) then (marked t k b || marked t (k + 1) b) else marked t k b)
  other_is : (b : ℕ) → b < terms → in_row other b ≡ (if marked t (k + 1) k then (marked t k b || marked t (k + 1) b) else marked t (k + 1) b)
  two_is : (b : ℕ) → b < terms → in_row two b ≡ (marked t k b || marked t (k + 1) b)

module _ (n : ℕ) (t u : Square) (k : ℕ) (one other two : List ℕ) (R : Rows t k one other two) (I : Through n t u k) (hn : n < terms) (hk : k + 1 < terms) where
  own_row : (b : ℕ) → b < terms → marked u n b ≡ marked t n b
  own_row b h = I n b h ∙ simp (le-ltb n n (omega arith))

  -- the rows but n
  rest : (a b : ℕ) → b < terms → (a ≡ n → ⊥) → marked u a b ≡ (if ltb a (suc n) then via_two (marked t) k a b else marked t a b)
  rest a b h d = I a b h ∙ go (dec_lt a n)
    where
      go : Dec (a < n) → (if ltb a n then via_two (marked t) k a b else marked t a b) ≡ (if ltb a (suc n) then via_two (marked t) k a b else marked t a b)
      go (yes l) = simp (lt-ltb a n l, lt-ltb a (suc n) (omega arith))
      go (no l) = simp (le-ltb a n (omega arith), le-ltb a (suc n) (omega arith))

  at_n : (v : Square) (a b : ℕ) → a ≡ n → marked v n b ≡ via_two (marked t) k n b → marked v a b ≡ (if ltb a (suc n) then via_two (marked t) k a b else marked t a b)
  at_n v a b e q = simp (lt-ltb a (suc n) (omega arith)) (subst⁻¹ (λ (y : ℕ). marked v y b ≡ via_two (marked t) k y b) e q)

  -- a row that joins row n
  join_marks : n < length u → (r : List ℕ) (b : ℕ) → b < terms → marked (join_at u n r) n b ≡ (marked t n b || in_row r b)
  unfolding join_at
  join_marks l r b h =
      set_marks u n l (both_of (row u n) r) n b
      ∙ simp (eq-eqb n n refl) (both_row (row u n) r b h ∙ ap (λ (x : Bool). x || in_row r b) (row_of u n b ∙ own_row b h))

  joins : n < length u → (r : List ℕ) → ((b : ℕ) → b < terms → (marked t n b || in_row r b) ≡ via_two (marked t) k n b) → Through (suc n) t (join_at u n r) k
  unfolding join_at
  joins l r f a b h = by a b h (ℕ_discrete a n)
    where
      by : (a b : ℕ) → b < terms → Dec (a ≡ n) → marked (join_at u n r) a b ≡ (if ltb a (suc n) then via_two (marked t) k a b else marked t a b)
      by a b h (yes o) = at_n (join_at u n r) a b o (join_marks l r b h ∙ f b h)
      by a b h (no d) = set_marks u n l (both_of (row u n) r) a b ∙ simp (ne_eqb a n d) (rest a b h d)

  step : Through (suc n) t (join_by u n k one other two) k
  unfolding join_by
  step = go (marked u n k) refl (marked u n (k + 1)) refl
    where
      go : (p : Bool) → marked u n k ≡ p → (q : Bool) → marked u n (k + 1) ≡ q
          → Through (suc n) t (if p then (if q then join_at u n two else join_at u n one) else (if q then join_at u n other else u)) k
      go true p true q =
          joins (row_there u n k p) two (λ b h. simp (R.two_is b h, sym (own_row k (omega arith)) ∙ p, sym (own_row (k + 1) hk) ∙ q) (each (marked t n b) (marked t k b) (marked t (k + 1) b) (marked t k (k + 1)) (marked t (k + 1) k)))
      go true p false q =
          joins (row_there u n k p) one (λ b h. simp (R.one_is b h, sym (own_row k (omega arith)) ∙ p, sym (own_row (k + 1) hk) ∙ q) (first (marked t n b) (marked t k b) (marked t (k + 1) b) (marked t k (k + 1)) (marked t (k + 1) k)))
      go false p true q =
          joins (row_there u n (k + 1) q) other (λ b h. simp (R.other_is b h, sym (own_row k (omega arith)) ∙ p, sym (own_row (k + 1) hk) ∙ q) (second (marked t n b) (marked t k b) (marked t (k + 1) b) (marked t k (k + 1)) (marked t (k + 1) k)))
      go false p false q = λ a b h. by a b h (ℕ_discrete a n)
        where
          by : (a b : ℕ) → b < terms → Dec (a ≡ n) → marked u a b ≡ (if ltb a (suc n) then via_two (marked t) k a b else marked t a b)
          by a b h (yes o) =
              at_n u a b o
              (own_row b h
              ∙ simp (sym (own_row k (omega arith)) ∙ p, sym (own_row (k + 1) hk) ∙ q) (neither (marked t n b) (marked t k b) (marked t (k + 1) b) (marked t k (k + 1)) (marked t (k + 1) k)))
          by a b h (no d) = rest a b h d

join_law : (n : ℕ) (t : Square) (k : ℕ) (one other two : List ℕ) → Rows t k one other two → n ≤ terms → k + 1 < terms → Through n t (join_to n t k one other two) k
unfolding join_to
join_law zero t k one other two R l h = λ a b g. simp (le-ltb a 0 (omega arith))
join_law (suc n) t k one other two R l h =
    step n t (join_to n t k one other two) k one other two R (join_law n t k one other two R (omega arith) h) l h

module _ (t : Square) (k : ℕ) (hk : k + 1 < terms) where
  abbrev two_rows : List ℕ
  two_rows = both_of (row t k) (row t (k + 1))

  two_marked : (b : ℕ) → b < terms → in_row two_rows b ≡ (marked t k b || marked t (k + 1) b)
  two_marked b h = both_row (row t k) (row t (k + 1)) b h ∙ simp (row_of t k b, row_of t (k + 1) b)

  widen_marked : (i j b : ℕ) → b < terms → in_row (widen (row t i) j two_rows) b ≡ (if marked t i j then (marked t k b || marked t (k + 1) b) else marked t i b)
  unfolding widen
  widen_marked i j b h = rw (row_of t i j) (go (marked t i j))
    where
      go : (m : Bool) → in_row (if m then two_rows else row t i) b ≡ (if m then (marked t k b || marked t (k + 1) b) else marked t i b)
      go true = two_marked b h
      go false = row_of t i b

  rows : Rows t k (widen (row t k) (k + 1) two_rows) (widen (row t (k + 1)) k two_rows) two_rows
  rows = record { one_is = widen_marked k (k + 1); other_is = widen_marked (k + 1) k; two_is = two_marked }

  empty : has_some two_rows ≡ false → (b : ℕ) → b < terms → (marked t k b ≡ false) × (marked t (k + 1) b ≡ false)
  empty e b h = parts (marked t k b) (marked t (k + 1) b) (sym (two_marked b h) ∙ row_empty two_rows b e h)
    where
      parts : (x y : Bool) → (x || y) ≡ false → (x ≡ false) × (y ≡ false)
      parts true y q = no_way q
      parts false y q = (refl, q)

abbrev pub Passed : Square → Square → ℕ → Type 0
Passed t u k = (a b : ℕ) → a < terms → b < terms → marked u a b ≡ via_two (marked t) k a b

pub pass_law : (t : Square) (k : ℕ) → k + 1 < terms → Passed t (pass t k) k
unfolding pass
pass_law t k h = go (has_some (two_rows t k h)) refl
  where
    go : (m : Bool) → has_some (two_rows t k h) ≡ m
        → Passed t (if m then join_to terms t k (widen (row t k) (k + 1) (two_rows t k h)) (widen (row t (k + 1)) k (two_rows t k h)) (two_rows t k h) else t) k
    go true e =
        let J = join_law terms t k _ _ _ (rows t k h) (omega arith) h in
        λ a b ha hb. J a b hb ∙ simp (lt-ltb a terms ha)
    go false e = λ a b ha hb. by a b hb
      where
        by : (a b : ℕ) → b < terms → marked t a b ≡ via_two (marked t) k a b
        by a b hb =
            simp ((empty t k h e b hb).0, (empty t k h e b hb).1, (empty t k h e (k + 1) h).0, (empty t k h e k (omega arith)).1)
            (nothing (marked t a b) (marked t a k) (marked t a (k + 1)))

-- Words of bits, turn by turn; and what they count.
use mathlib.Core.Path.{◌≡◌, refl, sym, ap, ◌∙◌}
use mathlib.Core.Bool.{Bool, true, false, ◌&&◌}
use mathlib.Core.List.{List}
use Prim.Native.Nat.{ℕ, zero, suc, ◌+◌, ◌-◌, ◌*◌, ◌/◌, ◌%◌, ◌^◌, ◌≤◌, ◌<◌}
use native.Mathlib.Omega.{arith}
use native.Mathlib.Numerals.{add-one, unary_clauses}
use native.Mathlib.Decide.{ℕ_discrete}
use lib.ListN.{length, get_or, set, length-set, length-replicate}
use lib.Seq.{get_or-set_same, get_or-set_other}
use lib.Bits.{bit_and, and_block, and_zero_l}
use lib.Count.{ones, ones_cat}
use lib.Pow.{pow-lt, pow-add, pow_pos, pow_mono, high, split}
use native.Mathlib.Nat.{mod-lt, add-mul, mul_assoc}
use lib.Dec.{eqb, leb}
use borrow.Author.Tests.{eq-eqb, ne_eqb, eqb-true, lt-ltb, le-ltb}
use Rattle.paper.specs.Numbers.{max_rules}
use Rattle.std.specs.Prelude.{if◌then◌else◌}
use Rattle.paper.specs.Words.{flag}
use Rattle.report.specs.Rows.{bits, bit_at, filled, filled_with, degree_of, better_of, busiest_of, cleared, take_from}

-- ---- arrays
pub filled_more : {A : Type 0} (z : A) (f : ℕ → A) (k : ℕ) (xs : List A) (v : A) → xs ≡ filled_with z f k → v ≡ f k → set xs k v ≡ filled_with z f (k + 1)
unfolding filled_with
filled_more z f k xs v e g = rw (add-one, e, g)

pub filled_is : (f : ℕ → ℕ) (k : ℕ) → filled_with 0 f k ≡ filled f k
unfolding filled filled_with
filled_is f zero = refl
filled_is f (suc k) = rw (filled_is f k)

pub filled_length : (f : ℕ → ℕ) (k : ℕ) → length (filled f k) ≡ max_rules
unfolding filled
filled_length f zero = length-replicate {A = ℕ} max_rules 0
filled_length f (suc k) = length-set (filled f k) k (f k) ∙ filled_length f k

pub filled_at : (f : ℕ → ℕ) (k i : ℕ) → i < k → k ≤ max_rules → get_or (filled f k) i 0 ≡ f i
unfolding filled
filled_at f zero i h l = absurd (omega arith)
filled_at f (suc k) i h l = go (ℕ_discrete i k) (λ m. filled_at f k i m (omega arith))
  where
    go : Dec (i ≡ k) → (i < k → get_or (filled f k) i 0 ≡ f i) → get_or (set (filled f k) k (f k)) i 0 ≡ f i
    go (yes e) g = let z : k < length (filled f k) = omega (arith, filled_length f k) in rw e (get_or-set_same (filled f k) k (f k) 0 z)
    go (no n) g = get_or-set_other (filled f k) k i (f k) 0 n ∙ g (omega arith)

-- ---- bits
abbrev pub bit_of : Bool → ℕ → ℕ
bit_of t j = if t then 2 ^ j else 0

bit_flag : (t : Bool) (j : ℕ) → bit_of t j ≡ flag t * 2 ^ j
bit_flag true j = omega arith
bit_flag false j = omega arith

bit_bound : (t : Bool) (j : ℕ) → bit_of t j ≤ 2 ^ j
bit_bound true j = omega arith
bit_bound false j = omega arith

double : (j : ℕ) → 2 ^ suc j ≡ 2 ^ j + 2 ^ j
double j = simp unary_clauses (omega arith)

pub bits_bound : (f : ℕ → Bool) (j : ℕ) → bits f j < 2 ^ j
unfolding bits
bits_bound f zero = omega arith
bits_bound f (suc j) = omega (arith, bits_bound f j, bit_bound (f j) j, double j)

pub bits_none : (f : ℕ → Bool) → 0 ≡ bits f 0
unfolding bits
bits_none f = refl

pub bit_there : (j : ℕ) → j < 64 → (1 * 2 ^ j) % 18446744073709551616 ≡ 2 ^ j
bit_there j h = let p : 2 ^ j < 2 ^ 64 = pow-lt h in omega arith

module _ (f : ℕ → Bool) (j r b : ℕ) (t : Bool) (e : r ≡ bits f j) (g : t ≡ f j) (h : b ≡ bit_of t j) where
  pub bits_next : r + b ≡ bits f (j + 1)
  unfolding bits
  bits_next = rw (add-one, e, h, g)

-- a word of j bits and one more
pub word_more : (j r b : ℕ) (t : Bool) → r < 2 ^ j → b ≡ bit_of t j → r + b < 2 ^ (j + 1)
word_more j r b t h e = rw add-one (omega (arith, bit_bound t j, double j))

pub bits_same : (f g : ℕ → Bool) (n : ℕ) → ((j : ℕ) → j < n → f j ≡ g j) → bits f n ≡ bits g n
unfolding bits
bits_same f g zero h = refl
bits_same f g (suc n) h = rw (bits_same f g n (λ j l. h j (omega arith)), h n (omega arith))

-- a word's highest bit, apart from the rest
bits_top : (f : ℕ → Bool) (j : ℕ) → bits f (suc j) ≡ flag (f j) * 2 ^ j + bits f j
unfolding bits
bits_top f j = omega (arith, bit_flag (f j) j)

ones_flag : (t : Bool) → ones (flag t) ≡ flag t
unfolding ones
ones_flag true = refl
ones_flag false = refl

and_flag : (s t : Bool) → bit_and (flag s) (flag t) ≡ flag (s && t)
and_flag true true = refl
and_flag true false = refl
and_flag false t = and_zero_l (flag t)

and_none : (f g : ℕ → Bool) → bit_and (bits f 0) (bits g 0) ≡ bits (λ j. f j && g j) 0
unfolding bits
and_none f g = and_zero_l 0

-- a word that is as long, and longer, where the first word has no bits
and_bits : (f g : ℕ → Bool) (n : ℕ) → bit_and (bits f n) (bits g n) ≡ bits (λ j. f j && g j) n
and_bits f g zero = and_none f g
and_bits f g (suc n) =
    rw (bits_top f n, bits_top g n, and_block n (flag (f n)) (flag (g n)) (bits f n) (bits g n) (bits_bound f n) (bits_bound g n), and_flag (f n) (g n), and_bits f g n)
    (sym (bits_top (λ j. f j && g j) n))

and_more : (f g : ℕ → Bool) (n d : ℕ) → bit_and (bits f n) (bits g (d + n)) ≡ bits (λ j. f j && g j) n
and_more f g n zero = let z : 0 + n ≡ n = omega arith in rw z (and_bits f g n)
and_more f g n (suc d) =
    let z : suc d + n ≡ suc (d + n) = omega arith in
    let l : bits f n < 2 ^ (d + n) = omega (arith, bits_bound f n, pow_up n d) in
    let y : bits f n ≡ 0 * 2 ^ (d + n) + bits f n = omega arith in
    let x : bit_and (0 * 2 ^ (d + n) + bits f n) (flag (g (d + n)) * 2 ^ (d + n) + bits g (d + n)) ≡ bits (λ j. f j && g j) n =
    and_block (d + n) 0 (flag (g (d + n))) (bits f n) (bits g (d + n)) l (bits_bound g (d + n))
    ∙ rw (and_zero_l (flag (g (d + n))), and_more f g n d) (omega arith) in
    ap (λ v. bit_and (bits f n) v) (ap (bits g) z ∙ bits_top g (d + n)) ∙ (ap (λ v. bit_and v (flag (g (d + n)) * 2 ^ (d + n) + bits g (d + n))) y ∙ x)
  where
    pow_up : (n d : ℕ) → 2 ^ n ≤ 2 ^ (d + n)
    pow_up n d = let h : n ≤ d + n = omega arith in pow_mono h

pub and_wide : (f g : ℕ → Bool) (n m : ℕ) → n ≤ m → bit_and (bits f n) (bits g m) ≡ bits (λ j. f j && g j) n
and_wide f g n m h = let z : m ≡ (m - n) + n = omega arith in ap (λ k. bit_and (bits f n) (bits g k)) z ∙ and_more f g n (m - n)

-- ---- a bit of a word
shifted : (a x p : ℕ) → (a * 2 ^ p + x) / 2 ^ p ≡ a + x / 2 ^ p
shifted a x p =
    let e : x / 2 ^ p * 2 ^ p + x % 2 ^ p ≡ x = split x p in
    let d : (a + x / 2 ^ p) * 2 ^ p ≡ a * 2 ^ p + x / 2 ^ p * 2 ^ p = add-mul a (x / 2 ^ p) (2 ^ p) in
    let f : a * 2 ^ p + x ≡ (a + x / 2 ^ p) * 2 ^ p + x % 2 ^ p = omega arith in
    ap (λ y. y / 2 ^ p) f ∙ high (a + x / 2 ^ p) p (mod-lt x (pow_pos p))

power : (j p : ℕ) → p < j → 2 ^ j ≡ (2 ^ (j - p - 1) * 2) * 2 ^ p
power j p h =
    let z : j ≡ suc (j - p - 1) + p = omega arith in
    ap (λ k. 2 ^ k) z ∙ (pow-add 2 (suc (j - p - 1)) p ∙ ap (λ k. k * 2 ^ p) (times (j - p - 1)))
  where
    times : (k : ℕ) → 2 ^ suc k ≡ 2 ^ k * 2
    times k = omega (arith, double k)

pub bits_odd : (f : ℕ → Bool) (n p : ℕ) → p < n → bits f n / 2 ^ p % 2 ≡ flag (f p)
bits_odd f zero p h = absurd (omega arith)
bits_odd f (suc j) p h = go (ℕ_discrete p j) (λ l. bits_odd f j p l)
  where
    flag_odd : (t : Bool) → flag t % 2 ≡ flag t
    flag_odd true = refl
    flag_odd false = refl

    go : Dec (p ≡ j) → (p < j → bits f j / 2 ^ p % 2 ≡ flag (f p)) → bits f (suc j) / 2 ^ p % 2 ≡ flag (f p)
    go (yes e) g = rw (e, bits_top f j, high (flag (f j)) j (bits_bound f j)) (flag_odd (f j))
    go (no n) g =
        let l : p < j = omega arith in
        let c : flag (f j) * 2 ^ j ≡ (flag (f j) * (2 ^ (j - p - 1) * 2)) * 2 ^ p = ap (λ x. flag (f j) * x) (power j p l) ∙ sym (mul_assoc (flag (f j)) (2 ^ (j - p - 1) * 2) (2 ^ p)) in
        let d : flag (f j) * (2 ^ (j - p - 1) * 2) ≡ flag (f j) * 2 ^ (j - p - 1) * 2 = sym (mul_assoc (flag (f j)) (2 ^ (j - p - 1)) 2) in
        rw (bits_top f j, c, shifted (flag (f j) * (2 ^ (j - p - 1) * 2)) (bits f j) p, d) (omega (arith, g l))

pub bits_at : (f : ℕ → Bool) (n p : ℕ) → p < n → n ≤ max_rules → bit_at (bits f n) p ≡ f p
unfolding bit_at
bits_at f n p h l = let m : p < 64 = omega arith in rw (lt-ltb p 64 m, bits_odd f n p h) (test (f p))
  where
    test : (t : Bool) → eqb (flag t) 1 ≡ t
    test true = refl
    test false = refl

-- what a test of a bit tells
pub has_bit : (w j : ℕ) → j < 64 → eqb (w / 2 ^ j % 2) 1 ≡ bit_at w j
unfolding bit_at
has_bit w j h = rw (lt-ltb j 64 h)

pub no_bit : (w j : ℕ) → 64 ≤ j → false ≡ bit_at w j
unfolding bit_at
no_bit w j h = rw (le-ltb j 64 h)

pub bit_within : (w j : ℕ) → eqb (w / 2 ^ j % 2) 1 ≡ true → 2 ^ j ≤ w
bit_within w j e =
    let z : w / 2 ^ j % 2 ≡ 1 = eqb-true (w / 2 ^ j % 2) 1 e in
    let s : w / 2 ^ j * 2 ^ j + w % 2 ^ j ≡ w = split w j in
    let a : w / 2 ^ j ≡ 1 + (w / 2 ^ j - 1) = omega arith in
    let b : w / 2 ^ j * 2 ^ j ≡ 1 * 2 ^ j + (w / 2 ^ j - 1) * 2 ^ j = ap (λ x. x * 2 ^ j) a ∙ add-mul 1 (w / 2 ^ j - 1) (2 ^ j) in
    omega arith

-- how many bits
unfoldable pub tally : (ℕ → Bool) → ℕ → ℕ
tally f zero = 0
tally f (suc j) = flag (f j) + tally f j

pub ones_bits : (f : ℕ → Bool) (n : ℕ) → ones (bits f n) ≡ tally f n
unfolding tally bits
ones_bits f zero = ones_flag false
ones_bits f (suc j) =
    ap ones (bits_top f j) ∙ (ones_cat j (flag (f j)) (bits f j) (bits_bound f j) ∙ (ap (λ x. x + ones (bits f j)) (ones_flag (f j)) ∙ ap (λ x. flag (f j) + x) (ones_bits f j)))

-- ---- the functions over words, return by return
module _ (rows : List ℕ) (left : ℕ) where
  better_one : (a b m : ℕ) → a < m → b < m → better_of rows left a b < m
  unfolding better_of
  better_one a b m h k = go (leb (degree_of rows left a) (degree_of rows left b))
    where
      go : (t : Bool) → (if t then b else a) < m
      go true = k
      go false = h

  pub busiest_none : 0 ≡ busiest_of rows left 0
  unfolding busiest_of
  busiest_none = refl

  pub busiest_next : (best k r : ℕ) → best ≡ busiest_of rows left k → r ≡ better_of rows left best k → r ≡ busiest_of rows left (k + 1)
  unfolding busiest_of
  busiest_next best k r e f = f ∙ rw (add-one, ← e)

  pub busiest_small : (k m : ℕ) → k ≤ m → 0 < m → busiest_of rows left k < m
  unfolding busiest_of
  busiest_small zero m h l = l
  busiest_small (suc k) m h l = better_one (busiest_of rows left k) k m (busiest_small k m (omega arith) l) (omega arith)

pub busiest_fits : (rows : List ℕ) (left best k r : ℕ) → best ≡ busiest_of rows left k → r ≡ better_of rows left best k → k < 64 → r < 64
busiest_fits rows left best k r e f h = rw (busiest_next rows left best k r e f) (busiest_small rows left (k + 1) 64 (omega arith) (omega arith))

-- ---- taking, turn by turn
module _ (k n : ℕ) (rows : List ℕ) (left : ℕ) (taken goal : List ℕ) (b w : ℕ) (h : k < n) (e : b ≡ busiest_of rows left n) (f : w ≡ get_or rows b 0) (g : take_from (n - k) n rows left taken ≡ goal) where
  near_is : bit_and (get_or rows (busiest_of rows left n) 0) left ≡ bit_and w left
  near_is = rw (← e, ← f)

  one_more : n - k ≡ suc (n - (k + 1))
  one_more = omega arith

  pub take_stop : bit_and w left ≡ 0 → taken ≡ goal
  unfolding take_from
  take_stop z =
      let y : eqb (bit_and (get_or rows (busiest_of rows left n) 0) left) 0 ≡ true = eq-eqb (bit_and (get_or rows (busiest_of rows left n) 0) left) 0 (near_is ∙ z) in
      let x : take_from (n - k) n rows left taken ≡ taken = rw (one_more, y, take_from) in
      sym x ∙ g

  pub take_turn : (bit_and w left ≡ 0 → ⊥) → (less : ℕ) → less ≡ cleared left b → take_from (n - (k + 1)) n (set rows b 0) less (set taken b (bit_and w left)) ≡ goal
  unfolding take_from
  take_turn z less c =
      let y : eqb (bit_and (get_or rows (busiest_of rows left n) 0) left) 0 ≡ false = ne_eqb (bit_and (get_or rows (busiest_of rows left n) 0) left) 0 (λ q. z (sym near_is ∙ q)) in
      let x : take_from (n - k) n rows left taken ≡ take_from (n - (k + 1)) n (set rows (busiest_of rows left n) 0) (cleared left (busiest_of rows left n)) (set taken (busiest_of rows left n) (bit_and (get_or rows (busiest_of rows left n) 0) left)) = rw (one_more, y, take_from) in
      rw (c, e) (ap (λ v. take_from (n - (k + 1)) n (set rows (busiest_of rows left n) 0) (cleared left (busiest_of rows left n)) (set taken (busiest_of rows left n) v)) (sym near_is) ∙ (sym x ∙ g))

pub take_none : (n : ℕ) (rows : List ℕ) (left : ℕ) (taken : List ℕ) → take_from (n - 0) n rows left taken ≡ take_from n n rows left taken
take_none n rows left taken = let z : n - 0 ≡ n = omega arith in ap (λ k. take_from k n rows left taken) z

pub take_end : (k n : ℕ) (rows : List ℕ) (left : ℕ) (taken goal : List ℕ) → n ≤ k → take_from (n - k) n rows left taken ≡ goal → taken ≡ goal
unfolding take_from
take_end k n rows left taken goal h g = let z : n - k ≡ 0 = omega arith in let x : take_from (n - k) n rows left taken ≡ taken = rw (z, take_from) in sym x ∙ g

-- Taking places names every edge exactly once, and no pair that is no edge.
use mathlib.Core.Path.{◌≡◌, refl, sym, ap, ◌∙◌}
use mathlib.Core.Bool.{Bool, true, false, ◌&&◌, not}
use mathlib.Core.List.{List, [], ◌∷◌, ◌++◌}
use Prim.Native.Nat.{ℕ, zero, suc, ◌+◌, ◌≤◌, ◌<◌}
use native.Mathlib.Omega.{arith}
use native.Mathlib.Decide.{ℕ_discrete}
use lib.ListN.{length, length-append}
use lib.Dec.{eqb, leb}
use borrow.Author.Tests.{eq-eqb, ne_eqb, leb-true, leb-false}
use Rattle.std.specs.Prelude.{if◌then◌else◌}
use Rattle.paper.specs.Words.{keep, below, flag}
use Rattle.paper.specs.Rules.{Graph, neighbours, degree, better, busiest, without, take_places}
use Rattle.paper.proofs.Lists.{and_false, none_in}
use Rattle.report.specs.Named.{count, named_in, times}
use Rattle.report.proofs.RowLaws.{tally}
use Rattle.report.proofs.ListLaws.{numbers, keep_yes, keep_no, keep_append, kept_next, count_kept}
use Rattle.report.proofs.TakeLaws.{places_at, places_stop, places_none, without_is, neighbours_are, no_edge}

-- ---- counting a number among those that pass a test
pub count_append : (j : ℕ) (xs ys : List ℕ) → count j (xs ++ ys) ≡ count j xs + count j ys
unfolding count
count_append j xs ys = ap length (keep_append (eqb j) xs ys) ∙ length-append (keep (eqb j) xs) (keep (eqb j) ys)

pub count_none : (j : ℕ) → count j [] ≡ 0
unfolding count keep
count_none j = refl

pub count_single : (j k : ℕ) → count j (k ∷ []) ≡ flag (eqb j k)
unfolding count keep
count_single j k = go (eqb j k)
  where
    go : (t : Bool) → length {A = ℕ} (elim t as (λ _. List ℕ) [ true ↦ k ∷ [] | false ↦ [] ]) ≡ flag t
    go true = refl
    go false = refl

flag_no : (t : Bool) → flag (t && false) ≡ 0
flag_no true = refl
flag_no false = refl

flag_yes : (t : Bool) → flag (t && true) ≡ flag t
flag_yes true = refl
flag_yes false = refl

pub keep_none : (f : ℕ → Bool) → keep f [] ≡ []
unfolding keep
keep_none f = refl

count_one : (j k : ℕ) (f : ℕ → Bool) → count j (keep f (k ∷ [])) ≡ flag (eqb j k && f k)
count_one j k f = go (f k) refl
  where
    go : (s : Bool) → f k ≡ s → count j (keep f (k ∷ [])) ≡ flag (eqb j k && f k)
    go true e = ap (count j) (keep_yes f k [] e ∙ ap (λ z. k ∷ z) (keep_none f)) ∙ (count_single j k ∙ rw e (sym (flag_yes (eqb j k))))
    go false e = ap (count j) (keep_no f k [] e ∙ keep_none f) ∙ (count_none j ∙ rw e (sym (flag_no (eqb j k))))

count_next : (f : ℕ → Bool) (j k : ℕ) → count j (keep f (numbers (suc k))) ≡ count j (keep f (numbers k)) + flag (eqb j k && f k)
count_next f j k = ap (count j) (kept_next f k) ∙ (count_append j (keep f (numbers k)) (keep f (k ∷ [])) ∙ ap (λ z. count j (keep f (numbers k)) + z) (count_one j k f))

start : (f : ℕ → Bool) (j : ℕ) → count j (keep f (numbers 0)) ≡ 0
unfolding count keep below
start f j = refl

zero_plus : (x : ℕ) → 0 + x ≡ x
zero_plus x = omega arith

count_out : (f : ℕ → Bool) (j n : ℕ) → n ≤ j → count j (keep f (numbers n)) ≡ 0
count_out f j zero h = start f j
count_out f j (suc n) h =
    let ne : j ≡ n → ⊥ = λ e. omega arith in
    count_next f j n ∙ (rw (ne_eqb j n ne) (omega (arith, count_out f j n (omega arith))))

pub count_in : (f : ℕ → Bool) (j n : ℕ) → j < n → count j (keep f (numbers n)) ≡ flag (f j)
count_in f j zero h = absurd (omega arith)
count_in f j (suc n) h = go (ℕ_discrete j n) (λ l. count_in f j n l)
  where
    go : Dec (j ≡ n) → (j < n → count j (keep f (numbers n)) ≡ flag (f j)) → count j (keep f (numbers (suc n))) ≡ flag (f j)
    go (yes e) g =
        let l : n ≤ j = omega arith in
        count_next f j n ∙ (rw (eq-eqb j n e) (ap (λ z. z + flag (f n)) (count_out f j n l) ∙ (ap (λ z. 0 + flag (f z)) (sym e) ∙ zero_plus (flag (f j)))))
    go (no e) g =
        let l : j < n = omega arith in
        count_next f j n ∙ (rw (ne_eqb j n e) (omega (arith, g l)))

-- ---- the busiest has no fewer edges than any
module _ (n : ℕ) (g : Graph) where
  better_more : (a b : ℕ) → (degree n g a ≤ degree n g (better n g a b)) × (degree n g b ≤ degree n g (better n g a b))
  unfolding better
  better_more a b = go (leb (degree n g a) (degree n g b)) refl
    where
      go : (t : Bool) → leb (degree n g a) (degree n g b) ≡ t → (degree n g a ≤ degree n g (if t then b else a)) × (degree n g b ≤ degree n g (if t then b else a))
      go true e = (leb-true (degree n g a) (degree n g b) e, omega arith)
      go false e = (omega arith, let l = leb-false (degree n g a) (degree n g b) e in omega arith)

  busiest_most : (k i : ℕ) → i < k → degree n g i ≤ degree n g (busiest n g k)
  unfolding busiest
  busiest_most zero i h = absurd (omega arith)
  busiest_most (suc k) i h = go (ℕ_discrete i k) (λ l. busiest_most k i l)
    where
      go : Dec (i ≡ k) → (i < k → degree n g i ≤ degree n g (busiest n g k)) → degree n g i ≤ degree n g (better n g (busiest n g k) k)
      go (yes e) f = rw e (better_more (busiest n g k) k).1
      go (no e) f = let l : i < k = omega arith in omega (arith, f l, (better_more (busiest n g k) k).0)

  degree_is : (i : ℕ) → degree n g i ≡ length (neighbours n g i)
  unfolding degree
  degree_is i = refl

  -- without neighbours, without edges
  lonely : (i j : ℕ) → j < n → degree n g i ≡ 0 → g i j ≡ false
  lonely i j h e = go (g i j) refl
    where
      counted : flag (g i j) ≡ 0
      counted =
          sym (count_in (g i) j n h) ∙ (ap (count j) (sym (neighbours_are n g i) ∙ none_in (neighbours n g i) (sym (degree_is i) ∙ e)) ∙ count_none j)

      go : (t : Bool) → g i j ≡ t → g i j ≡ false
      go true q = absurd (omega (arith, sym (ap flag q) ∙ counted))
      go false q = q

-- ---- how many still have edges: each turn leaves one fewer
unfoldable busy : ℕ → Graph → ℕ → Bool
busy n g i = not (eqb (degree n g i) 0)

tally_more : (f : ℕ → Bool) (k : ℕ) → tally f (suc k) ≡ flag (f k) + tally f k
unfolding tally
tally_more f k = refl

tally_start : (f : ℕ → Bool) → tally f 0 ≡ 0
unfolding tally
tally_start f = refl

tally_bound : (f : ℕ → Bool) (n : ℕ) → tally f n ≤ n
tally_bound f zero = omega (arith, tally_start f)
tally_bound f (suc n) = omega (arith, tally_more f n, tally_bound f n, flag_bound (f n))
  where
    flag_bound : (t : Bool) → flag t ≤ 1
    flag_bound true = omega arith
    flag_bound false = omega arith

none_tally : (f : ℕ → Bool) (n : ℕ) → ((j : ℕ) → j < n → f j ≡ false) → tally f n ≡ 0
none_tally f zero h = tally_start f
none_tally f (suc n) h = omega (arith, tally_more f n, ap flag (h n (omega arith)), none_tally f n (λ j l. h j (omega arith)))

-- as many, where the one implies the other; and fewer, where at b only the other holds
tally_less : (f h : ℕ → Bool) (n : ℕ) → ((i : ℕ) → i < n → flag (f i) ≤ flag (h i)) → tally f n ≤ tally h n
tally_less f h zero le = omega (arith, tally_start f, tally_start h)
tally_less f h (suc n) le = omega (arith, tally_more f n, tally_more h n, le n (omega arith), tally_less f h n (λ i l. le i (omega arith)))

tally_drop : (f h : ℕ → Bool) (b n : ℕ) → b < n → ((i : ℕ) → i < n → flag (f i) ≤ flag (h i)) → flag (f b) ≡ 0 → flag (h b) ≡ 1 → tally f n + 1 ≤ tally h n
tally_drop f h b zero l le e q = absurd (omega arith)
tally_drop f h b (suc n) l le e q = go (ℕ_discrete b n) (λ m. tally_drop f h b n m (λ i k. le i (omega arith)) e q)
  where
    go : Dec (b ≡ n) → (b < n → tally f n + 1 ≤ tally h n) → tally f (suc n) + 1 ≤ tally h (suc n)
    go (yes z) r = omega (arith, tally_more f n, tally_more h n, ap (λ k. flag (f k)) z, ap (λ k. flag (h k)) z, tally_less f h n (λ i k. le i (omega arith)))
    go (no z) r = let m : b < n = omega arith in omega (arith, tally_more f n, tally_more h n, le n (omega arith), r m)

tally_zero : (f : ℕ → Bool) (n : ℕ) → tally f n ≡ 0 → (i : ℕ) → i < n → flag (f i) ≡ 0
tally_zero f zero e i h = absurd (omega arith)
tally_zero f (suc n) e i h = go (ℕ_discrete i n) (λ l. tally_zero f n (omega (arith, tally_more f n)) i l)
  where
    go : Dec (i ≡ n) → (i < n → flag (f i) ≡ 0) → flag (f i) ≡ 0
    go (yes z) r = omega (arith, tally_more f n, ap (λ k. flag (f k)) z)
    go (no z) r = r (omega arith)

module _ (n : ℕ) (g : Graph) (b : ℕ) where
  without_degree : (i : ℕ) → degree n g i ≡ 0 → degree n (without b g) i ≡ 0
  without_degree i e =
      degree_is n (without b g) i
      ∙ (ap length (neighbours_are n (without b g) i) ∙ (count_kept (without b g i) n ∙ none_tally (without b g i) n (λ j l. without_is b g i j ∙ rw (lonely n g i j l e) (no_edge (not (eqb i b)) (not (eqb j b))))))

  without_none : degree n (without b g) b ≡ 0
  without_none =
      degree_is n (without b g) b
      ∙ (ap length (neighbours_are n (without b g) b) ∙ (count_kept (without b g b) n ∙ none_tally (without b g b) n (λ j l. without_is b g b j ∙ rw (eq-eqb b b refl))))

busy_not : (n : ℕ) (g : Graph) (i : ℕ) → degree n g i ≡ 0 → flag (busy n g i) ≡ 0
unfolding busy
busy_not n g i e = rw (eq-eqb (degree n g i) 0 e)

busy_so : (n : ℕ) (g : Graph) (i : ℕ) → (degree n g i ≡ 0 → ⊥) → flag (busy n g i) ≡ 1
unfolding busy
busy_so n g i e = rw (ne_eqb (degree n g i) 0 e)

busy_fewer : (n : ℕ) (g : Graph) (b i : ℕ) → flag (busy n (without b g) i) ≤ flag (busy n g i)
busy_fewer n g b i = go (ℕ_discrete (degree n g i) 0)
  where
    flag_small : (t : Bool) → flag t ≤ 1
    flag_small true = omega arith
    flag_small false = omega arith

    go : Dec (degree n g i ≡ 0) → flag (busy n (without b g) i) ≤ flag (busy n g i)
    go (yes e) = omega (arith, busy_not n (without b g) i (without_degree n g b i e))
    go (no e) = omega (arith, busy_so n g i e, flag_small (busy n (without b g) i))

busy_drops : (n : ℕ) (g : Graph) (b : ℕ) → b < n → (degree n g b ≡ 0 → ⊥) → tally (busy n (without b g)) n + 1 ≤ tally (busy n g) n
busy_drops n g b l e = tally_drop (busy n (without b g)) (busy n g) b n l (λ i k. busy_fewer n g b i) (busy_not n (without b g) b (without_none n g b)) (busy_so n g b e)

-- ---- every edge once
pub busiest_less : (n : ℕ) (g : Graph) (k m : ℕ) → k ≤ m → 0 < m → busiest n g k < m
unfolding busiest better
busiest_less n g zero m h l = l
busiest_less n g (suc k) m h l = go (leb (degree n g (busiest n g k)) (degree n g k)) (busiest_less n g k m (omega arith) l)
  where
    go : (t : Bool) → busiest n g k < m → (if t then k else busiest n g k) < m
    go true r = omega arith
    go false r = r

times_none : (i j : ℕ) → times i j [] ≡ 0
unfolding times
times_none i j = refl

times_more : (i j : ℕ) (l : ℕ × List ℕ) (ls : List (ℕ × List ℕ)) → times i j (l ∷ ls) ≡ named_in i j l + times i j ls
unfolding times
times_more i j l ls = refl

named_first : (i j b : ℕ) (xs : List ℕ) → b ≡ i → named_in i j (b, xs) ≡ count j xs
unfolding named_in
named_first i j b xs e = rw (eq-eqb b i e)

named_second : (i j b : ℕ) (xs : List ℕ) → (b ≡ i → ⊥) → b ≡ j → named_in i j (b, xs) ≡ count i xs
unfolding named_in
named_second i j b xs n e = rw (ne_eqb b i n, eq-eqb b j e)

named_not : (i j b : ℕ) (xs : List ℕ) → (b ≡ i → ⊥) → (b ≡ j → ⊥) → named_in i j (b, xs) ≡ 0
unfolding named_in
named_not i j b xs n m = rw (ne_eqb b i n, ne_eqb b j m)

without_sym : (b : ℕ) (g : Graph) → ((i j : ℕ) → g i j ≡ g j i) → (i j : ℕ) → without b g i j ≡ without b g j i
without_sym b g s i j = without_is b g i j ∙ (rw (s i j) (swap (not (eqb i b)) (not (eqb j b)) (g j i)) ∙ sym (without_is b g j i))
  where
    swap : (x y z : Bool) → (x && (y && z)) ≡ (y && (x && z))
    swap true true z = refl
    swap true false z = refl
    swap false true z = refl
    swap false false z = refl

-- a turn's list and what is left together name a pair as often as there was an edge
turn_names : (n : ℕ) (g : Graph) (b i j : ℕ) → ((i j : ℕ) → g i j ≡ g j i) → i < n → j < n → (i ≡ j → ⊥) → named_in i j (b, keep (g b) (numbers n)) + flag (without b g i j) ≡ flag (g i j)
turn_names n g b i j s li lj ne = go (ℕ_discrete b i) (ℕ_discrete b j)
  where
    go : Dec (b ≡ i) → Dec (b ≡ j) → named_in i j (b, keep (g b) (numbers n)) + flag (without b g i j) ≡ flag (g i j)
    go (yes e) d =
        let w : without b g i j ≡ false = without_is b g i j ∙ rw (eq-eqb i b (sym e)) in
        omega (arith, named_first i j b (keep (g b) (numbers n)) e, count_in (g b) j n lj, ap flag w, ap (λ z. flag (g z j)) e)
    go (no e) (yes d) =
        let w : without b g i j ≡ false = without_is b g i j ∙ rw (eq-eqb j b (sym d)) (and_false (not (eqb i b))) in
        omega (arith, named_second i j b (keep (g b) (numbers n)) e d, count_in (g b) i n li, ap flag w, ap (λ z. flag (g z i)) d, ap flag (s i j))
    go (no e) (no d) =
        let w : without b g i j ≡ g i j = without_is b g i j ∙ rw (ne_eqb i b (λ q. e (sym q)), ne_eqb j b (λ q. d (sym q))) in
        omega (arith, named_not i j b (keep (g b) (numbers n)) e d, ap flag w)

lonely_flag : (n : ℕ) (g : Graph) (i j : ℕ) → j < n → degree n g i ≡ 0 → 0 ≡ flag (g i j)
lonely_flag n g i j l e = sym (ap flag (lonely n g i j l e))

none_busy : (n : ℕ) (g : Graph) (i : ℕ) → i < n → tally (busy n g) n ≤ 0 → degree n g i ≡ 0
none_busy n g i l h = go (ℕ_discrete (degree n g i) 0)
  where
    go : Dec (degree n g i ≡ 0) → degree n g i ≡ 0
    go (yes e) = e
    go (no e) = absurd (omega (arith, busy_so n g i e, tally_zero (busy n g) n (omega arith) i l))

abbrev Once : ℕ → ℕ → Graph → ℕ → ℕ → Type 0
Once k n g i j = times i j (take_places k n g) ≡ flag (g i j)

once_turn : (k n : ℕ) (g : Graph) (i j : ℕ) → ((i j : ℕ) → g i j ≡ g j i) → tally (busy n g) n ≤ suc k → i < n → j < n → (i ≡ j → ⊥) → (ns : List ℕ) → neighbours n g (busiest n g n) ≡ ns
    → (busiest n g n < n → tally (busy n (without (busiest n g n) g)) n ≤ k → Once k n (without (busiest n g n) g) i j)
    → Once (suc k) n g i j
once_turn k n g i j s h li lj ne [] e rec =
    let m : degree n g (busiest n g n) ≡ 0 = degree_is n g (busiest n g n) ∙ ap length e in
    let z : degree n g i ≡ 0 = omega (arith, busiest_most n g n i li) in
    ap (times i j) (places_stop k n g e) ∙ (times_none i j ∙ lonely_flag n g i j lj z)
once_turn k n g i j s h li lj ne (m ∷ ms) e rec =
    let l : busiest n g n < n = busiest_less n g n n (omega arith) (omega arith) in
    let d : degree n g (busiest n g n) ≡ suc (length ms) = degree_is n g (busiest n g n) ∙ ap length e in
    let t : tally (busy n (without (busiest n g n) g)) n + 1 ≤ tally (busy n g) n = busy_drops n g (busiest n g n) l (λ q. omega arith) in
    ap (times i j) (places_at k n g (busiest n g n) m ms refl e)
    ∙ (times_more i j (busiest n g n, keep (g (busiest n g n)) (numbers n)) (take_places k n (without (busiest n g n) g))
    ∙ (ap (λ z. named_in i j (busiest n g n, keep (g (busiest n g n)) (numbers n)) + z) (rec l (omega arith)) ∙ turn_names n g (busiest n g n) i j s li lj ne))

once_each : (k n : ℕ) (g : Graph) (i j : ℕ) → ((i j : ℕ) → g i j ≡ g j i) → tally (busy n g) n ≤ k → i < n → j < n → (i ≡ j → ⊥) → times i j (take_places k n g) ≡ flag (g i j)
once_each zero n g i j s h li lj ne = ap (times i j) (places_none n g) ∙ (times_none i j ∙ lonely_flag n g i j lj (none_busy n g i li h))
once_each (suc k) n g i j s h li lj ne =
    once_turn k n g i j s h li lj ne (neighbours n g (busiest n g n)) refl
    (λ l t. once_each k n (without (busiest n g n) g) i j (without_sym (busiest n g n) g s) t li lj ne)

-- taken as often as there are places, every edge is named exactly once, and no pair that is no edge
pub edges_once : (n : ℕ) (g : Graph) (i j : ℕ) → ((i j : ℕ) → g i j ≡ g j i) → i < n → j < n → (i ≡ j → ⊥) → times i j (take_places n n g) ≡ flag (g i j)
edges_once n g i j s = once_each n n g i j s (tally_bound (busy n g) n)

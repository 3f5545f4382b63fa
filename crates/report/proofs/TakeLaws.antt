-- Taking places over rows is taking places over the graph that the rows hold.
use mathlib.Core.Path.{◌≡◌, refl, sym, ap, ◌∙◌}
use mathlib.Core.Bool.{Bool, true, false, ◌&&◌, not}
use mathlib.Core.List.{List, [], ◌∷◌}
use Prim.Native.Nat.{ℕ, zero, suc, ◌+◌, ◌-◌, ◌^◌, ◌≤◌, ◌<◌}
use native.Mathlib.Omega.{arith}
use native.Mathlib.Decide.{ℕ_discrete}
use lib.ListN.{length, get_or, set, length-set}
use lib.Seq.{get_or-set_same, get_or-set_other}
use lib.Bits.{bit_and}
use lib.Count.{ones}
use lib.Dec.{eqb}
use borrow.Author.Tests.{eq-eqb, ne_eqb}
use Rattle.paper.specs.Numbers.{max_rules}
use Rattle.paper.specs.Words.{keep}
use Rattle.paper.specs.Rules.{Graph, neighbours, degree, better, busiest, without, take_places}
use Rattle.paper.proofs.Lists.{none_in}
use Rattle.report.specs.Rows.{bits, bit_at, degree_of, better_of, busiest_of, cleared, take_from}
use Rattle.report.proofs.RowLaws.{bits_same, bits_at, bit_of, and_wide, ones_bits, tally, busiest_small}
use Rattle.report.proofs.ListLaws.{numbers, keep_yes, keep_no, count_kept, none_counted}

-- ---- a bit taken out of a word
abbrev pub but : ℕ → (ℕ → Bool) → ℕ → Bool
but b f j = not (eqb j b) && f j

but_here : (b : ℕ) (f : ℕ → Bool) → but b f b ≡ false
but_here b f = rw (eq-eqb b b refl)

but_there : (b : ℕ) (f : ℕ → Bool) (j : ℕ) → (j ≡ b → ⊥) → but b f j ≡ f j
but_there b f j n = rw (ne_eqb j b n)

bits_next : (f : ℕ → Bool) (n : ℕ) → bits f (suc n) ≡ bits f n + bit_of (f n) n
unfolding bits
bits_next f n = refl

bits_but_past : (f : ℕ → Bool) (b n : ℕ) → n ≤ b → bits (but b f) n ≡ bits f n
bits_but_past f b n h = bits_same (but b f) f n (λ j l. but_there b f j (λ e. omega arith))

bits_but : (f : ℕ → Bool) (b n : ℕ) → b < n → bits f n ≡ bits (but b f) n + bit_of (f b) b
bits_but f b zero h = absurd (omega arith)
bits_but f b (suc n) h = go (ℕ_discrete b n) (λ l. bits_but f b n l)
  where
    go : Dec (b ≡ n) → (b < n → bits f n ≡ bits (but b f) n + bit_of (f b) b) → bits f (suc n) ≡ bits (but b f) (suc n) + bit_of (f b) b
    go (yes e) g =
        let h : but b f n ≡ false = ap (but b f) (sym e) ∙ but_here b f in
        let p : n ≤ b = omega arith in
        bits_next f n ∙ (rw (bits_next (but b f) n, h, bits_but_past f b n p, e) (omega arith))
    go (no m) g =
        let i : but b f n ≡ f n = but_there b f n (λ e. m (sym e)) in
        let l : b < n = omega arith in
        bits_next f n ∙ (rw (bits_next (but b f) n, i) (omega (arith, g l)))

cleared_there : (w b : ℕ) → bit_at w b ≡ true → cleared w b ≡ w - 2 ^ b
unfolding cleared
cleared_there w b e = rw e

cleared_lacks : (w b : ℕ) → bit_at w b ≡ false → cleared w b ≡ w
unfolding cleared
cleared_lacks w b e = rw e

cleared_bits : (f : ℕ → Bool) (b : ℕ) → b < 64 → cleared (bits f 64) b ≡ bits (but b f) 64
cleared_bits f b h = go (f b) refl
  where
    go : (t : Bool) → f b ≡ t → cleared (bits f 64) b ≡ bits (but b f) 64
    go true e = cleared_there (bits f 64) b (bits_at f 64 b h (omega arith) ∙ e) ∙ (let z : bits f 64 ≡ bits (but b f) 64 + bit_of true b = bits_but f b 64 h ∙ ap (λ t. bits (but b f) 64 + bit_of t b) e in omega arith)
    go false e = cleared_lacks (bits f 64) b (bits_at f 64 b h (omega arith) ∙ e) ∙ (let z : bits f 64 ≡ bits (but b f) 64 + bit_of false b = bits_but f b 64 h ∙ ap (λ t. bits (but b f) 64 + bit_of t b) e in omega arith)

some_at : (xs : List ℕ) → (length xs ≡ 0 → ⊥) → (m : ℕ) × ((ms : List ℕ) × (xs ≡ m ∷ ms))
some_at [] e = absurd (e refl)
some_at (m ∷ ms) e = (m, (ms, refl))

ones_none : ones 0 ≡ 0
unfolding ones
ones_none = refl

no_bits : (n : ℕ) → bits (λ q. false) n ≡ 0
unfolding bits
no_bits zero = refl
no_bits (suc n) = omega (arith, no_bits n)

neighbours_count : (n : ℕ) (g : Graph) (b : ℕ) → length (neighbours n g b) ≡ tally (g b) n
unfolding neighbours
neighbours_count n g b = count_kept (g b) n

pub without_is : (b : ℕ) (g : Graph) (p q : ℕ) → without b g p q ≡ (not (eqb p b) && (not (eqb q b) && g p q))
unfolding without
without_is b g p q = refl

mixed : (x y r a : Bool) → (x && (y && (r && a))) ≡ ((x && r) && (y && a))
mixed true true r a = refl
mixed true false true a = refl
mixed true false false a = refl
mixed false y r a = refl

-- ---- rows that hold a graph: with those that are left, they say which two have an edge
pub record Held (n : ℕ) (g : Graph) (rows : List ℕ) (left : ℕ) : Type 0 where
  pub links : ℕ → ℕ → Bool
  pub stays : ℕ → Bool
  pub long : length rows ≡ max_rules
  pub row : (p : ℕ) → p < n → get_or rows p 0 ≡ bits (links p) n
  pub all : left ≡ bits stays 64
  pub is : (p q : ℕ) → p < n → q < n → g p q ≡ (links p q && stays q)

module _ (n : ℕ) (g : Graph) (rows : List ℕ) (left : ℕ) (h : Held n g rows left) (few : n ≤ max_rules) (pos : 0 < n) where
  near_bits : (p : ℕ) → p < n → bit_and (get_or rows p 0) left ≡ bits (g p) n
  near_bits p l =
      rw (h.row p l, h.all) (and_wide (h.links p) h.stays n 64 few ∙ bits_same (λ j. h.links p j && h.stays j) (g p) n (λ q m. sym (h.is p q l m)))

  degree_same : (p : ℕ) → p < n → degree_of rows left p ≡ degree n g p
  unfolding degree_of degree neighbours
  degree_same p l = ap ones (near_bits p l) ∙ (ones_bits (g p) n ∙ sym (count_kept (g p) n))

  better_same : (a b : ℕ) → a < n → b < n → better_of rows left a b ≡ better n g a b
  unfolding better_of better
  better_same a b l m = rw (degree_same a l, degree_same b m)

  busiest_same : (k : ℕ) → k ≤ n → busiest_of rows left k ≡ busiest n g k
  unfolding busiest_of busiest
  busiest_same zero l = refl
  busiest_same (suc k) l =
      let i = busiest_same k (omega arith) in
      better_same (busiest_of rows left k) k (busiest_small rows left k n (omega arith) (omega arith)) (omega arith) ∙ ap (λ z. better n g z k) i

  -- what one turn finds
  pub data Turn : Type 0 where
    stops : bit_and (get_or rows (busiest_of rows left n) 0) left ≡ 0 → neighbours n g (busiest n g n) ≡ [] → Turn
    goes : busiest_of rows left n < n → (bit_and (get_or rows (busiest_of rows left n) 0) left ≡ 0 → ⊥) → (m : ℕ) (ms : List ℕ) → neighbours n g (busiest n g n) ≡ m ∷ ms → Turn

  abbrev pub taken_now : ℕ
  taken_now = busiest_of rows left n

  small : busiest_of rows left n < n
  small = busiest_small rows left n n (omega arith) pos

  counted : length (neighbours n g (busiest n g n)) ≡ tally (g (busiest_of rows left n)) n
  counted = ap (λ z. length (neighbours n g z)) (sym (busiest_same n (omega arith))) ∙ neighbours_count n g (busiest_of rows left n)

  pub turn : Turn
  turn = go (ℕ_discrete (bit_and (get_or rows (busiest_of rows left n) 0) left) 0)
    where
      go : Dec (bit_and (get_or rows (busiest_of rows left n) 0) left ≡ 0) → Turn
      go (yes z) = stops z (none_in (neighbours n g (busiest n g n)) (counted ∙ (sym (ones_bits (g (busiest_of rows left n)) n) ∙ (ap ones (sym (near_bits (busiest_of rows left n) small) ∙ z) ∙ ones_none))))
      go (no z) =
          let f = some_at (neighbours n g (busiest n g n)) (λ q. z (near_bits (busiest_of rows left n) small ∙ none_counted (g (busiest_of rows left n)) n (sym counted ∙ q))) in
          goes small z f.0 f.1.0 f.1.1

  -- what is removed leaves its own row and the word of those that are left
  pub held_without : (b : ℕ) → b < n → Held n (without b g) (set rows b 0) (cleared left b)
  held_without b l = record {
    links = λ p q. not (eqb p b) && h.links p q;
    stays = but b h.stays;
    long = length-set rows b 0 ∙ h.long;
    row = λ p m. row_of p m (ℕ_discrete p b);
    all = ap (λ z. cleared z b) h.all ∙ cleared_bits h.stays b (omega arith);
    is = λ p q m k. edge_of p q m k;
  }
    where
      row_of : (p : ℕ) → p < n → Dec (p ≡ b) → get_or (set rows b 0) p 0 ≡ bits (λ q. not (eqb p b) && h.links p q) n
      row_of p m (yes e) = rw (eq-eqb p b e, e) (get_or-set_same rows b 0 0 (omega (arith, h.long)) ∙ sym (no_bits n))
      row_of p m (no e) = rw (ne_eqb p b e) (get_or-set_other rows b p 0 0 e ∙ h.row p m)

      edge_of : (p q : ℕ) → p < n → q < n → without b g p q ≡ ((not (eqb p b) && h.links p q) && (not (eqb q b) && h.stays q))
      edge_of p q m k = without_is b g p q ∙ rw (h.is p q m k) (mixed (not (eqb p b)) (not (eqb q b)) (h.links p q) (h.stays q))

  near_is : bit_and (get_or rows (busiest_of rows left n) 0) left ≡ bits (g (busiest_of rows left n)) n
  near_is = near_bits (busiest_of rows left n) small

-- ---- one turn of both
abbrev pub Lists : Type 0
Lists = List (ℕ × List ℕ)

-- those that begin with i
abbrev pub firsts : ℕ → Lists → Lists
firsts i ls = keep (λ l. eqb l.0 i) ls

pub places_stop : (k n : ℕ) (g : Graph) → neighbours n g (busiest n g n) ≡ [] → take_places (suc k) n g ≡ []
unfolding take_places
places_stop k n g e = rw (e, take_places)

places_go : (k n : ℕ) (g : Graph) (m : ℕ) (ms : List ℕ) → neighbours n g (busiest n g n) ≡ m ∷ ms → take_places (suc k) n g ≡ (busiest n g n, m ∷ ms) ∷ take_places k n (without (busiest n g n) g)
unfolding take_places
places_go k n g m ms e = rw (e, take_places)

pub neighbours_are : (n : ℕ) (g : Graph) (b : ℕ) → neighbours n g b ≡ keep (g b) (numbers n)
unfolding neighbours
neighbours_are n g b = refl

pub places_at : (k n : ℕ) (g : Graph) (b m : ℕ) (ms : List ℕ) → b ≡ busiest n g n → neighbours n g (busiest n g n) ≡ m ∷ ms → take_places (suc k) n g ≡ (b, keep (g b) (numbers n)) ∷ take_places k n (without b g)
places_at k n g b m ms e f =
    places_go k n g m ms f
    ∙ (ap (λ z. (busiest n g n, z) ∷ take_places k n (without (busiest n g n) g)) (sym f)
    ∙ (ap (λ y. (y, neighbours n g y) ∷ take_places k n (without y g)) (sym e) ∙ ap (λ z. (b, z) ∷ take_places k n (without b g)) (neighbours_are n g b)))

module _ (k n : ℕ) (rows : List ℕ) (left : ℕ) (taken : List ℕ) where
  abbrev near : ℕ
  near = bit_and (get_or rows (busiest_of rows left n) 0) left

  from_stop : near ≡ 0 → take_from (suc k) n rows left taken ≡ taken
  unfolding take_from
  from_stop z = rw (eq-eqb near 0 z, take_from)

  from_go : (near ≡ 0 → ⊥) → take_from (suc k) n rows left taken ≡ take_from k n (set rows (busiest_of rows left n) 0) (cleared left (busiest_of rows left n)) (set taken (busiest_of rows left n) near)
  unfolding take_from
  from_go z = rw (ne_eqb near 0 z, take_from)

from_none : (n : ℕ) (rows : List ℕ) (left : ℕ) (taken : List ℕ) → take_from 0 n rows left taken ≡ taken
unfolding take_from
from_none n rows left taken = refl

pub places_none : (n : ℕ) (g : Graph) → take_places 0 n g ≡ []
unfolding take_places
places_none n g = refl

firsts_none : (i : ℕ) → firsts i [] ≡ []
unfolding keep
firsts_none i = refl

pub no_edge : (x y : Bool) → (x && (y && false)) ≡ false
no_edge true true = refl
no_edge true false = refl
no_edge false y = refl

-- the state after a turn
abbrev top : List ℕ → ℕ → ℕ → ℕ
top rows left n = busiest_of rows left n

abbrev word_of : List ℕ → ℕ → ℕ → ℕ
word_of rows left n = bit_and (get_or rows (busiest_of rows left n) 0) left

abbrev next : ℕ → ℕ → List ℕ → ℕ → List ℕ → List ℕ
next k n rows left taken = take_from k n (set rows (top rows left n) 0) (cleared left (top rows left n)) (set taken (top rows left n) (word_of rows left n))

without_still : (n : ℕ) (g : Graph) (b i : ℕ) → ((j : ℕ) → j < n → g i j ≡ false) → (j : ℕ) → j < n → without b g i j ≡ false
without_still n g b i dead j m = without_is b g i j ∙ rw (dead j m) (no_edge (not (eqb i b)) (not (eqb j b)))

without_self : (n : ℕ) (g : Graph) (b : ℕ) → (j : ℕ) → j < n → without b g b j ≡ false
without_self n g b j m = without_is b g b j ∙ rw (eq-eqb b b refl)

-- ---- a rule without edges is not taken any more
abbrev Gone : ℕ → ℕ → Graph → List ℕ → ℕ → List ℕ → ℕ → Type 0
Gone k n g rows left taken i = (firsts i (take_places k n g) ≡ []) × (get_or (take_from k n rows left taken) i 0 ≡ get_or taken i 0)

gone_turn : (k n : ℕ) (g : Graph) (rows : List ℕ) (left : ℕ) (taken : List ℕ) (i : ℕ) (h : Held n g rows left) (few : n ≤ max_rules) (l : i < n) (pos : 0 < n) → ((j : ℕ) → j < n → g i j ≡ false) → Turn n g rows left h few pos
    → (top rows left n < n → Gone k n (without (top rows left n) g) (set rows (top rows left n) 0) (cleared left (top rows left n)) (set taken (top rows left n) (word_of rows left n)) i)
    → Gone (suc k) n g rows left taken i
gone_turn k n g rows left taken i h few l pos dead (stops z e) rec = (ap (firsts i) (places_stop k n g e) ∙ firsts_none i, ap (λ y. get_or y i 0) (from_stop k n rows left taken z))
gone_turn k n g rows left taken i h few l pos dead (goes s z m ms e) rec =
    let w : top rows left n ≡ i → ⊥ = λ q. z (near_is n g rows left h few pos ∙ (ap (λ y. bits (g y) n) q ∙ (bits_same (g i) (λ q. false) n dead ∙ no_bits n))) in
    let r = rec s in (
      ap (firsts i) (places_at k n g (top rows left n) m ms (busiest_same n g rows left h few pos n (omega arith)) e)
          ∙ (keep_no (λ (x : ℕ × List ℕ). eqb x.0 i) (top rows left n, keep (g (top rows left n)) (numbers n)) (take_places k n (without (top rows left n) g)) (ne_eqb (top rows left n) i w) ∙ r.0),
      ap (λ y. get_or y i 0) (from_go k n rows left taken z) ∙ (r.1 ∙ get_or-set_other taken (top rows left n) i (word_of rows left n) 0 (λ q. w (sym q))),
    )

pub gone : (k n : ℕ) (g : Graph) (rows : List ℕ) (left : ℕ) (taken : List ℕ) (i : ℕ) → Held n g rows left → n ≤ max_rules → i < n → ((j : ℕ) → j < n → g i j ≡ false) → (firsts i (take_places k n g) ≡ []) × (get_or (take_from k n rows left taken) i 0 ≡ get_or taken i 0)
gone zero n g rows left taken i h few l dead = (ap (firsts i) (places_none n g) ∙ firsts_none i, ap (λ z. get_or z i 0) (from_none n rows left taken))
gone (suc k) n g rows left taken i h few l dead =
    let pos : 0 < n = omega arith in
    gone_turn k n g rows left taken i h few l pos dead (turn n g rows left h few pos)
    (λ s. gone k n (without (top rows left n) g) (set rows (top rows left n) 0) (cleared left (top rows left n)) (set taken (top rows left n) (word_of rows left n)) i
    (held_without n g rows left h few pos (top rows left n) s) few l (without_still n g (top rows left n) i dead))

-- ---- and each is taken once or never
pub data Taken (n i w : ℕ) (ls : Lists) : Type 0 where
  never : w ≡ 0 → ls ≡ [] → Taken n i w ls
  once : (f : ℕ → Bool) → w ≡ bits f n → (w ≡ 0 → ⊥) → ls ≡ (i, keep f (numbers n)) ∷ [] → Taken n i w ls

abbrev Live : ℕ → ℕ → Graph → List ℕ → ℕ → List ℕ → ℕ → Type 0
Live k n g rows left taken i = Taken n i (get_or (take_from k n rows left taken) i 0) (firsts i (take_places k n g))

passed : (k n : ℕ) (g : Graph) (b i m : ℕ) (ms : List ℕ) → (b ≡ i → ⊥) → b ≡ busiest n g n → neighbours n g (busiest n g n) ≡ m ∷ ms → firsts i (take_places (suc k) n g) ≡ firsts i (take_places k n (without b g))
passed k n g b i m ms w eb e =
    ap (firsts i) (places_at k n g b m ms eb e) ∙ keep_no (λ (x : ℕ × List ℕ). eqb x.0 i) (b, keep (g b) (numbers n)) (take_places k n (without b g)) (ne_eqb b i w)

live_stop : (k n : ℕ) (g : Graph) (rows : List ℕ) (left : ℕ) (taken : List ℕ) (i : ℕ) → get_or taken i 0 ≡ 0 → word_of rows left n ≡ 0 → neighbours n g (busiest n g n) ≡ [] → Live (suc k) n g rows left taken i
live_stop k n g rows left taken i e z f = never (ap (λ y. get_or y i 0) (from_stop k n rows left taken z) ∙ e) (ap (firsts i) (places_stop k n g f) ∙ firsts_none i)

live_taken : (k n : ℕ) (g : Graph) (rows : List ℕ) (left : ℕ) (taken : List ℕ) (i m : ℕ) (ms : List ℕ) → top rows left n ≡ i → i < length taken → (word_of rows left n ≡ 0 → ⊥) → word_of rows left n ≡ bits (g (top rows left n)) n → top rows left n ≡ busiest n g n → neighbours n g (busiest n g n) ≡ m ∷ ms
    → Gone k n (without (top rows left n) g) (set rows (top rows left n) 0) (cleared left (top rows left n)) (set taken (top rows left n) (word_of rows left n)) (top rows left n)
    → Live (suc k) n g rows left taken i
live_taken k n g rows left taken i m ms q long z near eb e r =
    let l : top rows left n < length taken = omega arith in
    let v : get_or (take_from (suc k) n rows left taken) i 0 ≡ word_of rows left n =
    ap (λ y. get_or (take_from (suc k) n rows left taken) y 0) (sym q) ∙ (ap (λ y. get_or y (top rows left n) 0) (from_go k n rows left taken z) ∙ (r.1 ∙ get_or-set_same taken (top rows left n) (word_of rows left n) 0 l)) in
    once (g (top rows left n)) (v ∙ near) (λ y. z (sym v ∙ y))
    (ap (firsts i) (places_at k n g (top rows left n) m ms eb e)
    ∙ (keep_yes (λ (x : ℕ × List ℕ). eqb x.0 i) (top rows left n, keep (g (top rows left n)) (numbers n)) (take_places k n (without (top rows left n) g)) (eq-eqb (top rows left n) i q)
    ∙ (ap (λ y. (top rows left n, keep (g (top rows left n)) (numbers n)) ∷ y) (ap (λ y. firsts y (take_places k n (without (top rows left n) g))) (sym q) ∙ r.0)
    ∙ ap (λ y. (y, keep (g (top rows left n)) (numbers n)) ∷ []) q)))

live_passed : (k n : ℕ) (g : Graph) (rows : List ℕ) (left : ℕ) (taken : List ℕ) (i m : ℕ) (ms : List ℕ) → (top rows left n ≡ i → ⊥) → (word_of rows left n ≡ 0 → ⊥) → top rows left n ≡ busiest n g n → neighbours n g (busiest n g n) ≡ m ∷ ms
    → Taken n i (get_or (next k n rows left taken) i 0) (firsts i (take_places k n (without (top rows left n) g)))
    → Live (suc k) n g rows left taken i
live_passed k n g rows left taken i m ms w z eb e (never v u) = never (ap (λ y. get_or y i 0) (from_go k n rows left taken z) ∙ v) (passed k n g (top rows left n) i m ms w eb e ∙ u)
live_passed k n g rows left taken i m ms w z eb e (once f v x u) =
    let y = ap (λ y. get_or y i 0) (from_go k n rows left taken z) in
    once f (y ∙ v) (λ q. x (sym y ∙ q)) (passed k n g (top rows left n) i m ms w eb e ∙ u)

live_turn : (k n : ℕ) (g : Graph) (rows : List ℕ) (left : ℕ) (taken : List ℕ) (i : ℕ) (h : Held n g rows left) (few : n ≤ max_rules) (l : i < n) (pos : 0 < n) → length taken ≡ max_rules → get_or taken i 0 ≡ 0 → Turn n g rows left h few pos → Dec (top rows left n ≡ i)
    → (top rows left n < n → (top rows left n ≡ i → ⊥) → Taken n i (get_or (next k n rows left taken) i 0) (firsts i (take_places k n (without (top rows left n) g))))
    → Live (suc k) n g rows left taken i
live_turn k n g rows left taken i h few l pos t e (stops z f) d rec = live_stop k n g rows left taken i e z f
live_turn k n g rows left taken i h few l pos t e (goes s z m ms f) (yes q) rec =
    live_taken k n g rows left taken i m ms q (omega arith) z (near_is n g rows left h few pos) (busiest_same n g rows left h few pos n (omega arith)) f
    (gone k n (without (top rows left n) g) (set rows (top rows left n) 0) (cleared left (top rows left n)) (set taken (top rows left n) (word_of rows left n)) (top rows left n) (held_without n g rows left h few pos (top rows left n) s) few s (without_self n g (top rows left n)))
live_turn k n g rows left taken i h few l pos t e (goes s z m ms f) (no q) rec =
    live_passed k n g rows left taken i m ms q z (busiest_same n g rows left h few pos n (omega arith)) f (rec s q)

pub live : (k n : ℕ) (g : Graph) (rows : List ℕ) (left : ℕ) (taken : List ℕ) (i : ℕ) → Held n g rows left → n ≤ max_rules → i < n → length taken ≡ max_rules → get_or taken i 0 ≡ 0 → Taken n i (get_or (take_from k n rows left taken) i 0) (firsts i (take_places k n g))
live zero n g rows left taken i h few l t e = never (ap (λ z. get_or z i 0) (from_none n rows left taken) ∙ e) (ap (firsts i) (places_none n g) ∙ firsts_none i)
live (suc k) n g rows left taken i h few l t e =
    let pos : 0 < n = omega arith in
    live_turn k n g rows left taken i h few l pos t e (turn n g rows left h few pos) (ℕ_discrete (top rows left n) i)
    (λ s q. live k n (without (top rows left n) g) (set rows (top rows left n) 0) (cleared left (top rows left n)) (set taken (top rows left n) (word_of rows left n)) i
    (held_without n g rows left h few pos (top rows left n) s) few l (length-set taken (top rows left n) (word_of rows left n) ∙ t)
    (get_or-set_other taken (top rows left n) i (word_of rows left n) 0 (λ y. q (sym y)) ∙ e))

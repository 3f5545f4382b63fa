-- One turn of each loop that reads a line.
use mathlib.Core.Path.{◌≡◌, refl, sym, ◌∙◌, ap}
use mathlib.Core.Bool.{Bool, true, false, ◌&&◌}
use mathlib.Core.List.{List, [], ◌∷◌}
use Prim.Native.Nat.{ℕ, zero, suc, ◌+◌, ◌-◌, ◌≤◌, ◌<◌}
use native.Mathlib.Omega.{arith}
use native.Mathlib.Numerals.{add-one}
use lib.ListN.{length, get_or, take, drop, length-drop}
use lib.Seq.{drop-cons, drop-length, take_all}
use lib.Dec.{eqb}
use lib.Pointwise.{pointwise}
use Rattle.std.specs.Option.{MatchOption}
use native.Mathlib.Decide.{ℕ_discrete, dec_lt}
use mathlib.Core.Logic.{◌⊎◌, inl, inr}
use Rattle.std.specs.Prelude.{◌≢◌}
use borrow.Author.Tests.{le-leb, lt-leb, eq-eqb, ne_eqb}
use Rattle.std.specs.declared.option.Option.TheVariants.{None, Some}
use Rattle.std.specs.Prelude.{if◌then◌else◌}
use Rattle.paper.specs.Answered.{Maybe}
use Rattle.class_script.specs.declared.Call.{Call}
use Rattle.class_script.specs.declared.Call.TheVariants as K
use Rattle.classes.specs.Well.{bit}
use Rattle.paper.specs.Text.{unended}
use Rattle.class_script.specs.Script.{next, goes_on, number_from, number_in, space_in, starts, both, pair_in, to_merge, to_same, to_find, to_find_mut, to_remove, call_in}

-- ---- a number

module _ (s : List ℕ) (v i : ℕ) {F : Maybe ℕ} (q : number_from v (drop i s) ≡ F) where
  pub number_end : i ≡ length s → Some v ≡ F
  unfolding number_from
  number_end e = sym (ap (λ (j : ℕ). number_from v (drop j s)) e ∙ ap (number_from v) (drop-length s)) ∙ q

  module _ (h : i < length s) where
    by : (b : Bool) → goes_on v (get_or s i 0) ≡ b → (if b then number_from (next v (get_or s i 0)) (drop (i + 1) s) else None) ≡ F
    unfolding number_from
    by true e = rw (add-one i) (sym (ap (number_from v) (drop-cons s i 0 h) ∙ (rw (e, number_from))) ∙ q)
    by false e = sym (ap (number_from v) (drop-cons s i 0 h) ∙ (rw (e, number_from))) ∙ q

    pub number_no : (get_or s i 0 < 48) ⊎ (57 < get_or s i 0) → None ≡ F
    number_no (inl g) = by false (simp (lt-leb 48 (get_or s i 0) g))
    number_no (inr g) = go (dec_lt (get_or s i 0) 48)
      where
        go : Dec (get_or s i 0 < 48) → None ≡ F
        go (yes l) = by false (simp (lt-leb 48 (get_or s i 0) l))
        go (no d) = by false (simp (le-leb 48 (get_or s i 0) (omega arith), lt-leb (get_or s i 0) 57 g))

    module _ (g : (48 ≤ get_or s i 0) × (get_or s i 0 ≤ 57)) where
      pub number_past : 65535 < next v (get_or s i 0) → None ≡ F
      number_past l = by false (simp (le-leb 48 (get_or s i 0) g.0, le-leb (get_or s i 0) 57 g.1, lt-leb (next v (get_or s i 0)) 65535 l))

      pub number_turn : (w : ℕ) → w ≡ next v (get_or s i 0) → w ≤ 65535 → number_from w (drop (i + 1) s) ≡ F
      number_turn w e l = rw e (by true (simp (le-leb 48 (get_or s i 0) g.0, le-leb (get_or s i 0) 57 g.1, le-leb (next v (get_or s i 0)) 65535 (rw e at l))))

pub number_none : (s : List ℕ) → true ≡ eqb (length s) 0 → None ≡ number_in s
unfolding number_in
number_none s e = rw (← e) refl

pub number_some : (s : List ℕ) {F : Maybe ℕ} → false ≡ eqb (length s) 0 → F ≡ number_from 0 s → F ≡ number_in s
unfolding number_in
number_some s d e = rw (← d) e

-- ---- the first space

pub space_is : (s : List ℕ) (k : ℕ) → k ≤ length s → (k < length s → get_or s k 0 ≡ 32) → ((i : ℕ) → i < k → get_or s i 0 ≢ 32) → k ≡ space_in s
unfolding space_in
space_is [] k l h f = omega arith
space_is (b ∷ s) zero l h f = simp (eq-eqb b 32 (h (omega arith)))
space_is (b ∷ s) (suc k) l h f = simp (ne_eqb b 32 (f 0 (omega arith))) (ap suc (space_is s k (omega arith) (λ g. h (omega arith)) (λ i g. f (suc i) (omega arith))))

-- ---- a word at the start

pub starts_is : (s w : List ℕ) → starts s w ≡ pointwise eqb (take (length w) s) w
unfolding starts
starts_is s [] = refl
starts_is [] (y ∷ w) = refl
starts_is (b ∷ s) (y ∷ w) = go (eqb b y) (starts_is s w)
  where
    go : (t : Bool) → starts s w ≡ pointwise eqb (take (length w) s) w → (if t then starts s w else false) ≡ (t && pointwise eqb (take (length w) s) w)
    go true e = e
    go false e = refl

-- the whole line is the word, or not
whole_yes : (s w : List ℕ) → true ≡ pointwise eqb s w → (length s ≡ length w) × (starts s w ≡ true)
unfolding starts
whole_yes [] [] e = (refl, refl)
whole_yes [] (y ∷ w) e = let z : ◌≡◌ {A = ℕ} 1 0 = ap bit e in absurd (omega arith)
whole_yes (b ∷ s) [] e = let z : ◌≡◌ {A = ℕ} 1 0 = ap bit e in absurd (omega arith)
whole_yes (b ∷ s) (y ∷ w) e = go (eqb b y) (λ q. whole_yes s w q) e
  where
    go : (t : Bool) → (true ≡ pointwise eqb s w → (length s ≡ length w) × (starts s w ≡ true)) → true ≡ (t && pointwise eqb s w)
        → (suc (length s) ≡ suc (length w)) × ((if t then starts s w else false) ≡ true)
    go true ih q = (ap suc (ih q).0, (ih q).1)
    go false ih q = let z : ◌≡◌ {A = ℕ} 1 0 = ap bit q in absurd (omega arith)

whole_no : (s w : List ℕ) → false ≡ pointwise eqb s w → length s ≡ length w → starts s w ≡ false
unfolding starts
whole_no [] [] e l = sym e
whole_no [] (y ∷ w) e l = refl
whole_no (b ∷ s) [] e l = absurd (omega arith)
whole_no (b ∷ s) (y ∷ w) e l = go (eqb b y) (λ q. whole_no s w q (omega arith)) e
  where
    go : (t : Bool) → (false ≡ pointwise eqb s w → starts s w ≡ false) → false ≡ (t && pointwise eqb s w) → (if t then starts s w else false) ≡ false
    go true ih q = ih q
    go false ih q = refl

-- ---- two numbers: t is what follows the space

module _ (s : List ℕ) (k : ℕ) (e : k ≡ space_in s) where
  pair_of : both (number_in (take k s)) (number_in (drop (k + 1) s)) ≡ pair_in s
  unfolding pair_in
  pair_of = rw (ap (λ (j : ℕ). number_in (drop j s)) (add-one k ∙ ap suc e), e)

  pub pair_first : None ≡ number_in (take k s) → None ≡ pair_in s
  pair_first f = ap (λ (m : Maybe ℕ). both m (number_in (drop (k + 1) s))) f ∙ pair_of

  not_second : None ≡ number_in (drop (k + 1) s) → None ≡ pair_in s
  not_second f = sym (no (number_in (take k s))) ∙ ap (both (number_in (take k s))) f ∙ pair_of
    where
      no : (n : Maybe ℕ) → both n None ≡ None
      no (Some x) = refl
      no None = refl

  pub pair_end : (length s < k + 1) ⊎ (length s < length s) → None ≡ pair_in s
  pair_end h = not_second (number_none (drop (k + 1) s) (sym (eq-eqb (length (drop (k + 1) s)) 0 (simp length-drop (past h)))))
    where
      past : (length s < k + 1) ⊎ (length s < length s) → length s - (k + 1) ≡ 0
      past (inl l) = omega arith
      past (inr l) = absurd (omega arith)

  module _ {t : List ℕ} (q : t ≡ take (length s - (k + 1)) (drop (k + 1) s)) where
    rest : t ≡ drop (k + 1) s
    rest = q ∙ take_all (length s - (k + 1)) (drop (k + 1) s) (simp length-drop (omega arith))

    pub pair_second : None ≡ number_in t → None ≡ pair_in s
    pair_second f = not_second (f ∙ ap number_in rest)

    pub pair_told : {x y : ℕ} → Some x ≡ number_in (take k s) → Some y ≡ number_in t → Some (x, y) ≡ pair_in s
    pair_told f g = ap (both (Some _)) (g ∙ ap number_in rest) ∙ ap (λ (m : Maybe ℕ). both m (number_in (drop (k + 1) s))) f ∙ pair_of

-- ---- a call: t is what follows its word, n the numbers there

-- what `map_or` tells
abbrev One : Maybe ℕ → Call → (ℕ → Call) → Type 0
One n r k = MatchOption n (r ≡ K.Bad) (λ x. r ≡ k x)

find_of : (n : Maybe ℕ) {r : Call} → One n r K.Find → r ≡ to_find n
find_of (Some x) h = h
find_of None h = h

find_mut_of : (n : Maybe ℕ) {r : Call} → One n r K.FindMut → r ≡ to_find_mut n
find_mut_of (Some x) h = h
find_mut_of None h = h

remove_of : (n : Maybe ℕ) {r : Call} → One n r K.Remove → r ≡ to_remove n
remove_of (Some x) h = h
remove_of None h = h

module _ (s : List ℕ) {t : List ℕ} {r : Call} where
  pub call_merge : starts s (unended "merge ") ≡ true → t ≡ drop 6 s → {n m : Maybe (ℕ × ℕ)} → n ≡ pair_in t → n ≡ m → r ≡ to_merge m → r ≡ call_in s
  unfolding call_in
  call_merge h e q o f = simp h (rw (← e, ← q, o) f)

  module _ (a : starts s (unended "merge ") ≡ false) where
    pub call_find : starts s (unended "find ") ≡ true → t ≡ drop 5 s → (n : Maybe ℕ) → n ≡ number_in t → One n r K.Find → r ≡ call_in s
    unfolding call_in
    call_find h e n q f = simp (a, h) (rw (← e, ← q) (find_of n f))

    module _ (b : starts s (unended "find ") ≡ false) where
      pub call_find_mut : starts s (unended "findmut ") ≡ true → t ≡ drop 8 s → (n : Maybe ℕ) → n ≡ number_in t → One n r K.FindMut → r ≡ call_in s
      unfolding call_in
      call_find_mut h e n q f = simp (a, b, h) (rw (← e, ← q) (find_mut_of n f))

      module _ (d : starts s (unended "findmut ") ≡ false) where
        pub call_same : starts s (unended "same ") ≡ true → t ≡ drop 5 s → {n m : Maybe (ℕ × ℕ)} → n ≡ pair_in t → n ≡ m → r ≡ to_same m → r ≡ call_in s
        unfolding call_in
        call_same h e q o f = simp (a, b, d, h) (rw (← e, ← q, o) f)

        module _ (g : starts s (unended "same ") ≡ false) where
          pub call_remove : starts s (unended "remove ") ≡ true → t ≡ drop 7 s → (n : Maybe ℕ) → n ≡ number_in t → One n r K.Remove → r ≡ call_in s
          unfolding call_in
          call_remove h e n q f = simp (a, b, d, g, h) (rw (← e, ← q) (remove_of n f))

module _ (s : List ℕ) (a : starts s (unended "merge ") ≡ false) (b : starts s (unended "find ") ≡ false) (d : starts s (unended "findmut ") ≡ false)
    (g : starts s (unended "same ") ≡ false) (k : starts s (unended "remove ") ≡ false) where
  pub call_len : {w : List ℕ} → w ≡ unended "len" → true ≡ pointwise eqb s w → K.Len ≡ call_in s
  unfolding call_in
  call_len q t = let h = whole_yes s (unended "len") (rw q at t) in simp (a, b, d, g, k, eq-eqb (length s) 3 h.0, h.1)

  pub call_empty : {w : List ℕ} → w ≡ unended "empty" → true ≡ pointwise eqb s w → K.Empty ≡ call_in s
  unfolding call_in
  call_empty q t = let h = whole_yes s (unended "empty") (rw q at t) in simp (a, b, d, g, k, ne_eqb (length s) 3 (λ e. omega (arith, h.0)), eq-eqb (length s) 5 h.0, h.1)

  pub call_bad : {v w : List ℕ} → v ≡ unended "len" → false ≡ pointwise eqb s v → w ≡ unended "empty" → false ≡ pointwise eqb s w → K.Bad ≡ call_in s
  unfolding call_in
  call_bad v t w u = let p = whole_no s (unended "len") (rw v at t) in let q = whole_no s (unended "empty") (rw w at u) in go p q (ℕ_discrete (length s) 3) (ℕ_discrete (length s) 5)
    where
      go : (length s ≡ 3 → starts s (unended "len") ≡ false) → (length s ≡ 5 → starts s (unended "empty") ≡ false) → Dec (length s ≡ 3) → Dec (length s ≡ 5) → K.Bad ≡ call_in s
      go p q (yes e) f = simp (a, b, d, g, k, eq-eqb (length s) 3 e, p e)
      go p q (no e) (yes f) = simp (a, b, d, g, k, ne_eqb (length s) 3 e, eq-eqb (length s) 5 f, q f)
      go p q (no e) (no f) = simp (a, b, d, g, k, ne_eqb (length s) 3 e, ne_eqb (length s) 5 f)

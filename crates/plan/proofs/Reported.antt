-- The report of a set is empty exactly when no two of its rules have an edge and none masks another.
use mathlib.Core.Path.{◌≡◌, refl, sym, ap, ◌∙◌}
use mathlib.Core.Bool.{Bool, true, false, ◌&&◌}
use mathlib.Core.Logic.{◌↔◌, ◌⊎◌, inl, inr}
use mathlib.Core.List.{List, [], ◌∷◌, ◌++◌, map, Memᴰ}
use Prim.Native.Nat.{ℕ, zero, suc, ◌≤◌, ◌<◌}
use native.Mathlib.Omega.{arith}
use native.Mathlib.Decide.{ℕ_discrete}
use lib.ListN.{length, get_or}
use lib.Dec.{eqb, ltb, leb}
use borrow.Author.Tests.{ltb-true, leb-true, leb-false, lt-ltb, eq-eqb, eqb-true}
use Rattle.std.specs.Prelude.{if◌then◌else◌}
use Rattle.paper.specs.Words.{keep, below, joined, place_by, sort_by}
use Rattle.paper.proofs.Closure.{of_below, in_below}
use Rattle.paper.proofs.Tables.{Rising, of_keep, in_keep}
use Rattle.paper.specs.Loading.{Kept, Set}
use Rattle.paper.specs.Rules.{may_overlap, is_yes_told, edge, masks, Listed, Graph, neighbours, degree, better, busiest, without, take_places, overlap_lists, masked_by, mask_lists, no_rule, linked, by_place, listed_from, is_multi, report_of, report_for, report}
use Rattle.paper.specs.Priorities.{rule, NoEdge, NoMask}
use Rattle.plan.proofs.Tools.{apart, either, is_false, of_joined, in_joined}
use Rattle.plan.proofs.Alike.{overlap_both}
use Rattle.plan.proofs.Mended.{get_in, rule_in}

-- ---- empty lists

empty : {A : Type 0} (l : List A) → ((x : A) → Memᴰ x l → ⊥) → l ≡ []
empty [] f = refl
empty (x ∷ l) f = absurd (f x (Memᴰ.head refl))

nothing : {A : Type 0} {l : List A} → l ≡ [] → (x : A) → Memᴰ x l → ⊥
nothing {A} {l} e x m = let k : Memᴰ x [] = rw e at m in elim k [ ]

joined_empty : {A : Type 0} (n : ℕ) (f : ℕ → List A) → joined (below n f) ≡ [] → (i : ℕ) → i < n → f i ≡ []
joined_empty n f e i h = empty (f i) (λ x m. nothing e x (in_joined (below n f) (f i) x (in_below n f i h) m))

empty_joined : {A : Type 0} (n : ℕ) (f : ℕ → List A) → ((i : ℕ) → i < n → f i ≡ []) → joined (below n f) ≡ []
empty_joined n f h = empty (joined (below n f)) (λ x m.
    let w = of_joined (below n f) x m in
    let b = of_below n f w.0 w.1 in
    nothing (b.2 ∙ h b.0 b.1) x w.2)

append_empty : {A : Type 0} (a b : List A) → a ++ b ≡ [] → (a ≡ []) × (b ≡ [])
append_empty [] b e = (refl, e)
append_empty (x ∷ a) b e = let z : ◌≡◌ {A = ℕ} 0 1 = cc in absurd (omega arith)

keep_empty : {A : Type 0} (f : A → Bool) (l : List A) → keep f l ≡ [] → (x : A) → Memᴰ x l → f x ≡ false
keep_empty f l e x m = is_false (f x) (λ t. nothing e x (in_keep f l x m t))

empty_keep : {A : Type 0} (f : A → Bool) (l : List A) → ((x : A) → Memᴰ x l → f x ≡ false) → keep f l ≡ []
empty_keep f l h = empty (keep f l) (λ x m. let w = of_keep f l x m in apart w.1 (h x w.0))

map_empty : {A B : Type 0} (f : A → B) (l : List A) → map f l ≡ [] → l ≡ []
map_empty f [] e = refl
map_empty f (x ∷ l) e = let z : ◌≡◌ {A = ℕ} 0 1 = cc in absurd (omega arith)

-- ---- sorting

module _ (key : Kept → ℕ) where
  in_place : (x : Kept) (l : List Kept) (y : Kept) → (y ≡ x) ⊎ Memᴰ y l → Memᴰ y (place_by key x l)
  unfolding place_by
  in_place x [] y (inl e) = Memᴰ.head e
  in_place x [] y (inr m) = elim m [ ]
  in_place x (z ∷ l) y (inl e) = go (ltb (key z) (key x)) (in_place x l y (inl e))
    where
      go : (t : Bool) → Memᴰ y (place_by key x l) → Memᴰ y (elim t as (λ _. List Kept) [ true ↦ z ∷ place_by key x l | false ↦ x ∷ z ∷ l ])
      go true i = Memᴰ.tail i
      go false i = Memᴰ.head e
  in_place x (z ∷ l) y (inr m) = go (ltb (key z) (key x)) (λ k. in_place x l y (inr k)) m
    where
      go : (t : Bool) → (Memᴰ y l → Memᴰ y (place_by key x l)) → Memᴰ y (z ∷ l) → Memᴰ y (elim t as (λ _. List Kept) [ true ↦ z ∷ place_by key x l | false ↦ x ∷ z ∷ l ])
      go true i (Memᴰ.head q) = Memᴰ.head q
      go true i (Memᴰ.tail q) = Memᴰ.tail (i q)
      go false i q = Memᴰ.tail q

  of_place : (x : Kept) (l : List Kept) (y : Kept) → Memᴰ y (place_by key x l) → (y ≡ x) ⊎ Memᴰ y l
  unfolding place_by
  of_place x [] y (Memᴰ.head q) = inl q
  of_place x [] y (Memᴰ.tail q) = elim q [ ]
  of_place x (z ∷ l) y m = go (ltb (key z) (key x)) (λ k. of_place x l y k) m
    where
      later : (y ≡ x) ⊎ Memᴰ y l → (y ≡ x) ⊎ Memᴰ y (z ∷ l)
      later (inl e) = inl e
      later (inr k) = inr (Memᴰ.tail k)

      go : (t : Bool) → (Memᴰ y (place_by key x l) → (y ≡ x) ⊎ Memᴰ y l) → Memᴰ y (elim t as (λ _. List Kept) [ true ↦ z ∷ place_by key x l | false ↦ x ∷ z ∷ l ]) → (y ≡ x) ⊎ Memᴰ y (z ∷ l)
      go true i (Memᴰ.head q) = inr (Memᴰ.head q)
      go true i (Memᴰ.tail q) = later (i q)
      go false i (Memᴰ.head q) = inl q
      go false i (Memᴰ.tail q) = inr q

  pub in_sort : (l : List Kept) (y : Kept) → Memᴰ y l → Memᴰ y (sort_by key l)
  unfolding sort_by
  in_sort [] y x' = elim x' [ ]
  in_sort (x ∷ l) y (Memᴰ.head q) = in_place x (sort_by key l) y (inl q)
  in_sort (x ∷ l) y (Memᴰ.tail q) = in_place x (sort_by key l) y (inr (in_sort l y q))

  pub of_sort : (l : List Kept) (y : Kept) → Memᴰ y (sort_by key l) → Memᴰ y l
  unfolding sort_by
  of_sort [] y m = elim m [ ]
  of_sort (x ∷ l) y m = go (of_place x (sort_by key l) y m) (λ k. of_sort l y k)
    where
      go : (y ≡ x) ⊎ Memᴰ y (sort_by key l) → (Memᴰ y (sort_by key l) → Memᴰ y l) → Memᴰ y (x ∷ l)
      go (inl e) i = Memᴰ.head e
      go (inr k) i = Memᴰ.tail (i k)

-- no two rules, at two places of a list, have an edge
abbrev Clear : Kept → Kept → Type 0
Clear a b = (edge a b ≡ false) × (edge b a ≡ false)

abbrev Each : List Kept → Type 0
Each [] = Unit {0}
Each (x ∷ l) = ((y : Kept) → Memᴰ y l → Clear x y) × Each l

turn : (a b : Kept) → Clear a b → Clear b a
turn a b c = (c.1, c.0)

each_at : (l : List Kept) (d : Kept) → Each l → (i j : ℕ) → i < j → j < length l → Clear (get_or l i d) (get_or l j d)
each_at [] d E i j h k = absurd (omega arith)
each_at (x ∷ l) d E zero zero h k = absurd (omega arith)
each_at (x ∷ l) d E zero (suc j) h k = E.0 (get_or l j d) (get_in l j d (omega arith))
each_at (x ∷ l) d E (suc i) zero h k = absurd (omega arith)
each_at (x ∷ l) d E (suc i) (suc j) h k = each_at l d E.1 i j (omega arith) (omega arith)

index_of : (l : List Kept) (d y : Kept) → Memᴰ y l → (i : ℕ) × (i < length l) × (y ≡ get_or l i d)
index_of [] d y x' = elim x' [ ]
index_of (x ∷ l) d y (Memᴰ.head q) = (0, (omega arith), q)
index_of (x ∷ l) d y (Memᴰ.tail m) = let w = index_of l d y m in let h = w.1 in (suc w.0, (omega arith), w.2)

at_each : (l : List Kept) (d : Kept) → ((i j : ℕ) → i < j → j < length l → Clear (get_or l i d) (get_or l j d)) → Each l
at_each [] d f = tt
at_each (x ∷ l) d f = (λ y m. let w = index_of l d y m in let h = w.1 in let q = w.2 in rw q (f 0 (suc w.0) (omega arith) (omega arith)), at_each l d (λ i j h k. f (suc i) (suc j) (omega arith) (omega arith)))

module _ (key : Kept → ℕ) where
  each_place : (x : Kept) (l : List Kept) → ((y : Kept) → Memᴰ y l → Clear x y) → Each l → Each (place_by key x l)
  unfolding place_by
  each_place x [] f E = (λ y m. elim m [ ], tt)
  each_place x (z ∷ l) f E = go (ltb (key z) (key x)) (each_place x l (λ y m. f y (Memᴰ.tail m)) E.1)
    where
      other : (y : Kept) → (y ≡ x) ⊎ Memᴰ y l → Clear z y
      other y (inl e) = rw e (turn x z (f z (Memᴰ.head refl)))
      other y (inr m) = E.0 y m

      go : (t : Bool) → Each (place_by key x l) → Each (elim t as (λ _. List Kept) [ true ↦ z ∷ place_by key x l | false ↦ x ∷ z ∷ l ])
      go true i = (λ y m. other y (of_place key x l y m), i)
      go false i = (f, E)

  place_each : (x : Kept) (l : List Kept) → Each (place_by key x l) → ((y : Kept) → Memᴰ y l → Clear x y) × Each l
  unfolding place_by
  place_each x [] E = (λ y m. elim m [ ], tt)
  place_each x (z ∷ l) E = go (ltb (key z) (key x)) (λ D. place_each x l D) E
    where
      go : (t : Bool) → (Each (place_by key x l) → ((y : Kept) → Memᴰ y l → Clear x y) × Each l) → Each (elim t as (λ _. List Kept) [ true ↦ z ∷ place_by key x l | false ↦ x ∷ z ∷ l ]) → ((y : Kept) → Memᴰ y (z ∷ l) → Clear x y) × Each (z ∷ l)
      go true i D = (first, (λ y m. D.0 y (in_place key x l y (inr m)), (i D.1).1))
        where
          first : (y : Kept) → Memᴰ y (z ∷ l) → Clear x y
          first y (Memᴰ.head q) = rw q (turn z x (D.0 x (in_place key x l x (inl refl))))
          first y (Memᴰ.tail q) = (i D.1).0 y q
      go false i D = D

  each_sort : (l : List Kept) → Each l → Each (sort_by key l)
  unfolding sort_by
  each_sort [] E = tt
  each_sort (x ∷ l) E = each_place x (sort_by key l) (λ y m. E.0 y (of_sort key l y m)) (each_sort l E.1)

  sort_each : (l : List Kept) → Each (sort_by key l) → Each l
  unfolding sort_by
  sort_each [] E = tt
  sort_each (x ∷ l) E = let w = place_each x (sort_by key l) E in (λ y m. w.0 y (in_sort key l y m), sort_each l w.1)

-- ---- the lists of overlaps

module _ (n : ℕ) (g : Graph) where
  busiest_inside : (k : ℕ) → busiest n g (suc k) < suc k
  unfolding busiest better
  busiest_inside zero = go (leb (degree n g 0) (degree n g 0))
    where
      go : (t : Bool) → (if t then 0 else 0) < 1
      go true = omega arith
      go false = omega arith
  busiest_inside (suc k) = go (leb (degree n g (busiest n g (suc k))) (degree n g (suc k))) (busiest_inside k)
    where
      go : (t : Bool) → busiest n g (suc k) < suc k → (if t then suc k else busiest n g (suc k)) < suc (suc k)
      go true h = omega arith
      go false h = omega arith

  busiest_most : (k i : ℕ) → i < k → degree n g i ≤ degree n g (busiest n g k)
  unfolding busiest better
  busiest_most zero i h = absurd (omega arith)
  busiest_most (suc k) i h = go (ℕ_discrete i k) (either (leb (degree n g (busiest n g k)) (degree n g k))) (λ l. busiest_most k i l)
    where
      go : Dec (i ≡ k) → (leb (degree n g (busiest n g k)) (degree n g k) ≡ true) ⊎ (leb (degree n g (busiest n g k)) (degree n g k) ≡ false) → (i < k → degree n g i ≤ degree n g (busiest n g k)) →
          degree n g i ≤ degree n g (if leb (degree n g (busiest n g k)) (degree n g k) then k else busiest n g k)
      go (yes q) (inl t) f = let z = ap (degree n g) q in rw t (omega arith)
      go (yes q) (inr t) f = let z = ap (degree n g) q in let l = leb-false (degree n g (busiest n g k)) (degree n g k) t in rw t (omega arith)
      go (no q) (inl t) f = let m = f (omega arith) in let l = leb-true (degree n g (busiest n g k)) (degree n g k) t in rw t (omega arith)
      go (no q) (inr t) f = let m = f (omega arith) in rw t m

  no_neighbour : (i : ℕ) → neighbours n g i ≡ [] → (j : ℕ) → j < n → g i j ≡ false
  unfolding neighbours
  no_neighbour i e j h = keep_empty (g i) (below n (λ j. j)) e j (in_below n (λ j. j) j h)

  neighbour_none : (i : ℕ) → ((j : ℕ) → j < n → g i j ≡ false) → neighbours n g i ≡ []
  unfolding neighbours
  neighbour_none i f = empty_keep (g i) (below n (λ j. j)) (λ j m. let w = of_below n (λ j. j) j m in let l = w.1 in let q = w.2 in f j (omega arith))

  no_degree : (i : ℕ) → degree n g i ≡ 0 → neighbours n g i ≡ []
  unfolding degree
  no_degree i e = go (neighbours n g i) e
    where
      go : (l : List ℕ) → length l ≡ 0 → l ≡ []
      go [] q = refl
      go (x ∷ l) q = absurd (omega arith)

  degree_none : (i : ℕ) → neighbours n g i ≡ [] → degree n g i ≡ 0
  unfolding degree
  degree_none i e = rw e refl

-- what is taken first
taken_none : (n : ℕ) (g : Graph) → ((i j : ℕ) → i < n → j < n → g i j ≡ false) → take_places n n g ≡ []
unfolding take_places
taken_none zero g f = refl
taken_none (suc m) g f = let e = neighbour_none (suc m) g (busiest (suc m) g (suc m)) (λ j h. f (busiest (suc m) g (suc m)) j (busiest_inside (suc m) g m) h) in rw (e, take_places) refl

none_taken : (n : ℕ) (g : Graph) → ((i : ℕ) → i < n → keep (λ (l : ℕ × List ℕ). eqb l.0 i) (take_places n n g) ≡ []) → (i j : ℕ) → i < n → j < n → g i j ≡ false
unfolding take_places
none_taken zero g f i j h k = absurd (omega arith)
none_taken (suc m) g f i j h k = no_neighbour (suc m) g i (no_degree (suc m) g i (let a = busiest_most (suc m) g (suc m) i h in let d = degree_none (suc m) g b (go (neighbours (suc m) g b) refl) in omega arith)) j k
  where
    b : ℕ
    b = busiest (suc m) g (suc m)

    go : (l : List ℕ) → neighbours (suc m) g b ≡ l → neighbours (suc m) g b ≡ []
    go [] q = q
    go (x ∷ l) q =
        let t : take_places (suc m) (suc m) g ≡ (b, x ∷ l) ∷ take_places m (suc m) (without b g) = rw (q, take_places) refl in
        let e = f b (busiest_inside (suc m) g m) in
        let k : Memᴰ (b, x ∷ l) (keep (λ (l : ℕ × List ℕ). eqb l.0 b) (take_places (suc m) (suc m) g)) = in_keep (λ (l : ℕ × List ℕ). eqb l.0 b) (take_places (suc m) (suc m) g) (b, x ∷ l) (rw t (Memᴰ.head refl)) (eq-eqb b b refl) in
        absurd (nothing e (b, x ∷ l) k)

-- ---- the report

module _ (h : Set) (rising : (k : Kept) → Memᴰ k h.kept → Rising 0 k.constraints) where
  abbrev ks : List Kept
  ks = h.kept

  abbrev s : List Kept
  s = by_place h.kept

  in_s : (k : Kept) → Memᴰ k h.kept → Memᴰ k (by_place h.kept)
  unfolding by_place
  in_s k m = in_sort (λ k. k.place) h.kept k m

  of_s : (k : Kept) → Memᴰ k (by_place h.kept) → Memᴰ k h.kept
  unfolding by_place
  of_s k m = of_sort (λ k. k.place) h.kept k m

  edge_both : (a b : Kept) → Memᴰ a h.kept → Memᴰ b h.kept → edge a b ≡ false → edge b a ≡ false
  unfolding edge
  edge_both a b m k e = is_false (edge b a) (λ t. let w = and_parts (eqb b.priority a.priority) (is_yes_told (may_overlap b a)) t in
      let p = eqb-true b.priority a.priority w.0 in
      let q = overlap_both a b (rising a m) (rising b k) in
      let y : is_yes_told (may_overlap a b) ≡ true = ap is_yes_told q ∙ w.1 in
      apart (both (eqb a.priority b.priority) (is_yes_told (may_overlap a b)) (eq-eqb a.priority b.priority (sym p)) y) e)
    where
      and_parts : (x y : Bool) → (x && y) ≡ true → (x ≡ true) × (y ≡ true)
      and_parts true y e = (refl, e)
      and_parts false y e = absurd (apart e refl)

      both : (x y : Bool) → x ≡ true → y ≡ true → (x && y) ≡ true
      both true y e f = f
      both false y e f = absurd (apart e refl)

  abbrev NoEdges : Type 0
  NoEdges = (i j : ℕ) → i < j → j < length h.kept → edge (rule h i) (rule h j) ≡ false

  abbrev NoMasks : Type 0
  NoMasks = (i j : ℕ) → i < length h.kept → j < length h.kept → masks (rule h i) (rule h j) ≡ false

  -- by numbers in the list, and by its elements
  clear_rules : NoEdges → Each h.kept
  unfolding rule
  clear_rules f = at_each h.kept no_rule (λ i j l k. (f i j l k, edge_both (get_or h.kept i no_rule) (get_or h.kept j no_rule) (get_in h.kept i no_rule (omega arith)) (get_in h.kept j no_rule k) (f i j l k)))

  rules_clear : Each h.kept → NoEdges
  unfolding rule
  rules_clear E i j l k = (each_at h.kept no_rule E i j l k).0

  linked_none : Each (by_place h.kept) → (i j : ℕ) → i < length (by_place h.kept) → j < length (by_place h.kept) → linked (by_place h.kept) i j ≡ false
  unfolding linked
  linked_none E i j a b = go (either (ltb i j)) (either (ltb j i))
    where
      go : (ltb i j ≡ true) ⊎ (ltb i j ≡ false) → (ltb j i ≡ true) ⊎ (ltb j i ≡ false) → (if ltb i j then edge (get_or s i no_rule) (get_or s j no_rule) else (if ltb j i then edge (get_or s j no_rule) (get_or s i no_rule) else false)) ≡ false
      go (inl t) u = rw t (each_at s no_rule E i j (ltb-true i j t) b).0
      go (inr t) (inl u) = rw (t, u) (each_at s no_rule E j i (ltb-true j i u) a).0
      go (inr t) (inr u) = rw (t, u) refl

  none_linked : ((i j : ℕ) → i < length (by_place h.kept) → j < length (by_place h.kept) → linked (by_place h.kept) i j ≡ false) → Each (by_place h.kept)
  unfolding linked
  none_linked f = at_each s no_rule (λ i j l k. let e = at i j l k in (e, edge_both (get_or s i no_rule) (get_or s j no_rule) (of_s (get_or s i no_rule) (get_in s i no_rule (omega arith))) (of_s (get_or s j no_rule) (get_in s j no_rule k)) e))
    where
      at : (i j : ℕ) → i < j → j < length s → edge (get_or s i no_rule) (get_or s j no_rule) ≡ false
      at i j l k = let t = lt-ltb i j l in let e = f i j (omega arith) k in rw t at e

  masked_none : (a : Kept) → ((b : Kept) → Memᴰ b h.kept → masks a b ≡ false) → masked_by h.kept a ≡ []
  unfolding masked_by
  masked_none a f = let e = empty_keep (masks a) h.kept f in rw e refl

  none_masked : (a : Kept) → masked_by h.kept a ≡ [] → (b : Kept) → Memᴰ b h.kept → masks a b ≡ false
  unfolding masked_by
  none_masked a e b m = keep_empty (masks a) h.kept (map_empty (λ (k : Kept). k.place) (keep (masks a) h.kept) e) b m

  no_list : (p : ℕ) (ms : List ℕ) → mask_lists p ms ≡ [] → ms ≡ []
  unfolding mask_lists
  no_list p [] e = refl
  no_list p (m ∷ ms) e = let z : ◌≡◌ {A = ℕ} 0 1 = cc in absurd (omega arith)

  list_none : (p : ℕ) → mask_lists p [] ≡ []
  unfolding mask_lists
  list_none p = refl

  masks_rules : NoMasks → (a b : Kept) → Memᴰ a h.kept → Memᴰ b h.kept → masks a b ≡ false
  unfolding rule
  masks_rules f a b m k = let x = index_of h.kept no_rule a m in let y = index_of h.kept no_rule b k in let p = x.2 in let q = y.2 in rw (p, q) (f x.0 y.0 x.1 y.1)

  rules_masks : ((a b : Kept) → Memᴰ a h.kept → Memᴰ b h.kept → masks a b ≡ false) → NoMasks
  rules_masks f i j a b = f (rule h i) (rule h j) (rule_in h i a) (rule_in h j b)

  abbrev line : ℕ → List Listed
  line i = overlap_lists (map (λ k. k.place) s) (take_places (length s) (length s) (linked s)) i ++ mask_lists (get_or (map (λ k. k.place) s) i 0) (masked_by h.kept (get_or s i no_rule))

  pub report_empty : NoEdges → NoMasks → report_of h.kept ≡ []
  unfolding report_of listed_from overlap_lists keep
  report_empty f k = empty_joined (length s) line (λ i a. let t = taken in let m = masked_none (get_or s i no_rule) (λ b q. masks_rules k (get_or s i no_rule) b (of_s (get_or s i no_rule) (get_in s i no_rule a)) q) in rw (t, m) (list_none (get_or (map (λ k. k.place) s) i 0)))
    where
      taken : take_places (length s) (length s) (linked s) ≡ []
      taken = taken_none (length s) (linked s) (linked_none (unfold by_place in (each_sort (λ k. k.place) h.kept (clear_rules f))))

  pub empty_report : report_of h.kept ≡ [] → NoEdges × NoMasks
  unfolding report_of listed_from overlap_lists
  empty_report e = (rules_clear (sort_each (λ k. k.place) h.kept (unfold by_place in (none_linked (none_taken (length s) (linked s) (λ i a. map_empty _ _ (append_empty _ _ (joined_empty (length s) line e i a)).0))))), rules_masks each_mask)
    where
      each_mask : (a b : Kept) → Memᴰ a h.kept → Memᴰ b h.kept → masks a b ≡ false
      each_mask a b m k =
          let w = index_of s no_rule a (in_s a m) in
          let q = w.2 in
          let l = (append_empty (overlap_lists (map (λ k. k.place) s) (take_places (length s) (length s) (linked s)) w.0) (mask_lists (get_or (map (λ k. k.place) s) w.0 0) (masked_by h.kept (get_or s w.0 no_rule))) (joined_empty (length s) line e w.0 w.1)).1 in
          rw q (none_masked (get_or s w.0 no_rule) (no_list (get_or (map (λ k. k.place) s) w.0 0) (masked_by h.kept (get_or s w.0 no_rule)) l) b k)

-- of a set, whatever its flags
pub report_none : (h : Set) → ((k : Kept) → Memᴰ k h.kept → Rising 0 k.constraints) → (report h ≡ []) ↔ (NoEdge h × NoMask h)
unfolding report report_for
report_none h r = go (is_multi h.flags) refl
  where
    go : (t : Bool) → is_multi h.flags ≡ t → (◌≡◌ {A = List Listed} (elim t as (λ _. List Listed) [ true ↦ [] | false ↦ report_of h.kept ]) []) ↔ (NoEdge h × NoMask h)
    go true e = (λ q. (λ m. absurd (apart e m), λ m. absurd (apart e m)), λ f. refl)
    go false e = (λ q. (λ m. (empty_report h r q).0, λ m. (empty_report h r q).1), λ f. report_empty h r (f.0 e) (f.1 e))

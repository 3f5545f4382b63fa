-- What stands in the report of a set: the proofs.
use Rattle.std.specs.Prelude.{◌≡◌, Bool, ◌&&◌, not, ◌⊎◌, leb}
use Rattle.std.proofs.Math.Path.{refl, sym}
use Rattle.std.proofs.Common.{ap, ◌∙◌, inl, inr, arith}
use Rattle.std.proofs.Math.Bool.{true, false}
use Rattle.std.proofs.Math.Option.{Option, none, some}
use mathlib.Core.List.Memᴰ
use mathlib.Core.List.{List, [], ◌∷◌, ◌++◌, map, Memᴰ}
use Prim.Native.Nat.{ℕ, zero, suc, ◌<◌}
use Rattle.std.proofs.Math.ListN.{length, get_or, get_or-map}
use Rattle.std.proofs.Math.Dec.{eqb, ltb}
use borrow.Author.Tests.{eqb-true, eq-eqb, leb-true, leb-false}
use Rattle.paper.specs.declared.Constraint.{Constraint}
use Rattle.paper.specs.declared.Overlap.{Overlap}
use Rattle.paper.specs.declared.Overlap.TheVariants.{No, Yes, Subset}
use Rattle.std.specs.Prelude.{if◌then◌else◌}
use Rattle.paper.specs.Words.{any, keep, below, flag, look, place_by, sort_by}
use Rattle.paper.proofs.Tables.{Rising, of_keep, in_keep, look_in, in_look}
use Rattle.paper.proofs.Closure.{of_below, in_below}
use Rattle.paper.proofs.Lists.{and_both}
use Rattle.paper.specs.Sites.{same_constraint}
use Rattle.paper.proofs.Laws.{same_constraint_true}
use Rattle.paper.specs.Loading.{Kept, Set, Constraints, Made}
use Rattle.paper.specs.Rules.{Listed, overlap, mask, Graph, other_there, differ, within, no_equals, compare_with, may_overlap, is_yes_told, edge, masks, linked, neighbours, busiest, without, take_places, overlap_lists, mask_lists, masked_by, listed_from, by_place, is_multi, report_of, report_for, report, no_rule}
use Rattle.term_table.proofs.Lists.{in_map}
use Rattle.report.proofs.ListLaws.{numbers}
use Rattle.report.proofs.TakeLaws.{Lists, places_stop, places_at, without_is}
use Rattle.report.proofs.OnceLaws.{busiest_less, edges_once}
use Rattle.report.proofs.NamedLaws.{linked_both}
use Rattle.report.specs.Named.{count, named_in, times}
use Rattle.meaning.specs.Checks.{of_joined, in_joined}
use Rattle.meaning.specs.Lists.{of_any, in_any}
use Rattle.meaning.specs.Items.{same_constraint_refl}
use Rattle.meaning.specs.Pairs.{made_stands}
use Rattle.meaning_shipped.specs.Words.{Overlaps, Pair}

-- ---- lists
pub map_from : {A B : Type 0} (f : A → B) (xs : List A) (y : B) → Memᴰ y (map f xs) → (x : A) × Memᴰ x xs × (y ≡ f x)
map_from {A = A} {B = B} f [] y x' = elim x' [ ]
map_from f (x ∷ xs) y (Memᴰ.head e) = (x, Memᴰ.head refl, e)
map_from f (x ∷ xs) y (Memᴰ.tail m) = let r = map_from f xs y m in (r.0, Memᴰ.tail r.1, r.2)

pub map_to : {A B : Type 0} (f : A → B) (xs : List A) (x : A) → Memᴰ x xs → Memᴰ (f x) (map f xs)
map_to f xs x m = in_map f x xs m

pub to_left : {A : Type 0} (xs ys : List A) (x : A) → Memᴰ x xs → Memᴰ x (xs ++ ys)
to_left xs ys x m = Memᴰ.append_left ys m

pub to_right : {A : Type 0} (xs ys : List A) (x : A) → Memᴰ x ys → Memᴰ x (xs ++ ys)
to_right xs ys x m = Memᴰ.append_right xs m

get_or_in : {A : Type 0} (xs : List A) (i : ℕ) (d : A) → i < length xs → Memᴰ (get_or xs i d) xs
get_or_in [] i d h = absurd (omega arith)
get_or_in (x ∷ xs) zero d h = Memᴰ.head refl
get_or_in (x ∷ xs) (suc i) d h = Memᴰ.tail (get_or_in xs i d (omega arith))

in_get_or : {A : Type 0} (xs : List A) (d x : A) → Memᴰ x xs → (i : ℕ) × (i < length xs) × (get_or xs i d ≡ x)
in_get_or {A = A} [] d x x3 = elim x3 [ ]
in_get_or (y ∷ xs) d x (Memᴰ.head e) = (0, omega arith, sym e)
in_get_or (y ∷ xs) d x (Memᴰ.tail m) = let r = in_get_or xs d x m in let l = r.1 in (suc r.0, omega arith, r.2)

-- ---- rules in the order of their places are the same rules
placed_from : {A : Type 0} (K : A → ℕ) (x : A) (ys : List A) (z : A) → Memᴰ z (place_by K x ys) → Memᴰ z (x ∷ ys)
unfolding place_by
placed_from K x [] z m = m
placed_from {A} K x (y ∷ ys) z m = go (ltb (K y) (K x)) (λ q. placed_from K x ys z q) m
  where
    swap : Memᴰ z (x ∷ ys) → Memᴰ z (x ∷ y ∷ ys)
    swap (Memᴰ.head e) = Memᴰ.head e
    swap (Memᴰ.tail q) = Memᴰ.tail (Memᴰ.tail q)

    go : (t : Bool) → (Memᴰ z (place_by K x ys) → Memᴰ z (x ∷ ys)) →
        Memᴰ z (elim t as (λ _. List A) [ true ↦ y ∷ place_by K x ys | false ↦ x ∷ y ∷ ys ]) → Memᴰ z (x ∷ y ∷ ys)
    go false f q = q
    go true f (Memᴰ.head e) = Memᴰ.tail (Memᴰ.head e)
    go true f (Memᴰ.tail q) = swap (f q)

placed_to : {A : Type 0} (K : A → ℕ) (x : A) (ys : List A) (z : A) → Memᴰ z (x ∷ ys) → Memᴰ z (place_by K x ys)
unfolding place_by
placed_to K x [] z m = m
placed_to {A} K x (y ∷ ys) z m = go (ltb (K y) (K x)) (λ q. placed_to K x ys z q) m
  where
    go : (t : Bool) → (Memᴰ z (x ∷ ys) → Memᴰ z (place_by K x ys)) → Memᴰ z (x ∷ y ∷ ys) →
        Memᴰ z (elim t as (λ _. List A) [ true ↦ y ∷ place_by K x ys | false ↦ x ∷ y ∷ ys ])
    go false f q = q
    go true f (Memᴰ.head e) = Memᴰ.tail (f (Memᴰ.head e))
    go true f (Memᴰ.tail (Memᴰ.head e)) = Memᴰ.head e
    go true f (Memᴰ.tail (Memᴰ.tail q)) = Memᴰ.tail (f (Memᴰ.tail q))

sort_from : {A : Type 0} (K : A → ℕ) (xs : List A) (z : A) → Memᴰ z (sort_by K xs) → Memᴰ z xs
unfolding sort_by
sort_from K [] z m = m
sort_from K (x ∷ xs) z m = go (placed_from K x (sort_by K xs) z m) (λ q. sort_from K xs z q)
  where
    go : Memᴰ z (x ∷ sort_by K xs) → (Memᴰ z (sort_by K xs) → Memᴰ z xs) → Memᴰ z (x ∷ xs)
    go (Memᴰ.head e) f = Memᴰ.head e
    go (Memᴰ.tail q) f = Memᴰ.tail (f q)

sort_to : {A : Type 0} (K : A → ℕ) (xs : List A) (z : A) → Memᴰ z xs → Memᴰ z (sort_by K xs)
unfolding sort_by
sort_to {A = A} K [] z x' = elim x' [ ]
sort_to K (x ∷ xs) z (Memᴰ.head e) = placed_to K x (sort_by K xs) z (Memᴰ.head e)
sort_to K (x ∷ xs) z (Memᴰ.tail m) = placed_to K x (sort_by K xs) z (Memᴰ.tail (sort_to K xs z m))

-- ---- the taken places
without_so : (b : ℕ) (g : Graph) (p q : ℕ) → without b g p q ≡ true → g p q ≡ true
without_so b g p q e = (and_both (not (eqb q b)) (g p q) (and_both (not (eqb p b)) (not (eqb q b) && g p q) (sym (without_is b g p q) ∙ e)).1).1

pub record Took (n : ℕ) (g : Graph) (l : ℕ × List ℕ) : Type 0 where
  pub inside : l.0 < n
  pub each : (j : ℕ) → Memᴰ j l.1 → (j < n) × (g l.0 j ≡ true)

taken_edges : (k n : ℕ) (g : Graph) (l : ℕ × List ℕ) → 0 < n → Memᴰ l (take_places k n g) → Took n g l
unfolding take_places
taken_edges zero n g l pos m = elim m [ ]
taken_edges (suc k) n g l pos m = go (neighbours n g (busiest n g n)) refl (λ q. taken_edges k n (without (busiest n g n) g) l pos q)
  where
    here : l ≡ (busiest n g n, keep (g (busiest n g n)) (numbers n)) → Took n g l
    here e = rw e (record {
      inside = busiest_less n g n n (omega arith) pos;
      each = λ j q. let w = of_keep (g (busiest n g n)) (numbers n) j q in let v = of_below n (λ i. i) j w.0 in let z = v.1 in let y = v.2 in
          (omega arith, w.1);
    })

    pick : (Lists₀ : List (ℕ × List ℕ)) → (Memᴰ l Lists₀ → Took n g l) → Memᴰ l ((busiest n g n, keep (g (busiest n g n)) (numbers n)) ∷ Lists₀) →
        Took n g l
    pick ls f (Memᴰ.head e) = here e
    pick ls f (Memᴰ.tail q) = f q

    wider : Took n (without (busiest n g n) g) l → Took n g l
    wider T = record { inside = T.inside; each = λ j q. let w = T.each j q in (w.0, without_so (busiest n g n) g l.0 j w.1) }

    go : (ns : List ℕ) → neighbours n g (busiest n g n) ≡ ns →
        (Memᴰ l (take_places k n (without (busiest n g n) g)) → Took n (without (busiest n g n) g) l) → Took n g l
    go [] e f = absurd (Memᴰ.not-nil (rw (places_stop k n g e) at m))
    go (x ∷ xs) e f = pick (take_places k n (without (busiest n g n) g)) (λ q. wider (f q)) (rw (places_at k n g (busiest n g n) x xs refl e) at m)

-- ---- what a list of a report is
-- an edge, in one order or the other
abbrev pub Edge : Kept → Kept → Type 0
Edge a b = (edge a b ≡ true) ⊎ (edge b a ≡ true)

linked_edge : (s : List Kept) (i j : ℕ) → linked s i j ≡ true → Edge (get_or s i no_rule) (get_or s j no_rule)
unfolding linked
linked_edge s i j e = go (ltb i j) (ltb j i) e
  where
    go : (a b : Bool) → (if a then edge (get_or s i no_rule) (get_or s j no_rule) else (if b then edge (get_or s j no_rule) (get_or s i no_rule) else false)) ≡ true →
        Edge (get_or s i no_rule) (get_or s j no_rule)
    go true b q = inl q
    go false true q = inr q
    go false false q = let z : ◌≡◌ {A = ℕ} 0 1 = cc in absurd (omega arith)

pub data Reported (ks : List Kept) : Listed → Type 0 where
  overlapping : (a : Kept) (ns : List ℕ) → Memᴰ a ks → ((q : ℕ) → Memᴰ q ns → (b : Kept) × Memᴰ b ks × (b.place ≡ q) × Edge a b) →
      Reported ks (overlap a.place ns)
  masking : (a : Kept) → Memᴰ a ks → Reported ks (mask a.place (masked_by ks a))

place_at : (s : List Kept) (i : ℕ) → get_or (map (λ (k : Kept). k.place) s) i 0 ≡ (get_or s i no_rule).place
place_at s i = get_or-map (λ (k : Kept). k.place) s i no_rule

module _ (s ks : List Kept) (same : (z : Kept) → Memᴰ z s → Memᴰ z ks) where
  abbrev taken : Lists
  taken = take_places (length s) (length s) (linked s)

  abbrev ps : List ℕ
  ps = map (λ (k : Kept). k.place) s

  overlap_so : (i : ℕ) (l : Listed) → i < length s → Memᴰ l (overlap_lists ps taken i) → Reported ks l
  unfolding overlap_lists
  overlap_so i l h m =
      let r = map_from (λ (l : ℕ × List ℕ). overlap (get_or ps l.0 0) (map (λ j. get_or ps j 0) l.1)) (keep (λ l. eqb l.0 i) taken) l m in
      let t = of_keep (λ (l : ℕ × List ℕ). eqb l.0 i) taken r.0 r.1 in
      let T = taken_edges (length s) (length s) (linked s) r.0 (omega arith) t.0 in
      let z = r.2 in
      rw (z, place_at s r.0.0) (overlapping (get_or s r.0.0 no_rule) (map (λ j. get_or ps j 0) r.0.1) (same _ (get_or_in s r.0.0 no_rule T.inside))
      (λ q j. let v = map_from (λ j. get_or ps j 0) r.0.1 q j in let w = T.each v.0 v.1 in
      (get_or s v.0 no_rule, same _ (get_or_in s v.0 no_rule w.0), sym (place_at s v.0) ∙ sym v.2, linked_edge s r.0.0 v.0 w.1)))

  mask_so : (i : ℕ) (l : Listed) → i < length s → Memᴰ l (mask_lists (get_or ps i 0) (masked_by ks (get_or s i no_rule))) → Reported ks l
  unfolding mask_lists
  mask_so i l h m = go (masked_by ks (get_or s i no_rule)) refl m
    where
      go : (ns : List ℕ) → masked_by ks (get_or s i no_rule) ≡ ns → Memᴰ l (mask_lists (get_or ps i 0) ns) → Reported ks l
      go [] e q = absurd (Memᴰ.not-nil q)
      go (x ∷ xs) e q = let z = Memᴰ.eq_of_singleton q in rw (z, ← e, place_at s i) (masking (get_or s i no_rule) (same _ (get_or_in s i no_rule h)))

  listed_so : (l : Listed) → Memᴰ l (listed_from s ks) → Reported ks l
  unfolding listed_from
  listed_so l m =
      let r = of_joined _ l m in
      let v = of_below (length s) (λ i. overlap_lists ps taken i ++ mask_lists (get_or ps i 0) (masked_by ks (get_or s i no_rule))) r.0 r.1 in
      let z = v.2 in
      go v.0 v.1 (Memᴰ.append_cases (overlap_lists ps taken v.0) (rw z at r.2))
    where
      go : (i : ℕ) → i < length s → Memᴰ l (overlap_lists ps taken i) ⊎ Memᴰ l (mask_lists (get_or ps i 0) (masked_by ks (get_or s i no_rule))) →
          Reported ks l
      go i h (inl q) = overlap_so i l h q
      go i h (inr q) = mask_so i l h q

-- every list of a set's report
pub reported : (g : Set) (l : Listed) → Memᴰ l (report g) → Reported g.kept l
unfolding report report_for report_of by_place
reported g l m = go (is_multi g.flags) m
  where
    go : (t : Bool) → Memᴰ l (elim t as (λ _. List Listed) [ true ↦ [] | false ↦ report_of g.kept ]) → Reported g.kept l
    go true q = absurd (Memᴰ.not-nil q)
    go false q = listed_so (by_place g.kept) g.kept (λ z w. sort_from (λ k. k.place) g.kept z w) l q

pub masked_so : (ks : List Kept) (a : Kept) (q : ℕ) → Memᴰ q (masked_by ks a) → (b : Kept) × Memᴰ b ks × (b.place ≡ q) × (masks a b ≡ true)
unfolding masked_by
masked_so ks a q m = let r = map_from (λ (b : Kept). b.place) (keep (masks a) ks) q m in let w = of_keep (masks a) ks r.0 r.1 in
    (r.0, w.0, sym r.2, w.1)

-- ---- No goes both ways, of kept rules of a made set
differ_back : (x y : Constraints) → Rising 0 x → differ x y ≡ true → differ y x ≡ true
unfolding differ
differ_back x y R e = let p = of_any (λ (p : ℕ × Constraint). other_there (look y p.0) p.1) x e in go p.0 p.1 (look y p.0.0) refl p.2
  where
    turned : (c d : Constraint) → not (same_constraint c d) ≡ true → not (same_constraint d c) ≡ true
    turned c d q = at (same_constraint d c) refl
      where
        at : (t : Bool) → same_constraint d c ≡ t → not t ≡ true
        at false w = refl
        at true w =
            let v = same_constraint_true d c w in
            let u : same_constraint c d ≡ true = rw v (same_constraint_refl c) in
            let y : not true ≡ true = rw u at q in
            let z : ◌≡◌ {A = ℕ} 0 1 = cc in
            absurd (omega arith)

    go : (p : ℕ × Constraint) → Memᴰ p x → (o : Option Constraint) → look y p.0 ≡ o → other_there o p.1 ≡ true →
        any (λ (q : ℕ × Constraint). other_there (look x q.0) q.1) y ≡ true
    go p m none w q = let z : ◌≡◌ {A = ℕ} 0 1 = cc in absurd (omega arith)
    go p m (some d) w q =
        let v = in_look 0 x p R m in
        let u : other_there (look x p.0) d ≡ true = rw v (turned p.1 d q) in
        in_any (λ (q : ℕ × Constraint). other_there (look x q.0) q.1) y (p.0, d) (look_in y p.0 d w) u

compare_differ : (a b : Kept) → compare_with a b ≡ No → differ a.constraints b.constraints ≡ true
unfolding compare_with
compare_differ a b e = go (differ a.constraints b.constraints)
    (no_equals a.equals && (no_equals b.equals && within a.constraints b.constraints)) e
  where
    go : (t u : Bool) → (if t then No else (if u then Subset else Yes)) ≡ No → t ≡ true
    go true u q = refl
    go false true q = let z : ◌≡◌ {A = ℕ} 0 1 = cc in absurd (omega arith)
    go false false q = let z : ◌≡◌ {A = ℕ} 0 1 = cc in absurd (omega arith)

differ_compare : (a b : Kept) → differ a.constraints b.constraints ≡ true → compare_with a b ≡ No
unfolding compare_with
differ_compare a b e = rw e

no_back : (a b : Kept) → Rising 0 a.constraints → Rising 0 b.constraints → may_overlap a b ≡ No → may_overlap b a ≡ No
unfolding may_overlap
no_back a b R Q e = last (leb (length b.constraints) (length a.constraints)) (first (leb (length a.constraints) (length b.constraints)) e)
  where
    first : (t : Bool) → (if t then compare_with a b else compare_with b a) ≡ No → (compare_with a b ≡ No) × (compare_with b a ≡ No)
    first true q = (q, differ_compare b a (differ_back a.constraints b.constraints R (compare_differ a b q)))
    first false q = (differ_compare a b (differ_back b.constraints a.constraints Q (compare_differ b a q)), q)

    last : (t : Bool) → (compare_with a b ≡ No) × (compare_with b a ≡ No) → (if t then compare_with b a else compare_with a b) ≡ No
    last true q = q.1
    last false q = q.0

edge_parts : (a b : Kept) → edge a b ≡ true → (a.priority ≡ b.priority) × (may_overlap a b ≡ No → ⊥)
unfolding edge
edge_parts a b e = let x = and_both (eqb a.priority b.priority) (is_yes_told (may_overlap a b)) e in
    (eqb-true a.priority b.priority x.0, λ q. let y : false ≡ true = rw q at x.1 in let z : ◌≡◌ {A = ℕ} 0 1 = cc in omega arith)

edge_from : (a b : Kept) → a.priority ≡ b.priority → (may_overlap a b ≡ No → ⊥) → edge a b ≡ true
unfolding edge
edge_from a b p d = let q = eq-eqb a.priority b.priority p in rw q (go (may_overlap a b) d)
  where
    go : (o : Overlap) → (o ≡ No → ⊥) → is_yes_told o ≡ true
    go No f = absurd (f refl)
    go Yes f = refl
    go Subset f = refl

module _ (g : Set) (M : Made g) (a b : Kept) (in-a : Memᴰ a g.kept) (in_b : Memᴰ b g.kept) where
  rising_a : Rising 0 a.constraints
  rising_a = (made_stands M a in-a).rising

  rising_b : Rising 0 b.constraints
  rising_b = (made_stands M b in_b).rising

  pub edge_so : Edge a b → Overlaps a b
  edge_so (inl e) = edge_parts a b e
  edge_so (inr e) = let x = edge_parts b a e in (sym x.0, λ q. x.1 (no_back a b rising_a rising_b q))

  so_edge : Overlaps a b → (edge a b ≡ true) × (edge b a ≡ true)
  so_edge x = (edge_from a b x.0 x.1, edge_from b a (sym x.0) (λ q. x.1 (no_back b a rising_b rising_a q)))

-- ---- nothing is left out
named_some : (i j : ℕ) (ls : Lists) → 0 < times i j ls → (l : ℕ × List ℕ) × Memᴰ l ls × (0 < named_in i j l)
unfolding times
named_some i j [] h = absurd (omega arith)
named_some i j (l ∷ ls) h = go (ltb 0 (named_in i j l)) refl (λ q. named_some i j ls q)
  where
    go : (t : Bool) → ltb 0 (named_in i j l) ≡ t → (0 < times i j ls → (k : ℕ × List ℕ) × Memᴰ k ls × (0 < named_in i j k)) → (k : ℕ × List ℕ) ×
        Memᴰ k (l ∷ ls) × (0 < named_in i j k)
    go true e f = (l, Memᴰ.head refl, leb-true 1 (named_in i j l) e)
    go false e f = let z = leb-false 1 (named_in i j l) e in let r = f (omega arith) in (r.0, Memᴰ.tail r.1, r.2)

counted : (j : ℕ) (xs : List ℕ) → 0 < count j xs → Memᴰ j xs
unfolding count
counted j xs h = go (keep (eqb j) xs) refl h
  where
    go : (l : List ℕ) → keep (eqb j) xs ≡ l → 0 < length l → Memᴰ j xs
    go [] e q = absurd (omega arith)
    go (x ∷ l) e q = let w = of_keep (eqb j) xs x (rw e (Memᴰ.head refl)) in let z = eqb-true j x w.1 in rw z w.0

named_pair : (i j : ℕ) (l : ℕ × List ℕ) → 0 < named_in i j l → Pair i j l.0 l.1
unfolding named_in
named_pair i j l h = go (eqb l.0 i) refl (eqb l.0 j) refl h
  where
    go : (t : Bool) → eqb l.0 i ≡ t → (u : Bool) → eqb l.0 j ≡ u → 0 < (if t then count j l.1 else (if u then count i l.1 else 0)) →
        Pair i j l.0 l.1
    go true e u f q = inl (eqb-true l.0 i e, counted j l.1 q)
    go false e true f q = inr (eqb-true l.0 j f, counted i l.1 q)
    go false e false f q = absurd (omega arith)

module _ (s ks : List Kept) where
  abbrev places : List ℕ
  places = map (λ (k : Kept). k.place) s

  abbrev took : Lists
  took = take_places (length s) (length s) (linked s)

  abbrev Row : ℕ → List Listed
  Row i = overlap_lists places took i ++ mask_lists (get_or places i 0) (masked_by ks (get_or s i no_rule))

  in_listed : (i : ℕ) (l : Listed) → i < length s → Memᴰ l (Row i) → Memᴰ l (listed_from s ks)
  unfolding listed_from
  in_listed i l h m = in_joined (below (length s) Row) (Row i) l (in_below (length s) Row i h) m

  list_there : (l : ℕ × List ℕ) → Memᴰ l took → l.0 < length s →
      Memᴰ (overlap (get_or places l.0 0) (map (λ j. get_or places j 0) l.1)) (listed_from s ks)
  unfolding overlap_lists
  list_there l m h =
      in_listed l.0 _ h (to_left (overlap_lists places took l.0) _ _
      (map_to (λ (l : ℕ × List ℕ). overlap (get_or places l.0 0) (map (λ j. get_or places j 0) l.1)) (keep (λ k. eqb k.0 l.0) took) l
      (in_keep (λ (k : ℕ × List ℕ). eqb k.0 l.0) took l m (eq-eqb l.0 l.0 refl))))

  edge_there : (i j : ℕ) → i < length s → j < length s → (i ≡ j → ⊥) → linked s i j ≡ true → (p : ℕ) × (ns : List ℕ) ×
      Memᴰ (overlap p ns) (listed_from s ks) × Pair (get_or places i 0) (get_or places j 0) p ns
  edge_there i j hi hj d e =
      let o = edges_once (length s) (linked s) i j (linked_both s) hi hj d in
      let c : times i j took ≡ 1 = o ∙ ap flag e in
      let r = named_some i j took (omega arith) in
      let T = taken_edges (length s) (length s) (linked s) r.0 (omega arith) r.1 in
      (get_or places r.0.0 0, map (λ j. get_or places j 0) r.0.1, list_there r.0 r.1 T.inside, move r.0 (named_pair i j r.0 r.2))
    where
      move : (l : ℕ × List ℕ) → Pair i j l.0 l.1 → Pair (get_or places i 0) (get_or places j 0) (get_or places l.0 0) (map (λ j. get_or places j 0) l.1)
      move l (inl q) = inl (ap (λ i. get_or places i 0) q.0, map_to (λ j. get_or places j 0) l.1 j q.1)
      move l (inr q) = inr (ap (λ i. get_or places i 0) q.0, map_to (λ j. get_or places j 0) l.1 i q.1)

  linked_there : (i j : ℕ) → (i ≡ j → ⊥) → edge (get_or s i no_rule) (get_or s j no_rule) ≡ true → edge (get_or s j no_rule) (get_or s i no_rule) ≡ true →
      linked s i j ≡ true
  unfolding linked
  linked_there i j d e f = go (ltb i j) refl (ltb j i) refl
    where
      go : (t : Bool) → ltb i j ≡ t → (u : Bool) → ltb j i ≡ u →
          (if t then edge (get_or s i no_rule) (get_or s j no_rule) else (if u then edge (get_or s j no_rule) (get_or s i no_rule) else false)) ≡ true
      go true p u q = e
      go false p true q = f
      go false p false q = let x = leb-false (suc i) j p in let y = leb-false (suc j) i q in absurd (d (omega arith))

-- the report of a set whose term is not multi
once_report : (g : Set) → is_multi g.flags ≡ false → report g ≡ listed_from (by_place g.kept) g.kept
unfolding report report_for report_of
once_report g e = rw (e, report_for)

module _ (g : Set) (M : Made g) (single : is_multi g.flags ≡ false) (a b : Kept) (in-a : Memᴰ a g.kept) (in_b : Memᴰ b g.kept) where
  abbrev row : List Kept
  row = by_place g.kept

  seat : (k : Kept) → Memᴰ k g.kept → (i : ℕ) × (i < length row) × (get_or row i no_rule ≡ k)
  unfolding by_place
  seat k m = in_get_or (by_place g.kept) no_rule k (sort_to (λ k. k.place) g.kept k m)

  pub overlap_there : (a.place ≡ b.place → ⊥) → Overlaps a b → (p : ℕ) × (ns : List ℕ) × Memᴰ (overlap p ns) (report g) × Pair a.place b.place p ns
  overlap_there d x =
      let i = seat a in-a in
      let j = seat b in_b in
      let ei = i.2 in
      let ej = j.2 in
      let E = so_edge g M a b in-a in_b x in
      let n : i.0 ≡ j.0 → ⊥ = λ q. d (ap (λ (k : Kept). k.place) (sym ei ∙ (ap (λ z. get_or row z no_rule) q ∙ ej))) in
      let l = linked_there row g.kept i.0 j.0 n (rw (ei, ej) E.0) (rw (ei, ej) E.1) in
      let r = edge_there row g.kept i.0 j.0 i.1 j.1 n l in
      let pa : get_or (map (λ (k : Kept). k.place) row) i.0 0 ≡ a.place = place_at row i.0 ∙ ap (λ (k : Kept). k.place) ei in
      let pb : get_or (map (λ (k : Kept). k.place) row) j.0 0 ≡ b.place = place_at row j.0 ∙ ap (λ (k : Kept). k.place) ej in
      (r.0, r.1, rw (once_report g single) r.2, rw (pa, pb) at r.3)

  pub mask_there : masks a b ≡ true → Memᴰ (mask a.place (masked_by g.kept a)) (report g) × Memᴰ b.place (masked_by g.kept a)
  unfolding masked_by
  mask_there e = (rw (once_report g single) (in_listed row g.kept i.0 _ i.1 (to_right (overlap_lists _ _ i.0) _ _ there)), named)
    where
      named : Memᴰ b.place (map (λ (b : Kept). b.place) (keep (masks a) g.kept))
      named = map_to (λ (b : Kept). b.place) (keep (masks a) g.kept) b (in_keep (masks a) g.kept b in_b e)

      i : (i : ℕ) × (i < length row) × (get_or row i no_rule ≡ a)
      i = seat a in-a

      has : (p : ℕ) (ns : List ℕ) → Memᴰ b.place ns → Memᴰ (mask p ns) (mask_lists p ns)
      has p [] m = absurd (Memᴰ.not-nil m)
      has p (x ∷ xs) m = unfold mask_lists in Memᴰ.head refl

      pa : get_or (map (λ (k : Kept). k.place) row) i.0 0 ≡ a.place
      pa = place_at row i.0 ∙ ap (λ (k : Kept). k.place) i.2

      there : Memᴰ (mask a.place (masked_by g.kept a))
          (mask_lists (get_or (map (λ (k : Kept). k.place) row) i.0 0) (masked_by g.kept (get_or row i.0 no_rule)))
      there = let z = i.2 in rw (pa, z) (has a.place (masked_by g.kept a) named)

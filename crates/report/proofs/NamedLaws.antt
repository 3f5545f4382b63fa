-- The report names every edge exactly once, and no pair that is no edge.
use mathlib.Core.Path.{◌≡◌, refl, sym, ap, ◌∙◌}
use mathlib.Core.Bool.{Bool, true, false}
use mathlib.Core.List.{List, [], ◌∷◌, ◌++◌, map}
use Prim.Native.Nat.{ℕ, zero, suc, ◌+◌, ◌≤◌, ◌<◌}
use native.Mathlib.Omega.{arith}
use native.Mathlib.Decide.{ℕ_discrete, dec_lt}
use lib.ListN.{length, get_or}
use lib.Dec.{eqb, ltb}
use borrow.Author.Tests.{eq-eqb, ne_eqb, lt-ltb, le-ltb}
use Rattle.std.specs.Prelude.{if◌then◌else◌}
use Rattle.paper.specs.Words.{keep, below, joined, flag}
use Rattle.paper.specs.Loading.{Kept}
use Rattle.paper.specs.Rules.{Listed, overlap, mask, Graph, edge, linked, neighbours, busiest, without, take_places, overlap_lists, mask_lists, masked_by, listed_from, by_place, report_of, no_rule}
use Rattle.paper.proofs.Lists.{map_append}
use Rattle.report.specs.Named.{count, named_in, times, named_by, times_in}
use Rattle.report.proofs.ListLaws.{numbers, keep_yes, keep_no, kept_next, joined_append, joined_one, joined_none, below_next, below_none}
use Rattle.report.proofs.TakeLaws.{Lists, firsts, places_at, places_stop, places_none}
use Rattle.report.proofs.OnceLaws.{edges_once, busiest_less, keep_none, count_append, count_single, count_none}

-- ---- an edge goes both ways
pub linked_both : (ks : List Kept) (i j : ℕ) → linked ks i j ≡ linked ks j i
unfolding linked
linked_both ks i j = go (dec_lt i j) (dec_lt j i)
  where
    go : Dec (i < j) → Dec (j < i) → (if ltb i j then edge (get_or ks i no_rule) (get_or ks j no_rule) else (if ltb j i then edge (get_or ks j no_rule) (get_or ks i no_rule) else false)) ≡ (if ltb j i then edge (get_or ks j no_rule) (get_or ks i no_rule) else (if ltb i j then edge (get_or ks i no_rule) (get_or ks j no_rule) else false))
    go (yes a) b = let c : i ≤ j = omega arith in rw (lt-ltb i j a, le-ltb j i c)
    go (no a) (yes b) = let c : j ≤ i = omega arith in rw (le-ltb i j c, lt-ltb j i b)
    go (no a) (no b) = let c : j ≤ i = omega arith in let d : i ≤ j = omega arith in rw (le-ltb i j c, le-ltb j i d)

-- ---- sums over lists
in_none : (x y : ℕ) → times_in x y [] ≡ 0
unfolding times_in
in_none x y = refl

in_more : (x y : ℕ) (l : Listed) (ls : List Listed) → times_in x y (l ∷ ls) ≡ named_by x y l + times_in x y ls
unfolding times_in
in_more x y l ls = refl

in_append : (x y : ℕ) (xs ys : List Listed) → times_in x y (xs ++ ys) ≡ times_in x y xs + times_in x y ys
in_append x y [] ys = omega (arith, in_none x y)
in_append x y (l ∷ xs) ys = omega (arith, in_more x y l (xs ++ ys), in_more x y l xs, in_append x y xs ys)

in_masks : (x y p : ℕ) (ms : List ℕ) → times_in x y (mask_lists p ms) ≡ 0
unfolding mask_lists
in_masks x y p [] = in_none x y
in_masks x y p (m ∷ ms) = omega (arith, in_more x y (mask p (m ∷ ms)) [], in_none x y)

times_none : (i j : ℕ) → times i j [] ≡ 0
unfolding times
times_none i j = refl

times_more : (i j : ℕ) (l : ℕ × List ℕ) (ls : Lists) → times i j (l ∷ ls) ≡ named_in i j l + times i j ls
unfolding times
times_more i j l ls = refl

-- ---- the lists of taken places: first places and neighbours are numbers of rules
data Shaped (n : ℕ) : Lists → Type 0 where
  nothing : Shaped n []
  more : (b : ℕ) (f : ℕ → Bool) (ls : Lists) → b < n → Shaped n ls → Shaped n ((b, keep f (numbers n)) ∷ ls)

shaped_as : {n : ℕ} {xs ys : Lists} → xs ≡ ys → Shaped n ys → Shaped n xs
shaped_as e s = rw e s

shaped_turn : (k n : ℕ) (g : Graph) → 0 < n → (ns : List ℕ) → neighbours n g (busiest n g n) ≡ ns → Shaped n (take_places k n (without (busiest n g n) g)) → Shaped n (take_places (suc k) n g)
shaped_turn k n g pos [] e r = shaped_as (places_stop k n g e) nothing
shaped_turn k n g pos (m ∷ ms) e r = shaped_as (places_at k n g (busiest n g n) m ms refl e) (more (busiest n g n) (g (busiest n g n)) (take_places k n (without (busiest n g n) g)) (busiest_less n g n n (omega arith) pos) r)

shaped : (k n : ℕ) (g : Graph) → 0 < n → Shaped n (take_places k n g)
shaped zero n g pos = shaped_as (places_none n g) nothing
shaped (suc k) n g pos = shaped_turn k n g pos (neighbours n g (busiest n g n)) refl (shaped k n (without (busiest n g n) g) pos)

zero_numbers : (P : ℕ → ℕ) (q : ℕ) (f : ℕ → Bool) → count (P q) (map P (keep f (numbers 0))) ≡ count q (keep f (numbers 0))
unfolding count keep below
zero_numbers P q f = refl

-- ---- names for numbers, no two alike
module _ (n : ℕ) (P : ℕ → ℕ) (apart : (i j : ℕ) → i < n → j < n → P i ≡ P j → i ≡ j) where
  eqb_named : (i j : ℕ) → i < n → j < n → eqb (P i) (P j) ≡ eqb i j
  eqb_named i j h k = go (ℕ_discrete i j)
    where
      go : Dec (i ≡ j) → eqb (P i) (P j) ≡ eqb i j
      go (yes e) = eq-eqb (P i) (P j) (ap P e) ∙ sym (eq-eqb i j e)
      go (no e) = ne_eqb (P i) (P j) (λ q. e (apart i j h k q)) ∙ sym (ne_eqb i j e)

  count_named : (q : ℕ) (f : ℕ → Bool) (k : ℕ) → q < n → k ≤ n → count (P q) (map P (keep f (numbers k))) ≡ count q (keep f (numbers k))
  count_named q f zero h l = zero_numbers P q f
  count_named q f (suc k) h l =
      ap (λ z. count (P q) (map P z)) (kept_next f k)
      ∙ (ap (count (P q)) (map_append P (keep f (numbers k)) (keep f (k ∷ [])))
      ∙ (count_append (P q) (map P (keep f (numbers k))) (map P (keep f (k ∷ [])))
      ∙ (rw (count_named q f k h (omega arith), one (f k) refl) (sym (ap (count q) (kept_next f k) ∙ count_append q (keep f (numbers k)) (keep f (k ∷ [])))))))
    where
      one : (t : Bool) → f k ≡ t → count (P q) (map P (keep f (k ∷ []))) ≡ count q (keep f (k ∷ []))
      one true e =
          let z : keep f (k ∷ []) ≡ k ∷ [] = keep_yes f k [] e ∙ ap (λ y. k ∷ y) (keep_none f) in
          rw z (count_single (P q) (P k) ∙ (ap flag (eqb_named q k h (omega arith)) ∙ sym (count_single q k)))
      one false e =
          let z : keep f (k ∷ []) ≡ [] = keep_no f k [] e ∙ keep_none f in
          rw z (count_none (P q) ∙ sym (count_none q))

  named_named : (p q b : ℕ) (f : ℕ → Bool) → p < n → q < n → b < n → named_in (P p) (P q) (P b, map P (keep f (numbers n))) ≡ named_in p q (b, keep f (numbers n))
  unfolding named_in
  named_named p q b f hp hq hb = rw (eqb_named b p hb hp, eqb_named b q hb hq, count_named q f n hq (omega arith), count_named p f n hp (omega arith))

-- ---- the lists put in the order of their first places count as before
unfoldable total : (ℕ × List ℕ → ℕ) → Lists → ℕ
total w [] = 0
total w (l ∷ ls) = w l + total w ls

unfoldable buckets : (ℕ × List ℕ → ℕ) → ℕ → Lists → ℕ
buckets w zero ls = 0
buckets w (suc k) ls = buckets w k ls + total w (firsts k ls)

firsts_none : (k : ℕ) → firsts k [] ≡ []
unfolding keep
firsts_none k = refl

buckets_none : (w : ℕ × List ℕ → ℕ) (k : ℕ) → buckets w k [] ≡ 0
unfolding buckets total
buckets_none w zero = refl
buckets_none w (suc k) = omega (arith, buckets_none w k, ap (total w) (firsts_none k))

unfoldable past : ℕ → ℕ → ℕ → ℕ
past b k x = if ltb b k then x else 0

past_here : (b k x : ℕ) → b < k → past b k x ≡ x
unfolding past
past_here b k x h = rw (lt-ltb b k h)

past_not : (b k x : ℕ) → k ≤ b → past b k x ≡ 0
unfolding past
past_not b k x h = rw (le-ltb b k h)

total_more : (w : ℕ × List ℕ → ℕ) (l : ℕ × List ℕ) (ls : Lists) → total w (l ∷ ls) ≡ w l + total w ls
unfolding total
total_more w l ls = refl

total_none : (w : ℕ × List ℕ → ℕ) → total w [] ≡ 0
unfolding total
total_none w = refl

buckets_more : (w : ℕ × List ℕ → ℕ) (b : ℕ) (ms : List ℕ) (ls : Lists) (k : ℕ) → buckets w k ((b, ms) ∷ ls) ≡ buckets w k ls + past b k (w (b, ms))
unfolding buckets
buckets_more w b ms ls zero = omega (arith, past_not b 0 (w (b, ms)) (omega arith))
buckets_more w b ms ls (suc k) = go (ℕ_discrete b k) (buckets_more w b ms ls k)
  where
    cons_total : total w ((b, ms) ∷ firsts k ls) ≡ w (b, ms) + total w (firsts k ls)
    cons_total = total_more w (b, ms) (firsts k ls)

    go : Dec (b ≡ k) → buckets w k ((b, ms) ∷ ls) ≡ buckets w k ls + past b k (w (b, ms)) → buckets w k ((b, ms) ∷ ls) + total w (firsts k ((b, ms) ∷ ls)) ≡ (buckets w k ls + total w (firsts k ls)) + past b (suc k) (w (b, ms))
    go (yes e) i =
        omega (arith, ap (total w) (keep_yes (λ (l : ℕ × List ℕ). eqb l.0 k) (b, ms) ls (eq-eqb b k e)) ∙ cons_total, past_not b k (w (b, ms)) (omega arith), past_here b (suc k) (w (b, ms)) (omega arith))
    go (no e) i = split (dec_lt b k)
      where
        split : Dec (b < k) → buckets w k ((b, ms) ∷ ls) + total w (firsts k ((b, ms) ∷ ls)) ≡ (buckets w k ls + total w (firsts k ls)) + past b (suc k) (w (b, ms))
        split (yes l) = omega (arith, ap (total w) (keep_no (λ (l : ℕ × List ℕ). eqb l.0 k) (b, ms) ls (ne_eqb b k e)), past_here b k (w (b, ms)) l, past_here b (suc k) (w (b, ms)) (omega arith))
        split (no l) = omega (arith, ap (total w) (keep_no (λ (l : ℕ × List ℕ). eqb l.0 k) (b, ms) ls (ne_eqb b k e)), past_not b k (w (b, ms)) (omega arith), past_not b (suc k) (w (b, ms)) (omega arith))

buckets_all : (n : ℕ) (w v : ℕ × List ℕ → ℕ) (ls : Lists) → Shaped n ls → ((b : ℕ) (f : ℕ → Bool) → b < n → w (b, keep f (numbers n)) ≡ v (b, keep f (numbers n))) → buckets w n ls ≡ total v ls
buckets_all n w v _ nothing h = buckets_none w n ∙ sym (total_none v)
buckets_all n w v _ (more b f ls l s) h =
    omega (arith, buckets_more w b (keep f (numbers n)) ls n, past_here b n (w (b, keep f (numbers n))) l, h b f l, buckets_all n w v ls s h, total_more v (b, keep f (numbers n)) ls)

times_total : (i j : ℕ) (ls : Lists) → times i j ls ≡ total (named_in i j) ls
unfolding total
times_total i j [] = times_none i j
times_total i j (l ∷ ls) = omega (arith, times_more i j l ls, times_total i j ls)

in_total : (x y : ℕ) (N : ℕ × List ℕ → Listed) (ls : Lists) → times_in x y (map N ls) ≡ total (λ l. named_by x y (N l)) ls
unfolding total
in_total x y N [] = in_none x y
in_total x y N (l ∷ ls) = omega (arith, in_more x y (N l) (map N ls), in_total x y N ls)

-- ---- the report
lists_are : (ps : List ℕ) (taken : Lists) (i : ℕ) → overlap_lists ps taken i ≡ map (λ l. overlap (get_or ps l.0 0) (map (λ j. get_or ps j 0) l.1)) (firsts i taken)
unfolding overlap_lists
lists_are ps taken i = refl

module _ (s ks : List Kept) (x y : ℕ) where
  abbrev Ps : List ℕ
  Ps = map (λ k. k.place) s

  abbrev Names : ℕ × List ℕ → Listed
  Names l = overlap (get_or (map (λ k. k.place) s) l.0 0) (map (λ j. get_or (map (λ k. k.place) s) j 0) l.1)

  abbrev At : Lists → ℕ → List Listed
  At taken i = overlap_lists (map (λ k. k.place) s) taken i ++ mask_lists (get_or (map (λ k. k.place) s) i 0) (masked_by ks (get_or s i no_rule))

  at_counts : (taken : Lists) (i : ℕ) → times_in x y (At taken i) ≡ total (λ l. named_by x y (Names l)) (firsts i taken)
  at_counts taken i =
      in_append x y (overlap_lists Ps taken i) (mask_lists (get_or Ps i 0) (masked_by ks (get_or s i no_rule)))
      ∙ (rw (in_masks x y (get_or Ps i 0) (masked_by ks (get_or s i no_rule)), lists_are Ps taken i, in_total x y Names (firsts i taken)) (omega arith))

  below_counts : (taken : Lists) (k : ℕ) → times_in x y (joined (below k (At taken))) ≡ buckets (λ l. named_by x y (Names l)) k taken
  unfolding buckets
  below_counts taken zero = ap (times_in x y) (ap joined (below_none (At taken)) ∙ joined_none) ∙ in_none x y
  below_counts taken (suc k) =
      ap (λ z. times_in x y (joined z)) (below_next k (At taken))
      ∙ (ap (times_in x y) (joined_append (below k (At taken)) (At taken k ∷ []) ∙ ap (λ z. joined (below k (At taken)) ++ z) (joined_one (At taken k)))
      ∙ (in_append x y (joined (below k (At taken))) (At taken k) ∙ (rw (below_counts taken k, at_counts taken k))))

listed_as : (s ks : List Kept) → listed_from s ks ≡ joined (below (length s) (At s ks 0 0 (take_places (length s) (length s) (linked s))))
unfolding listed_from
listed_as s ks = refl

-- Of rules whose places differ, standing in the order of their places: the report names two of them as often as they have an edge, once or never.
pub names_once : (s ks : List Kept) (p q : ℕ)
    → ((i j : ℕ) → i < length s → j < length s → get_or (map (λ k. k.place) s) i 0 ≡ get_or (map (λ k. k.place) s) j 0 → i ≡ j)
    → p < length s → q < length s → (p ≡ q → ⊥)
    → times_in (get_or (map (λ k. k.place) s) p 0) (get_or (map (λ k. k.place) s) q 0) (listed_from s ks) ≡ flag (linked s p q)
names_once s ks p q apart hp hq ne =
    let taken : Lists = take_places (length s) (length s) (linked s) in
    let pos : 0 < length s = omega arith in
    ap (times_in (get_or (map (λ (k : Kept). k.place) s) p 0) (get_or (map (λ (k : Kept). k.place) s) q 0)) (listed_as s ks)
    ∙ (below_counts s ks (get_or (map (λ k. k.place) s) p 0) (get_or (map (λ k. k.place) s) q 0) (take_places (length s) (length s) (linked s)) (length s)
    ∙ (buckets_all (length s) _ (named_in p q) (take_places (length s) (length s) (linked s)) (shaped (length s) (length s) (linked s) pos)
    (λ b f l. named_named (length s) (λ j. get_or (map (λ (k : Kept). k.place) s) j 0) apart p q b f hp hq l)
    ∙ (sym (times_total p q (take_places (length s) (length s) (linked s))) ∙ edges_once (length s) (linked s) p q (linked_both s) hp hq ne)))

-- So it is of the report of a set: `by_place ks` are its rules in the order of their places.
pub report_once : (ks : List Kept) (p q : ℕ)
    → ((i j : ℕ) → i < length (by_place ks) → j < length (by_place ks) → get_or (map (λ k. k.place) (by_place ks)) i 0 ≡ get_or (map (λ k. k.place) (by_place ks)) j 0 → i ≡ j)
    → p < length (by_place ks) → q < length (by_place ks) → (p ≡ q → ⊥)
    → times_in (get_or (map (λ k. k.place) (by_place ks)) p 0) (get_or (map (λ k. k.place) (by_place ks)) q 0) (report_of ks) ≡ flag (linked (by_place ks) p q)
unfolding report_of
report_once ks p q = names_once (by_place ks) ks p q

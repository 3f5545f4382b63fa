-- The code's tests are those of the definitions, over the rules that the words hold.
use mathlib.Core.Path.{◌≡◌, refl, sym, ap, ◌∙◌}
use mathlib.Core.Bool.{Bool, true, false, ◌&&◌, ◌||◌, not}
use mathlib.Core.Option.{Option, none, some}
use mathlib.Core.List.{List}
use Prim.Native.Nat.{ℕ, zero, suc, ◌+◌, ◌%◌, ◌≤◌, ◌<◌}
use native.Mathlib.Omega.{arith}
use native.Mathlib.Numerals.{add-one}
use native.Mathlib.Decide.{ℕ_discrete}
use lib.ListN.{length, get_or}
use lib.Dec.{eqb, ltb, leb}
use borrow.Author.Tests.{eq-eqb, ne_eqb, lt-ltb, le-ltb}
use Rattle.std.specs.declared.result.Result.TheVariants.{Err, Ok}
use Rattle.paper.specs.declared.Overlap.{Overlap}
use Rattle.std.specs.Prelude.{if◌then◌else◌}
use Rattle.paper.specs.Words.{or_else}
use Rattle.paper.specs.Loading.{Kept, Set}
use Rattle.paper.specs.Rules.{may_overlap, total, rank, is_yes_told, is_subset_told, edge, masks, is_multi, no_rule}
use Rattle.rule_words.specs.Stored.{run, base, kept_at, kept_in, kept_first}
use Rattle.paper.specs.declared.Break.TheVariants.{Edge, Mask, Order}
use Rattle.plan.specs.Answered.{Judged}
use Rattle.plan.specs.declared.Fault.{Fault}
use Rattle.plan.specs.declared.Fault.TheVariants.{Bad, WrongLength}
use Rattle.paper.specs.Priorities.{proposed, rule, level}
use Rattle.plan.specs.Plans.{has_edge, has_mask, loses_order, broken, told, first_of, bad_pair, first_bad, check}
use Rattle.plan.specs.Lent.{set_in, under}
use Rattle.plan.proofs.Tools.{of_none, of_some, none_of, some_of}
use Rattle.plan.proofs.Checked.{pair_some}
use Rattle.plan.proofs.Mended.{rank_back, priority_is, level_is, answer_is, total_is}

-- ---- the rules in the words

run_length : {A : Type 0} (f : ℕ → A) (s n : ℕ) → length (run f s n) ≡ n
unfolding run
run_length f s zero = refl
run_length f s (suc n) = ap suc (run_length f (suc s) n)

run_at : {A : Type 0} (f : ℕ → A) (s n i : ℕ) (d : A) → i < n → get_or (run f s n) i d ≡ f (s + i)
unfolding run
run_at f s zero i d h = absurd (omega arith)
run_at f s (suc n) zero d h = let z : s + 0 ≡ s = omega arith in rw z refl
run_at f s (suc n) (suc i) d h = let z : suc s + i ≡ s + suc i = omega arith in run_at f (suc s) n i d (omega arith) ∙ ap f z

pub set_length : (ws : List ℕ) (n flags : ℕ) → length (set_in ws n flags).kept ≡ n
unfolding set_in kept_first
set_length ws n flags = run_length (kept_in ws) 0 n

pub set_rule : (ws : List ℕ) (n flags i : ℕ) → i < n → rule (set_in ws n flags) i ≡ kept_in ws i
unfolding set_in kept_first rule
set_rule ws n flags i h = let z : 0 + i ≡ i = omega arith in run_at (kept_in ws) 0 n i no_rule h ∙ ap (kept_in ws) z

pub old_is : (ws : List ℕ) (i a v : ℕ) → a ≡ base i → v ≡ get_or ws (a + 1) 0 → v < 18446744073709551616 → (n flags : ℕ) → i < n → v ≡ level (set_in ws n flags) i
unfolding level kept_in kept_at
old_is ws i a v s p h n flags l =
    let q : get_or ws (a + 1) 0 ≡ get_or ws (base i + 1) 0 = ap (λ x. get_or ws (x + 1) 0) s in
    let b = rank_back v h in
    let w : rank (rank (get_or ws (base i + 1) 0)) ≡ v = rw (← q, ← p) b in
    sym (ap (λ (k : Kept). rank k.priority) (set_rule ws n flags i l) ∙ w)

-- ---- the three tests

edge_as : (x y : Kept) → edge x y ≡ (eqb x.priority y.priority && is_yes_told (may_overlap x y))
unfolding edge
edge_as x y = refl

masks_as : (x y : Kept) → masks x y ≡ (ltb (rank y.priority) (rank x.priority) && (is_subset_told (may_overlap x y) && leb (total x) (total y)))
unfolding masks
masks_as x y = refl

multi_as : (ws : List ℕ) (n flags : ℕ) (ps : List ℕ) → is_multi (under ws n flags ps).flags ≡ eqb (flags % 2) 1
unfolding proposed set_in is_multi
multi_as ws n flags ps = refl

module _ (ws : List ℕ) (n flags : ℕ) (ps : List ℕ) (i j : ℕ) (pre : (length ps ≡ n) × ((i < n) × (j < n))) where
  right : length ps ≡ length (set_in ws n flags).kept
  right = pre.0 ∙ sym (set_length ws n flags)

  in_i : i < length (set_in ws n flags).kept
  in_i = let l = set_length ws n flags in let h = pre.1.0 in omega arith

  in_j : j < length (set_in ws n flags).kept
  in_j = let l = set_length ws n flags in let h = pre.1.1 in omega arith

  answer : may_overlap (rule (under ws n flags ps) i) (rule (under ws n flags ps) j) ≡ may_overlap (kept_in ws i) (kept_in ws j)
  answer = answer_is (set_in ws n flags) ps right i j in_i in_j ∙ (ap (λ k. may_overlap k (rule (set_in ws n flags) j)) (set_rule ws n flags i pre.1.0) ∙ ap (may_overlap (kept_in ws i)) (set_rule ws n flags j pre.1.1))

  total_i : total (rule (under ws n flags ps) i) ≡ total (kept_in ws i)
  total_i = total_is (set_in ws n flags) ps right i in_i ∙ ap total (set_rule ws n flags i pre.1.0)

  total_j : total (rule (under ws n flags ps) j) ≡ total (kept_in ws j)
  total_j = total_is (set_in ws n flags) ps right j in_j ∙ ap total (set_rule ws n flags j pre.1.1)

  prio_i : (rule (under ws n flags ps) i).priority ≡ get_or ps i 0
  prio_i = priority_is (set_in ws n flags) ps right i in_i

  prio_j : (rule (under ws n flags ps) j).priority ≡ get_or ps j 0
  prio_j = priority_is (set_in ws n flags) ps right j in_j

  edge_is : edge (rule (under ws n flags ps) i) (rule (under ws n flags ps) j) ≡ (eqb (get_or ps i 0) (get_or ps j 0) && is_yes_told (may_overlap (kept_in ws i) (kept_in ws j)))
  edge_is = edge_as (rule (under ws n flags ps) i) (rule (under ws n flags ps) j) ∙ (ap (λ x. eqb x (rule (under ws n flags ps) j).priority && is_yes_told (may_overlap (rule (under ws n flags ps) i) (rule (under ws n flags ps) j))) prio_i ∙ (ap (λ x. eqb (get_or ps i 0) x && is_yes_told (may_overlap (rule (under ws n flags ps) i) (rule (under ws n flags ps) j))) prio_j ∙ ap (λ o. eqb (get_or ps i 0) (get_or ps j 0) && is_yes_told o) answer))

  masks_is : masks (rule (under ws n flags ps) i) (rule (under ws n flags ps) j) ≡ (ltb (rank (get_or ps j 0)) (rank (get_or ps i 0)) && (is_subset_told (may_overlap (kept_in ws i) (kept_in ws j)) && leb (total (kept_in ws i)) (total (kept_in ws j))))
  masks_is =
      masks_as (rule (under ws n flags ps) i) (rule (under ws n flags ps) j) ∙
      (ap (λ x. ltb (rank x) (rank (rule (under ws n flags ps) i).priority) && (is_subset_told (may_overlap (rule (under ws n flags ps) i) (rule (under ws n flags ps) j)) && leb (total (rule (under ws n flags ps) i)) (total (rule (under ws n flags ps) j)))) prio_j ∙
      (ap (λ x. ltb (rank (get_or ps j 0)) (rank x) && (is_subset_told (may_overlap (rule (under ws n flags ps) i) (rule (under ws n flags ps) j)) && leb (total (rule (under ws n flags ps) i)) (total (rule (under ws n flags ps) j)))) prio_i ∙
      (ap (λ o. ltb (rank (get_or ps j 0)) (rank (get_or ps i 0)) && (is_subset_told o && leb (total (rule (under ws n flags ps) i)) (total (rule (under ws n flags ps) j)))) answer ∙
      (ap (λ x. ltb (rank (get_or ps j 0)) (rank (get_or ps i 0)) && (is_subset_told (may_overlap (kept_in ws i) (kept_in ws j)) && leb x (total (rule (under ws n flags ps) j)))) total_i ∙
      ap (λ x. ltb (rank (get_or ps j 0)) (rank (get_or ps i 0)) && (is_subset_told (may_overlap (kept_in ws i) (kept_in ws j)) && leb (total (kept_in ws i)) x)) total_j))))

  -- an edge
  has_edge_as : has_edge (under ws n flags ps) i j ≡ (not (eqb (flags % 2) 1) && (eqb (get_or ps i 0) (get_or ps j 0) && is_yes_told (may_overlap (kept_in ws i) (kept_in ws j))))
  unfolding has_edge
  has_edge_as = ap (λ t. not t && edge (rule (under ws n flags ps) i) (rule (under ws n flags ps) j)) (multi_as ws n flags ps) ∙ ap (λ t. not (eqb (flags % 2) 1) && t) edge_is

  pub edge_multi : flags % 2 ≡ 1 → false ≡ has_edge (under ws n flags ps) i j
  edge_multi e = let q = eq-eqb (flags % 2) 1 e in sym (has_edge_as ∙ rw q refl)

  pub edge_apart : (flags % 2 ≡ 1 → ⊥) → (v w : ℕ) → v ≡ get_or ps i 0 → w ≡ get_or ps j 0 → (v ≡ w → ⊥) → false ≡ has_edge (under ws n flags ps) i j
  edge_apart m v w p q d = let t = ne_eqb (flags % 2) 1 m in let u = ne_eqb (get_or ps i 0) (get_or ps j 0) (λ e. d (p ∙ (e ∙ sym q))) in sym (has_edge_as ∙ rw (t, u) refl)

  pub edge_met : (flags % 2 ≡ 1 → ⊥) → (v w : ℕ) → v ≡ get_or ps i 0 → w ≡ get_or ps j 0 → v ≡ w → (o k : Overlap) → o ≡ may_overlap (kept_in ws i) (kept_in ws j) → o ≡ k → is_yes_told k ≡ has_edge (under ws n flags ps) i j
  edge_met m v w p q d o k r z =
      let t = ne_eqb (flags % 2) 1 m in
      let u = eq-eqb (get_or ps i 0) (get_or ps j 0) (sym p ∙ (d ∙ q)) in
      let s : may_overlap (kept_in ws i) (kept_in ws j) ≡ k = sym r ∙ z in
      sym (has_edge_as ∙ rw (t, u, s) refl)

  -- a mask
  pub cover_low : (v w : ℕ) → v ≡ rank (get_or ps i 0) → w ≡ rank (get_or ps j 0) → v ≤ w → false ≡ masks (rule (under ws n flags ps) i) (rule (under ws n flags ps) j)
  cover_low v w p q l = let t = le-ltb (rank (get_or ps j 0)) (rank (get_or ps i 0)) (omega arith) in sym (masks_is ∙ rw t refl)

  pub cover_so : (v w : ℕ) → v ≡ rank (get_or ps i 0) → w ≡ rank (get_or ps j 0) → w < v → (o k : Overlap) → o ≡ may_overlap (kept_in ws i) (kept_in ws j) → o ≡ k → (is_subset_told k && leb (total (kept_in ws i)) (total (kept_in ws j))) ≡ masks (rule (under ws n flags ps) i) (rule (under ws n flags ps) j)
  cover_so v w p q l o k r z =
      let t = lt-ltb (rank (get_or ps j 0)) (rank (get_or ps i 0)) (omega arith) in
      let s : may_overlap (kept_in ws i) (kept_in ws j) ≡ k = sym r ∙ z in
      sym (masks_is ∙ rw (t, s) refl)

  has_mask_as : has_mask (under ws n flags ps) i j ≡ (not (eqb (flags % 2) 1) && (masks (rule (under ws n flags ps) i) (rule (under ws n flags ps) j) || masks (rule (under ws n flags ps) j) (rule (under ws n flags ps) i)))
  unfolding has_mask
  has_mask_as = ap (λ t. not t && (masks (rule (under ws n flags ps) i) (rule (under ws n flags ps) j) || masks (rule (under ws n flags ps) j) (rule (under ws n flags ps) i))) (multi_as ws n flags ps)

  pub mask_multi : flags % 2 ≡ 1 → false ≡ has_mask (under ws n flags ps) i j
  mask_multi e = let q = eq-eqb (flags % 2) 1 e in sym (has_mask_as ∙ rw q refl)

  pub mask_first : (flags % 2 ≡ 1 → ⊥) → (r : Bool) → r ≡ masks (rule (under ws n flags ps) i) (rule (under ws n flags ps) j) → r ≡ true → true ≡ has_mask (under ws n flags ps) i j
  mask_first m r e t = let u = ne_eqb (flags % 2) 1 m in let s = sym e ∙ t in sym (has_mask_as ∙ rw (u, s) refl)

  pub mask_second : (flags % 2 ≡ 1 → ⊥) → (r : Bool) → r ≡ masks (rule (under ws n flags ps) i) (rule (under ws n flags ps) j) → r ≡ false → (q : Bool) → q ≡ masks (rule (under ws n flags ps) j) (rule (under ws n flags ps) i) → q ≡ has_mask (under ws n flags ps) i j
  mask_second m r e t q f = let u = ne_eqb (flags % 2) 1 m in let s = sym e ∙ t in f ∙ sym (has_mask_as ∙ rw (u, s) refl)

  -- an order
  loses_as : (v w : ℕ) → v ≡ rank (get_or ps i 0) → w ≡ rank (get_or ps j 0) → loses_order (set_in ws n flags) (under ws n flags ps) i j ≡ ((ltb (level (set_in ws n flags) i) (level (set_in ws n flags) j) && leb w v) || (ltb (level (set_in ws n flags) j) (level (set_in ws n flags) i) && leb v w))
  unfolding loses_order
  loses_as v w p q =
      let a : level (under ws n flags ps) i ≡ v = level_is (set_in ws n flags) ps right i in_i ∙ sym p in
      let b : level (under ws n flags ps) j ≡ w = level_is (set_in ws n flags) ps right j in_j ∙ sym q in
      rw (a, b) refl

  pub order_same : (a b : ℕ) → a ≡ level (set_in ws n flags) i → b ≡ level (set_in ws n flags) j → a ≡ b → false ≡ loses_order (set_in ws n flags) (under ws n flags ps) i j
  order_same a b e f d =
      let t = le-ltb (level (set_in ws n flags) i) (level (set_in ws n flags) j) (omega arith) in
      let u = le-ltb (level (set_in ws n flags) j) (level (set_in ws n flags) i) (omega arith) in
      sym (loses_as (rank (get_or ps i 0)) (rank (get_or ps j 0)) refl refl ∙ rw (t, u) refl)

  pub order_up : (a b v w : ℕ) → a ≡ level (set_in ws n flags) i → b ≡ level (set_in ws n flags) j → v ≡ rank (get_or ps i 0) → w ≡ rank (get_or ps j 0) → a < b → leb w v ≡ loses_order (set_in ws n flags) (under ws n flags ps) i j
  order_up a b v w e f p q l =
      let t = lt-ltb (level (set_in ws n flags) i) (level (set_in ws n flags) j) (omega arith) in
      let u = le-ltb (level (set_in ws n flags) j) (level (set_in ws n flags) i) (omega arith) in
      sym (loses_as v w p q ∙ (rw (t, u) (or_none (leb w v))))
    where
      or_none : (x : Bool) → (x || false) ≡ x
      or_none true = refl
      or_none false = refl

  pub order_down : (a b v w : ℕ) → a ≡ level (set_in ws n flags) i → b ≡ level (set_in ws n flags) j → v ≡ rank (get_or ps i 0) → w ≡ rank (get_or ps j 0) → (a ≡ b → ⊥) → b ≤ a → leb v w ≡ loses_order (set_in ws n flags) (under ws n flags ps) i j
  order_down a b v w e f p q d l =
      let t = le-ltb (level (set_in ws n flags) i) (level (set_in ws n flags) j) (omega arith) in
      let u = lt-ltb (level (set_in ws n flags) j) (level (set_in ws n flags) i) (omega arith) in
      sym (loses_as v w p q ∙ (rw (t, u) refl))

-- ---- a pair

module _ (g h : Set) (i j : ℕ) (l : i < j) where
  pair_as : bad_pair g h i j ≡ told i j (if has_edge h i j then some Edge else (if has_mask h i j then some Mask else (if loses_order g h i j then some Order else none)))
  unfolding bad_pair broken
  pair_as = let q = lt-ltb i j l in rw q refl

  pub pair_edge : (a : Bool) → a ≡ has_edge h i j → a ≡ true → (Err (Bad Edge i j)) ≡ or_else (bad_pair g h i j) (Ok tt)
  pair_edge a p x = let s = sym p ∙ x in sym (ap (λ o. or_else o (Ok tt)) pair_as ∙ rw s refl)

  pub pair_mask : (a b : Bool) → a ≡ has_edge h i j → a ≡ false → b ≡ has_mask h i j → b ≡ true → (Err (Bad Mask i j)) ≡ or_else (bad_pair g h i j) (Ok tt)
  pair_mask a b p x q y = let s = sym p ∙ x in let t = sym q ∙ y in sym (ap (λ o. or_else o (Ok tt)) pair_as ∙ rw (s, t) refl)

  pub pair_order : (a b c : Bool) → a ≡ has_edge h i j → a ≡ false → b ≡ has_mask h i j → b ≡ false → c ≡ loses_order g h i j → c ≡ true → (Err (Bad Order i j)) ≡ or_else (bad_pair g h i j) (Ok tt)
  pair_order a b c p x q y r z = let s = sym p ∙ x in let t = sym q ∙ y in let u = sym r ∙ z in sym (ap (λ o. or_else o (Ok tt)) pair_as ∙ rw (s, t, u) refl)

  pub pair_fine : (a b c : Bool) → a ≡ has_edge h i j → a ≡ false → b ≡ has_mask h i j → b ≡ false → c ≡ loses_order g h i j → c ≡ false → (Ok tt) ≡ or_else (bad_pair g h i j) (Ok tt)
  pair_fine a b c p x q y r z = let s = sym p ∙ x in let t = sym q ∙ y in let u = sym r ∙ z in sym (ap (λ o. or_else o (Ok tt)) pair_as ∙ rw (s, t, u) refl)

-- ---- the first of many

abbrev pub Tells : (ℕ → Option Judged) → Type 0
Tells f = (k : ℕ) (v : Judged) → f k ≡ some v → v ≡ Ok tt → ⊥

pub pair_tells : (g h : Set) (i : ℕ) → Tells (bad_pair g h i)
pair_tells g h i k v e q = let w = pair_some g h i k v e in let z : Err (Bad w.0 i k) ≡ Ok tt = sym w.1 ∙ q in cc

pub row_tells : (g h : Set) (n : ℕ) → Tells (λ i. first_of n (bad_pair g h i))
row_tells g h n k v e = let w = some_of n (bad_pair g h k) v e in pair_tells g h k w.0 v w.2

module _ (f : ℕ → Option Judged) (T : Tells f) where
  pub first_on : (k : ℕ) → Ok tt ≡ or_else (f k) (Ok tt) → first_of k f ≡ none → first_of (k + 1) f ≡ none
  first_on k e o = let z = add-one k in rw z (of_none (suc k) f (λ m l. at m l (ℕ_discrete m k)))
    where
      here : (q : Option Judged) → f k ≡ q → f k ≡ none
      here none r = r
      here (some u) r = absurd (T k u r (sym (e ∙ ap (λ q. or_else q (Ok tt)) r)))

      at : (m : ℕ) → m < suc k → Dec (m ≡ k) → f m ≡ none
      at m l (yes q) = ap f q ∙ here (f k) refl
      at m l (no q) = none_of k f o m (omega arith)

  pub first_here : (n k : ℕ) (v : Fault) → k < n → Err v ≡ or_else (f k) (Ok tt) → first_of k f ≡ none → Err v ≡ or_else (first_of n f) (Ok tt)
  first_here n k v l e o = go (f k) refl
    where
      go : (q : Option Judged) → f k ≡ q → Err v ≡ or_else (first_of n f) (Ok tt)
      go none r = let y : Err v ≡ (Ok tt) = e ∙ ap (λ q. or_else q (Ok tt)) r in cc
      go (some u) r = let s = of_some n f k u l r (none_of k f o) in e ∙ (ap (λ q. or_else q (Ok tt)) r ∙ rw s refl)

  pub first_end : (n k : ℕ) → k ≤ n → n ≤ k → first_of k f ≡ none → (Ok tt) ≡ or_else (first_of n f) (Ok tt)
  first_end n k l m o = let q : k ≡ n = omega arith in let s : first_of n f ≡ none = rw q at o in rw s refl

pub row_start : (g h : Set) (i : ℕ) → first_of (i + 1) (bad_pair g h i) ≡ none
unfolding bad_pair
row_start g h i = of_none (i + 1) (bad_pair g h i) (λ k l. let q = le-ltb i k (omega arith) in rw q refl)

pub rows_start : (f : ℕ → Option Judged) → first_of 0 f ≡ none
unfolding first_of
rows_start f = refl

-- ---- the check

pub check_other : (ws : List ℕ) (n flags : ℕ) (ps : List ℕ) → (length ps ≡ n → ⊥) → (Err (WrongLength (length ps))) ≡ check (set_in ws n flags) ps
unfolding check
check_other ws n flags ps d = let q = ne_eqb (length ps) (length (set_in ws n flags).kept) (λ e. d (e ∙ set_length ws n flags)) in rw q refl

pub check_as : (ws : List ℕ) (n flags : ℕ) (ps : List ℕ) → length ps ≡ n → or_else (first_of n (λ i. first_of n (bad_pair (set_in ws n flags) (under ws n flags ps) i))) (Ok tt) ≡ check (set_in ws n flags) ps
unfolding check first_bad
check_as ws n flags ps e = let s = set_length ws n flags in let q = eq-eqb (length ps) (length (set_in ws n flags).kept) (e ∙ sym s) in rw (q, s) refl

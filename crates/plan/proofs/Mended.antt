-- Which pairs a proposal breaks, by the old priorities, the totals and the overlap answer.
use mathlib.Core.Path.{◌≡◌, refl, sym, ap, ◌∙◌}
use mathlib.Core.Bool.{Bool, true, false, ◌&&◌, not}
use mathlib.Core.Option.{Option, none, some}
use mathlib.Core.Logic.{◌⊎◌, inl, inr}
use mathlib.Core.List.{List, [], ◌∷◌, map, Memᴰ}
use Prim.Native.Nat.{ℕ, zero, suc, ◌+◌, ◌≤◌, ◌<◌, ◌^◌}
use native.Mathlib.Omega.{arith}
use native.Mathlib.Decide.{ℕ_discrete}
use lib.ListN.{length, get_or}
use lib.Dec.{eqb, ltb, leb}
use borrow.Author.Tests.{ltb-true, ltb-false, leb-true, eqb-true, lt-ltb, le-leb, eq-eqb}
use Rattle.paper.specs.declared.Overlap.{Overlap}
use Rattle.paper.specs.declared.Overlap.TheVariants.{No, Yes, Subset}
use Rattle.std.specs.Prelude.{if◌then◌else◌}
use Rattle.paper.specs.Words.{zip}
use Rattle.paper.proofs.Labels.{never}
use Rattle.paper.specs.Loading.{Kept, Set}
use Rattle.paper.specs.Rules.{compare_with, may_overlap, total, rank, is_yes_told, is_subset_told, edge, masks, no_rule, is_multi}
use Rattle.paper.specs.declared.Break.{Break}
use Rattle.paper.specs.declared.Break.TheVariants.{Edge, Mask, Order}
use Rattle.paper.specs.Priorities.{Proposable, with_priority, proposed, rule, level, Breaks, Mends}
use Rattle.plan.specs.Plans.{has_edge, has_mask, Obstacle, by_mask, by_sameness, same_rules, obstacle, before, must_rise}
use Rattle.plan.proofs.Readiness.{Ready}
use Rattle.plan.proofs.Tools.{apart, either, and_true, true_and, true_or, or_so}
use Rattle.plan.proofs.Checked.{test_is}
use Rattle.plan.proofs.Alike.{overlap_both}
use Rattle.plan.proofs.Ordered.{Before, before_so, before_either}

-- ---- ranks

pub rank_back : (x : ℕ) → x < 2 ^ 64 → rank (rank x) ≡ x
unfolding rank
rank_back x h = omega arith

pub rank_one : (x y : ℕ) → x < 2 ^ 64 → y < 2 ^ 64 → rank x ≡ rank y → x ≡ y
unfolding rank
rank_one x y h k e = omega arith

pub rank_word : (x : ℕ) → rank x < 2 ^ 64
unfolding rank
rank_word x = omega arith

pub rank_small : (x : ℕ) → x < 2 ^ 63 → rank x ≡ x + 2 ^ 63
unfolding rank
rank_small x h = omega arith

-- ---- rules

pub get_in : {A : Type 0} (l : List A) (i : ℕ) (d : A) → i < length l → Memᴰ (get_or l i d) l
get_in [] i d h = absurd (omega arith)
get_in (x ∷ l) zero d h = Memᴰ.head refl
get_in (x ∷ l) (suc i) d h = Memᴰ.tail (get_in l i d (omega arith))

pub rule_in : (g : Set) (i : ℕ) → i < length g.kept → Memᴰ (rule g i) g.kept
unfolding rule
rule_in g i h = get_in g.kept i no_rule h

zip_at : (ks : List Kept) (p : List ℕ) (i : ℕ) → length p ≡ length ks → i < length ks → get_or (map (λ x. with_priority x.0 x.1) (zip ks p)) i no_rule ≡ with_priority (get_or ks i no_rule) (get_or p i 0)
unfolding zip
zip_at [] p i e h = absurd (omega arith)
zip_at (k ∷ ks) [] i e h = absurd (omega arith)
zip_at (k ∷ ks) (x ∷ p) zero e h = refl
zip_at (k ∷ ks) (x ∷ p) (suc i) e h = zip_at ks p i (omega arith) (omega arith)

pub subset_yes : (o : Overlap) → is_subset_told o ≡ true → is_yes_told o ≡ true
subset_yes No e = absurd (apart e refl)
subset_yes Yes e = refl
subset_yes Subset e = refl

pub both_answers : (g : Set) → Ready g → (i j : ℕ) → i < length g.kept → j < length g.kept → may_overlap (rule g i) (rule g j) ≡ may_overlap (rule g j) (rule g i)
both_answers g R i j h k = overlap_both (rule g i) (rule g j) (R.rising (rule g i) (rule_in g i h)) (R.rising (rule g j) (rule_in g j k))

-- ---- edges and masks, of old and of new priorities

edge_parts : (a b : Kept) → edge a b ≡ true → (a.priority ≡ b.priority) × (is_yes_told (may_overlap a b) ≡ true)
unfolding edge
edge_parts a b e = let w = and_true (eqb a.priority b.priority) (is_yes_told (may_overlap a b)) e in (eqb-true a.priority b.priority w.0, w.1)

parts_edge : (a b : Kept) → a.priority ≡ b.priority → is_yes_told (may_overlap a b) ≡ true → edge a b ≡ true
unfolding edge
parts_edge a b e f = true_and (eqb a.priority b.priority) (is_yes_told (may_overlap a b)) (eq-eqb a.priority b.priority e) f

masks_parts : (a b : Kept) → masks a b ≡ true → (rank b.priority < rank a.priority) × (is_subset_told (may_overlap a b) ≡ true) × (total a ≤ total b)
unfolding masks
masks_parts a b e =
    let w = and_true (ltb (rank b.priority) (rank a.priority)) (is_subset_told (may_overlap a b) && leb (total a) (total b)) e in
    let v = and_true (is_subset_told (may_overlap a b)) (leb (total a) (total b)) w.1 in
    (ltb-true (rank b.priority) (rank a.priority) w.0, v.0, leb-true (total a) (total b) v.1)

parts_masks : (a b : Kept) → rank b.priority < rank a.priority → is_subset_told (may_overlap a b) ≡ true → total a ≤ total b → masks a b ≡ true
unfolding masks
parts_masks a b h e l =
    true_and (ltb (rank b.priority) (rank a.priority)) (is_subset_told (may_overlap a b) && leb (total a) (total b)) (lt-ltb (rank b.priority) (rank a.priority) h) (true_and (is_subset_told (may_overlap a b)) (leb (total a) (total b)) e (le-leb (total a) (total b) l))

-- the answer and the total do not hang on priorities
pub overlap_under : (a b : Kept) (x y : ℕ) → may_overlap (with_priority a x) (with_priority b y) ≡ may_overlap a b
unfolding may_overlap compare_with with_priority
overlap_under a b x y = refl

pub total_under : (a : Kept) (x : ℕ) → total (with_priority a x) ≡ total a
unfolding total with_priority
total_under a x = refl

priority_under : (a : Kept) (x : ℕ) → (with_priority a x).priority ≡ x
unfolding with_priority
priority_under a x = refl

module _ (g : Set) (p : List ℕ) (e : length p ≡ length g.kept) where
  pub rule_is : (i : ℕ) → i < length g.kept → rule (proposed g p) i ≡ with_priority (rule g i) (get_or p i 0)
  unfolding rule proposed
  rule_is i h = zip_at g.kept p i e h

  pub priority_is : (i : ℕ) → i < length g.kept → (rule (proposed g p) i).priority ≡ get_or p i 0
  priority_is i h = ap (λ (k : Kept). k.priority) (rule_is i h) ∙ priority_under (rule g i) (get_or p i 0)

  pub level_is : (i : ℕ) → i < length g.kept → level (proposed g p) i ≡ rank (get_or p i 0)
  unfolding level
  level_is i h = ap rank (priority_is i h)

  pub answer_is : (i j : ℕ) → i < length g.kept → j < length g.kept → may_overlap (rule (proposed g p) i) (rule (proposed g p) j) ≡ may_overlap (rule g i) (rule g j)
  answer_is i j h k = let a = rule_is i h in let b = rule_is j k in rw (a, b) (overlap_under (rule g i) (rule g j) (get_or p i 0) (get_or p j 0))

  pub total_is : (i : ℕ) → i < length g.kept → total (rule (proposed g p) i) ≡ total (rule g i)
  total_is i h = let a = rule_is i h in rw a (total_under (rule g i) (get_or p i 0))

  pub multi_is : is_multi (proposed g p).flags ≡ is_multi g.flags
  unfolding proposed
  multi_is = refl

  -- two rules of equal priority that may overlap; two of which the higher has no more to it than the lower
  module _ (i j : ℕ) (h : i < length g.kept) (k : j < length g.kept) where
    pub new_edge : edge (rule (proposed g p) i) (rule (proposed g p) j) ≡ true → (get_or p i 0 ≡ get_or p j 0) × (is_yes_told (may_overlap (rule g i) (rule g j)) ≡ true)
    new_edge t =
        let w = edge_parts (rule (proposed g p) i) (rule (proposed g p) j) t in
        (sym (priority_is i h) ∙ (w.0 ∙ priority_is j k), ap is_yes_told (sym (answer_is i j h k)) ∙ w.1)

    pub edge_new : get_or p i 0 ≡ get_or p j 0 → is_yes_told (may_overlap (rule g i) (rule g j)) ≡ true → edge (rule (proposed g p) i) (rule (proposed g p) j) ≡ true
    edge_new q y = parts_edge (rule (proposed g p) i) (rule (proposed g p) j) (priority_is i h ∙ (q ∙ sym (priority_is j k))) (ap is_yes_told (answer_is i j h k) ∙ y)

    pub new_mask : masks (rule (proposed g p) i) (rule (proposed g p) j) ≡ true → (level (proposed g p) j < level (proposed g p) i) × (is_subset_told (may_overlap (rule g i) (rule g j)) ≡ true) × (total (rule g i) ≤ total (rule g j))
    unfolding level
    new_mask t =
        let w = masks_parts (rule (proposed g p) i) (rule (proposed g p) j) t in
        let a = total_is i h in
        let b = total_is j k in
        let l = w.2 in
        (w.0, ap is_subset_told (sym (answer_is i j h k)) ∙ w.1, omega arith)

    pub mask_new : level (proposed g p) j < level (proposed g p) i → is_subset_told (may_overlap (rule g i) (rule g j)) ≡ true → total (rule g i) ≤ total (rule g j) → masks (rule (proposed g p) i) (rule (proposed g p) j) ≡ true
    unfolding level
    mask_new l s t =
        let a = total_is i h in
        let b = total_is j k in
        parts_masks (rule (proposed g p) i) (rule (proposed g p) j) l (ap is_subset_told (answer_is i j h k) ∙ s) (omega arith)

old_mask : (g : Set) (i j : ℕ) → level g j < level g i → is_subset_told (may_overlap (rule g i) (rule g j)) ≡ true → total (rule g i) ≤ total (rule g j) → masks (rule g i) (rule g j) ≡ true
unfolding level
old_mask g i j l s t = parts_masks (rule g i) (rule g j) l s t

mask_old : (g : Set) (i j : ℕ) → masks (rule g i) (rule g j) ≡ true → (level g j < level g i) × (is_subset_told (may_overlap (rule g i) (rule g j)) ≡ true) × (total (rule g i) ≤ total (rule g j))
unfolding level
mask_old g i j t = masks_parts (rule g i) (rule g j) t

-- ---- a pair can be read from either end

pub breaks_back : (g : Set) → Ready g → (p : List ℕ) → length p ≡ length g.kept → (i j : ℕ) → i < length g.kept → j < length g.kept → (b : Break) → Breaks g (proposed g p) b i j → Breaks g (proposed g p) b j i
breaks_back g R p e i j h k Edge w =
    let v = new_edge g p e i j h k w.1 in
    (w.0, edge_new g p e j i k h (sym v.0) (ap is_yes_told (both_answers g R j i k h) ∙ v.1))
breaks_back g R p e i j h k Mask w = (w.0, turn w.1)
  where
    turn : (masks (rule (proposed g p) i) (rule (proposed g p) j) ≡ true) ⊎ (masks (rule (proposed g p) j) (rule (proposed g p) i) ≡ true) → (masks (rule (proposed g p) j) (rule (proposed g p) i) ≡ true) ⊎ (masks (rule (proposed g p) i) (rule (proposed g p) j) ≡ true)
    turn (inl t) = inr t
    turn (inr t) = inl t
breaks_back g R p e i j h k Order (inl w) = inr w
breaks_back g R p e i j h k Order (inr w) = inl w

-- ---- the pairs that no proposal mends, as facts

pub record Hopeless (g : Set) (i j : ℕ) : Type 0 where
  pub single : is_multi g.flags ≡ false
  pub subset : is_subset_told (may_overlap (rule g i) (rule g j)) ≡ true
  pub either_way : ((level g j < level g i) × (total (rule g i) ≤ total (rule g j))) ⊎ (((level g i < level g j) × (total (rule g j) ≤ total (rule g i))) ⊎ (((rule g i).priority ≡ (rule g j).priority) × (total (rule g i) ≡ total (rule g j))))

module _ (g : Set) (R : Ready g) (i j : ℕ) (h : i < length g.kept) (k : j < length g.kept) where
  subset_back : is_subset_told (may_overlap (rule g i) (rule g j)) ≡ true → is_subset_told (may_overlap (rule g j) (rule g i)) ≡ true
  subset_back e = ap is_subset_told (both_answers g R j i k h) ∙ e

  subset_forth : is_subset_told (may_overlap (rule g j) (rule g i)) ≡ true → is_subset_told (may_overlap (rule g i) (rule g j)) ≡ true
  subset_forth e = ap is_subset_told (both_answers g R i j h k) ∙ e

  pub obstacle_hopeless : (o : Obstacle) → obstacle g i j ≡ some o → Hopeless g i j
  unfolding obstacle same_rules
  obstacle_hopeless o e = first (either (has_mask g i j)) (either (same_rules g i j))
    where
      masked : (masks (rule g i) (rule g j) ≡ true) ⊎ (masks (rule g j) (rule g i) ≡ true) → is_multi g.flags ≡ false → Hopeless g i j
      masked (inl t) m = let w = mask_old g i j t in record { single = m; subset = w.1; either_way = inl (w.0, w.2) }
      masked (inr t) m = let w = mask_old g j i t in record { single = m; subset = subset_forth w.1; either_way = inr (inl (w.0, w.2)) }

      first : (has_mask g i j ≡ true) ⊎ (has_mask g i j ≡ false) → (same_rules g i j ≡ true) ⊎ (same_rules g i j ≡ false) → Hopeless g i j
      first (inl t) s = let w = (test_is g g Mask i j).0 t in masked w.1 w.0
      first (inr t) (inl s) =
          let w = and_true (has_edge g i j) (is_subset_told (may_overlap (rule g i) (rule g j)) && eqb (total (rule g i)) (total (rule g j))) s in
          let v = and_true (is_subset_told (may_overlap (rule g i) (rule g j))) (eqb (total (rule g i)) (total (rule g j))) w.1 in
          let u = (test_is g g Edge i j).0 w.0 in
          record { single = u.0; subset = v.0; either_way = inr (inr ((edge_parts (rule g i) (rule g j) u.1).0, eqb-true (total (rule g i)) (total (rule g j)) v.1)) }
      first (inr t) (inr s) = let z : ◌≡◌ {A = Option Obstacle} none (some o) = sym (none_there t s) ∙ e in absurd (never z)
        where
          none_there : has_mask g i j ≡ false → same_rules g i j ≡ false → (if has_mask g i j then some by_mask else (if same_rules g i j then some by_sameness else none)) ≡ none
          none_there t s = rw (t, s) refl

  pub hopeless_obstacle : Hopeless g i j → obstacle g i j ≡ none → ⊥
  unfolding obstacle same_rules
  hopeless_obstacle H e = by H.either_way
    where
      pick : (x y : Bool) → ◌≡◌ {A = Option Obstacle} (if x then some by_mask else (if y then some by_sameness else none)) none → (x ≡ false) × (y ≡ false)
      pick true y q = absurd (never (sym q))
      pick false true q = absurd (never (sym q))
      pick false false q = (refl, refl)

      no_mask : (masks (rule g i) (rule g j) ≡ true) ⊎ (masks (rule g j) (rule g i) ≡ true) → ⊥
      no_mask t = apart ((test_is g g Mask i j).1 (H.single, t)) (pick (has_mask g i j) (same_rules g i j) e).0

      by : ((level g j < level g i) × (total (rule g i) ≤ total (rule g j))) ⊎ (((level g i < level g j) × (total (rule g j) ≤ total (rule g i))) ⊎ (((rule g i).priority ≡ (rule g j).priority) × (total (rule g i) ≡ total (rule g j)))) → ⊥
      by (inl w) = no_mask (inl (old_mask g i j w.0 H.subset w.1))
      by (inr (inl w)) = no_mask (inr (old_mask g j i w.0 (subset_back H.subset) w.1))
      by (inr (inr w)) =
          let a = (test_is g g Edge i j).1 (H.single, parts_edge (rule g i) (rule g j) w.0 (subset_yes (may_overlap (rule g i) (rule g j)) H.subset)) in
          let b = true_and (is_subset_told (may_overlap (rule g i) (rule g j))) (eqb (total (rule g i)) (total (rule g j))) H.subset (eq-eqb (total (rule g i)) (total (rule g j)) w.1) in
          apart (true_and (has_edge g i j) (is_subset_told (may_overlap (rule g i) (rule g j)) && eqb (total (rule g i)) (total (rule g j))) a b) (pick (has_mask g i j) (same_rules g i j) e).1

  -- an obstructed pair is broken under every proposal
  pub hopeless_breaks : Hopeless g i j → (p : List ℕ) → Proposable p → length p ≡ length g.kept → (b : Break) × Breaks g (proposed g p) b i j
  hopeless_breaks H p W e = by H.either_way
    where
      new : Set
      new = proposed g p

      m : is_multi new.flags ≡ false
      m = multi_is g p e ∙ H.single

      compared : (a b : ℕ) → (a < b) ⊎ (b ≤ a)
      compared a b = go (either (ltb a b))
        where
          go : (ltb a b ≡ true) ⊎ (ltb a b ≡ false) → (a < b) ⊎ (b ≤ a)
          go (inl q) = inl (ltb-true a b q)
          go (inr q) = inr (ltb-false a b q)

      by : ((level g j < level g i) × (total (rule g i) ≤ total (rule g j))) ⊎ (((level g i < level g j) × (total (rule g j) ≤ total (rule g i))) ⊎ (((rule g i).priority ≡ (rule g j).priority) × (total (rule g i) ≡ total (rule g j)))) → (b : Break) × Breaks g new b i j
      by (inl w) = go (compared (level new j) (level new i))
        where
          go : (level new j < level new i) ⊎ (level new i ≤ level new j) → (b : Break) × Breaks g new b i j
          go (inl l) = (Mask, (m, inl (mask_new g p e i j h k l H.subset w.1)))
          go (inr l) = (Order, inr (w.0, l))
      by (inr (inl w)) = go (compared (level new i) (level new j))
        where
          go : (level new i < level new j) ⊎ (level new j ≤ level new i) → (b : Break) × Breaks g new b i j
          go (inl l) = (Mask, (m, inr (mask_new g p e j i k h l (subset_back H.subset) w.1)))
          go (inr l) = (Order, inl (w.0, l))
      by (inr (inr w)) = go (ℕ_discrete (get_or p i 0) (get_or p j 0)) (compared (level new i) (level new j)) (compared (level new j) (level new i))
        where
          go : Dec (get_or p i 0 ≡ get_or p j 0) → (level new i < level new j) ⊎ (level new j ≤ level new i) → (level new j < level new i) ⊎ (level new i ≤ level new j) → (b : Break) × Breaks g new b i j
          go (yes q) c d = (Edge, (m, edge_new g p e i j h k q (subset_yes (may_overlap (rule g i) (rule g j)) H.subset)))
          go (no q) (inl l) d = let t = w.1 in (Mask, (m, inr (mask_new g p e j i k h l (subset_back H.subset) (omega arith))))
          go (no q) (inr l) (inl n) = let t = w.1 in (Mask, (m, inl (mask_new g p e i j h k n H.subset (omega arith))))
          go (no q) (inr l) (inr n) =
              let a = level_is g p e i h in
              let b = level_is g p e j k in
              let s : rank (get_or p i 0) ≡ rank (get_or p j 0) = omega arith in
              absurd (q (rank_one (get_or p i 0) (get_or p j 0) (W (get_or p i 0) (get_in p i 0 (omega arith))) (W (get_or p j 0) (get_in p j 0 (omega arith))) s))

-- ---- and the others are not, under a proposal that rises where it must

module _ (g : Set) (R : Ready g) (p : List ℕ) (e : length p ≡ length g.kept) (rises : (j k : ℕ) → j < length g.kept → k < length g.kept → must_rise g j k ≡ true → level (proposed g p) j < level (proposed g p) k) where
  not_so : (b : Bool) → b ≡ false → not b ≡ true
  not_so true q = absurd (apart refl q)
  not_so false q = refl

  module _ (i j : ℕ) (h : i < length g.kept) (k : j < length g.kept) (b : before g i j ≡ true) where
    over : is_multi g.flags ≡ false → is_yes_told (may_overlap (rule g i) (rule g j)) ≡ true → level (proposed g p) i < level (proposed g p) j
    unfolding must_rise
    over m y = rises i j h k (true_and (before g i j) _ b (or_so (ltb (level g i) (level g j)) _ (true_and (not (is_multi g.flags)) _ (not_so (is_multi g.flags) m) y)))

    above : level g i < level g j → level (proposed g p) i < level (proposed g p) j
    unfolding must_rise
    above l = rises i j h k (true_and (before g i j) _ b (true_or (ltb (level g i) (level g j)) _ (lt-ltb (level g i) (level g j) l)))

    unbroken : (Hopeless g i j → ⊥) → (c : Break) → Breaks g (proposed g p) c i j → ⊥
    unfolding level
    unbroken f Edge w =
        let v = new_edge g p e i j h k w.1 in
        let l = over (sym (multi_is g p e) ∙ w.0) v.1 in
        let a = level_is g p e i h in
        let d = level_is g p e j k in
        let q = ap rank v.0 in
        omega arith
    unbroken f Mask w = one w.1
      where
        m : is_multi g.flags ≡ false
        m = sym (multi_is g p e) ∙ w.0

        total_cases : is_subset_told (may_overlap (rule g i) (rule g j)) ≡ true → total (rule g j) ≤ total (rule g i) → Before g i j → ⊥
        total_cases s t (inl l) = f (record { single = m; subset = s; either_way = inr (inl (l, t)) })
        total_cases s t (inr (q, inl l)) = omega arith
        total_cases s t (inr (q, inr l)) = f (record { single = m; subset = s; either_way = inr (inr (rank_one (rule g i).priority (rule g j).priority (R.words (rule g i) (rule_in g i h)) (R.words (rule g j) (rule_in g j k)) q, l.0)) })

        one : (masks (rule (proposed g p) i) (rule (proposed g p) j) ≡ true) ⊎ (masks (rule (proposed g p) j) (rule (proposed g p) i) ≡ true) → ⊥
        one (inl t) =
            let v = new_mask g p e i j h k t in
            let l = over m (subset_yes (may_overlap (rule g i) (rule g j)) v.1) in
            let n = v.0 in
            omega arith
        one (inr t) = let v = new_mask g p e j i k h t in total_cases (subset_forth g R i j h k v.1) v.2 (before_so g i j b)
    unbroken f Order (inl w) = let l = above w.0 in let n = w.1 in omega arith
    unbroken f Order (inr w) = late w.0 (before_so g i j b)
      where
        late : level g j < level g i → Before g i j → ⊥
        late l (inl n) = omega arith
        late l (inr n) = let q = n.0 in omega arith

  hopeless_back : (i j : ℕ) → i < length g.kept → j < length g.kept → Hopeless g j i → Hopeless g i j
  hopeless_back i j h k H = record { single = H.single; subset = subset_forth g R i j h k H.subset; either_way = turn H.either_way }
    where
      turn : ((level g i < level g j) × (total (rule g j) ≤ total (rule g i))) ⊎ (((level g j < level g i) × (total (rule g i) ≤ total (rule g j))) ⊎ (((rule g j).priority ≡ (rule g i).priority) × (total (rule g j) ≡ total (rule g i)))) →
          ((level g j < level g i) × (total (rule g i) ≤ total (rule g j))) ⊎ (((level g i < level g j) × (total (rule g j) ≤ total (rule g i))) ⊎ (((rule g i).priority ≡ (rule g j).priority) × (total (rule g i) ≡ total (rule g j))))
      turn (inl w) = inr (inl w)
      turn (inr (inl w)) = inl w
      turn (inr (inr w)) = inr (inr (sym w.0, sym w.1))

  pub rising_mends : (i j : ℕ) → i < j → j < length g.kept → obstacle g i j ≡ none → Mends g p i j
  rising_mends i j l k o = (e, λ c w. go (before_either g i j (λ q. omega arith)) c w)
    where
      h : i < length g.kept
      h = omega arith

      none_so : Hopeless g i j → ⊥
      none_so H = hopeless_obstacle g R i j h k H o

      go : (before g i j ≡ true) ⊎ (before g j i ≡ true) → (c : Break) → Breaks g (proposed g p) c i j → ⊥
      go (inl b) c w = unbroken i j h k b none_so c w
      go (inr b) c w = unbroken j i k h b (λ H. none_so (hopeless_back i j h k H)) c (breaks_back g R p e i j h k c w)

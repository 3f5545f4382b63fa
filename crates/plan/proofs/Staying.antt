-- A set that passes keeps its priorities; so does a set of a multi term; a second plan changes nothing. And what made sets have.
use mathlib.Core.Path.{◌≡◌, refl, sym, ap, ◌∙◌}
use mathlib.Core.Bool.{true, false, ◌&&◌, ◌||◌, not}
use mathlib.Core.Logic.{◌⊎◌, inl, inr}
use mathlib.Core.List.Memᴰ
use mathlib.Core.List.{List, [], ◌∷◌, map, Memᴰ}
use Prim.Native.Nat.{ℕ, zero, suc, ◌≤◌, ◌<◌, ◌^◌}
use native.Mathlib.Omega.{arith}
use lib.ListN.{length, get_or, length-map, get_or-map}
use lib.Seq.{ext_get_or}
use lib.Dec.{ltb}
use borrow.Author.Tests.{ltb-true, ltb-false, not-true}
use Rattle.paper.specs.Words.{below, zip}
use Rattle.paper.specs.Loading.{Kept, Set}
use Rattle.paper.proofs.Tables.{Rising}
use Rattle.paper.specs.Rules.{may_overlap, rank, is_yes_told, no_rule, is_multi}
use Rattle.paper.specs.declared.Break.TheVariants.{Edge}
use Rattle.paper.specs.Priorities.{Proposable, with_priority, proposed, old_priorities, rule, level, Passes, Breaks}
use Rattle.plan.specs.Plans.{Obstructed, obstructed, before, those, must_rise, raised_by, raised, fits, numbers, proposal, plan}
use Rattle.plan.proofs.Readiness.{Ready}
use Rattle.plan.proofs.Tools.{apart, either, and_true, or_true, below_length, below_at}
use Rattle.plan.proofs.Checked.{proposed_length, passes_fine}
use Rattle.plan.proofs.Ordered.{Before, before_so, before_never, of_those, greatest_least, raised_from}
use Rattle.plan.proofs.Mended.{rank_back, rank_one, rank_word, rule_in, level_is, breaks_back, edge_new}
use Rattle.plan.proofs.Planning.{each_fits, numbers_fit, some_plan, obstructed_never}

-- ---- old priorities

old_length : (g : Set) → length (old_priorities g) ≡ length g.kept
unfolding old_priorities
old_length g = length-map g.kept (λ k. k.priority)

old_at : (g : Set) (i : ℕ) → get_or (old_priorities g) i 0 ≡ (rule g i).priority
unfolding old_priorities rule
old_at g i = get_or-map (λ (k : Kept). k.priority) g.kept i no_rule

old_words : (g : Set) → Ready g → Proposable (old_priorities g)
unfolding old_priorities
old_words g R x m = let w = Memᴰ.of_map (λ (k : Kept). k.priority) g.kept m in let l = R.words w.0 w.1 in let q = w.2 in omega arith

old_level : (g : Set) (i : ℕ) → i < length g.kept → level (proposed g (old_priorities g)) i ≡ level g i
unfolding level
old_level g i h = unfold level in (level_is g (old_priorities g) (old_length g) i h ∙ ap rank (old_at g i))

-- ---- a set that passes

module _ (g : Set) (R : Ready g) (P : Passes g (old_priorities g)) where
  no_equal : (j k : ℕ) → j < length g.kept → k < length g.kept → (j ≡ k → ⊥) → is_multi g.flags ≡ false → is_yes_told (may_overlap (rule g j) (rule g k)) ≡ true → level g j ≡ level g k → ⊥
  unfolding level
  no_equal j k a b d m y e = go (either (ltb j k))
    where
      same : get_or (old_priorities g) j 0 ≡ get_or (old_priorities g) k 0
      same = old_at g j ∙ (rank_one (rule g j).priority (rule g k).priority (R.words (rule g j) (rule_in g j a)) (R.words (rule g k) (rule_in g k b)) e ∙ sym (old_at g k))

      breaks : Breaks g (proposed g (old_priorities g)) Edge j k
      breaks = (unfold proposed in m, edge_new g (old_priorities g) (old_length g) j k a b same y)

      go : (ltb j k ≡ true) ⊎ (ltb j k ≡ false) → ⊥
      go (inl l) = passes_fine g (old_priorities g) P j k (ltb-true j k l) b Edge breaks
      go (inr l) = let h = ltb-false j k l in passes_fine g (old_priorities g) P k j (omega arith) a Edge (breaks_back g R (old_priorities g) (old_length g) j k a b Edge breaks)

  rises_already : (j k : ℕ) → j < length g.kept → k < length g.kept → must_rise g j k ≡ true → level g j < level g k
  unfolding must_rise
  rises_already j k a b e =
      let w = and_true (before g j k) (ltb (level g j) (level g k) || (not (is_multi g.flags) && is_yes_told (may_overlap (rule g j) (rule g k)))) e in
      go w.0 (or_true (ltb (level g j) (level g k)) (not (is_multi g.flags) && is_yes_told (may_overlap (rule g j) (rule g k))) w.1)
    where
      differ : before g j k ≡ true → j ≡ k → ⊥
      differ f q = let z : before g k k ≡ true = rw q at f in apart z (before_never g k)

      by : before g j k ≡ true → is_multi g.flags ≡ false → is_yes_told (may_overlap (rule g j) (rule g k)) ≡ true → Before g j k → level g j < level g k
      by f m y (inl l) = l
      by f m y (inr l) = absurd (no_equal j k a b (differ f) m y l.0)

      go : before g j k ≡ true → (ltb (level g j) (level g k) ≡ true) ⊎ ((not (is_multi g.flags) && is_yes_told (may_overlap (rule g j) (rule g k))) ≡ true) → level g j < level g k
      go f (inl l) = ltb-true (level g j) (level g k) l
      go f (inr l) = let v = and_true (not (is_multi g.flags)) (is_yes_told (may_overlap (rule g j) (rule g k))) l in by f (not-true (is_multi g.flags) v.0) v.1 (before_so g j k f)

  raised_by_none : (d k : ℕ) → k < length g.kept → raised_by d g k ≤ level g k
  unfolding raised_by
  raised_by_none zero k h = omega arith
  raised_by_none (suc d) k h = greatest_least (level g k) (map (λ j. suc (raised_by d g j)) (those g (λ j. must_rise g j k))) (level g k) (omega arith) (λ x m. each x m (λ j a. raised_by_none d j a))
    where
      each : (x : ℕ) → Memᴰ x (map (λ j. suc (raised_by d g j)) (those g (λ j. must_rise g j k))) → ((j : ℕ) → j < length g.kept → raised_by d g j ≤ level g j) → x ≤ level g k
      each x m f =
          let w = Memᴰ.of_map (λ j. suc (raised_by d g j)) (those g (λ j. must_rise g j k)) m in
          let v = of_those g (λ j. must_rise g j k) w.0 w.1 in
          let l = rises_already w.0 k v.0 h v.1 in
          let i = f w.0 v.0 in
          let q = w.2 in
          omega arith

  raised_none : (k : ℕ) → k < length g.kept → raised g k ≡ level g k
  raised_none k h = let a : raised g k ≤ level g k = unfold raised in (raised_by_none (length g.kept) k h) in let b = raised_from g k h in omega arith

  numbers_old : numbers g ≡ old_priorities g
  numbers_old = numbers_fit g fit ∙ ext_get_or 0 (below n (λ k. rank (raised g k))) (old_priorities g) (below_length n (λ k. rank (raised g k)) ∙ sym (old_length g)) (λ i h. at i (let l = below_length n (λ k. rank (raised g k)) in omega arith))
    where
      n : ℕ
      n = length g.kept

      low : (k : ℕ) → level g k < 2 ^ 64
      low k = unfold level in rank_word (rule g k).priority

      fit : fits g ≡ true
      fit = each_fits g (λ k h. let a = raised_none k h in let b = low k in omega arith)

      back : (i : ℕ) → i < n → rank (level g i) ≡ (rule g i).priority
      back i h = unfold level in rank_back (rule g i).priority (R.words (rule g i) (rule_in g i h))

      at : (i : ℕ) → i < n → get_or (below n (λ k. rank (raised g k))) i 0 ≡ get_or (old_priorities g) i 0
      at i h = below_at n (λ k. rank (raised g k)) i 0 h ∙ (ap rank (raised_none i h) ∙ (back i h ∙ sym (old_at g i)))

  pub passing_stays : plan g ≡ proposal (old_priorities g)
  passing_stays = some_plan g free ∙ ap proposal numbers_old
    where
      go : (l : List Obstructed) → obstructed g ≡ l → obstructed g ≡ []
      go [] q = q
      go (x ∷ l) q = absurd (obstructed_never g R x (rw q (Memᴰ.head refl)) (old_priorities g) (old_words g R) P)

      free : obstructed g ≡ []
      free = go (obstructed g) refl

-- ---- a multi term

pub multi_passes : (g : Set) → is_multi g.flags ≡ true → Passes g (old_priorities g)
multi_passes g m = record {
  right_length = old_length g;
  no_edge = λ s i j l k. absurd (apart m (unfold proposed in s));
  no_mask = λ s i j l k. absurd (apart m (unfold proposed in s));
  keeps_order = λ i j h k l. let a = old_level g i h in let b = old_level g j k in omega arith;
}

-- ---- the set under a plan

of_zip : (ks : List Kept) (q : List ℕ) (x : Kept × ℕ) → Memᴰ x (zip ks q) → Memᴰ x.0 ks × Memᴰ x.1 q
unfolding zip
of_zip [] q x m = elim m [ ]
of_zip (k ∷ ks) [] x m = elim m [ ]
of_zip (k ∷ ks) (y ∷ q) x (Memᴰ.head e) = (Memᴰ.head (ap (λ (z : Kept × ℕ). z.0) e), Memᴰ.head (ap (λ (z : Kept × ℕ). z.1) e))
of_zip (k ∷ ks) (y ∷ q) x (Memᴰ.tail m) = let w = of_zip ks q x m in (Memᴰ.tail w.0, Memᴰ.tail w.1)

pub rising_still : (g : Set) (p : List ℕ) → ((k : Kept) → Memᴰ k g.kept → Rising 0 k.constraints) → (k : Kept) → Memᴰ k (proposed g p).kept → Rising 0 k.constraints
unfolding proposed with_priority
rising_still g p r k m =
    let w = Memᴰ.of_map (λ (x : Kept × ℕ). with_priority x.0 x.1) (zip g.kept p) m in
    let q = w.2 in
    rw (← q) (r w.0.0 (of_zip g.kept p w.0 w.1).0)

module _ (g : Set) (R : Ready g) (p : List ℕ) (W : Proposable p) (P : Passes g p) where
  pub ready_still : Ready (proposed g p)
  unfolding proposed with_priority
  ready_still = record {
    rising = rising_still g p R.rising;
    words = λ k m. let w = from k m in let q = w.2 in rw (← q) (W w.0.1 (of_zip g.kept p w.0 w.1).1);
    few = let l = proposed_length g p P.right_length in let f = R.few in omega arith;
  }
    where
      from : (k : Kept) → Memᴰ k (proposed g p).kept → (x : Kept × ℕ) × Memᴰ x (zip g.kept p) × (with_priority x.0 x.1 ≡ k)
      from k m = Memᴰ.of_map (λ (x : Kept × ℕ). with_priority x.0 x.1) (zip g.kept p) m

  zip_old : (ks : List Kept) (q : List ℕ) → length q ≡ length ks → map (λ (k : Kept). k.priority) (map (λ (x : Kept × ℕ). with_priority x.0 x.1) (zip ks q)) ≡ q
  unfolding zip with_priority
  zip_old [] [] e = refl
  zip_old [] (y ∷ q) e = absurd (omega arith)
  zip_old (k ∷ ks) [] e = absurd (omega arith)
  zip_old (k ∷ ks) (y ∷ q) e = ap (λ l. y ∷ l) (zip_old ks q (omega arith))

  pub old_now : old_priorities (proposed g p) ≡ p
  unfolding old_priorities proposed
  old_now = zip_old g.kept p P.right_length

  zip_again : (ks : List Kept) (q : List ℕ) → map (λ (x : Kept × ℕ). with_priority x.0 x.1) (zip (map (λ (x : Kept × ℕ). with_priority x.0 x.1) (zip ks q)) q) ≡ map (λ (x : Kept × ℕ). with_priority x.0 x.1) (zip ks q)
  unfolding zip with_priority
  zip_again [] q = refl
  zip_again (k ∷ ks) [] = refl
  zip_again (k ∷ ks) (y ∷ q) = ap (λ l. with_priority k y ∷ l) (zip_again ks q)

  kept_again : (proposed (proposed g p) p).kept ≡ (proposed g p).kept
  unfolding proposed
  kept_again = zip_again g.kept p

  rule_again : (i : ℕ) → rule (proposed (proposed g p) p) i ≡ rule (proposed g p) i
  unfolding rule
  rule_again i = ap (λ (l : List Kept). get_or l i no_rule) kept_again

  level_again : (i : ℕ) → level (proposed (proposed g p) p) i ≡ level (proposed g p) i
  unfolding level
  level_again i = ap (λ (k : Kept). rank k.priority) (rule_again i)

  flags_again : (proposed (proposed g p) p).flags ≡ (proposed g p).flags
  unfolding proposed
  flags_again = refl

  pub passes_still : Passes (proposed g p) p
  passes_still =
      let n = proposed_length g p P.right_length in
      let q = ap length kept_again in
      let s = ap is_multi flags_again in
      record {
        right_length = P.right_length ∙ sym n;
        no_edge = λ m i j l k. let a = rule_again i in let b = rule_again j in rw (a, b) (P.no_edge (sym s ∙ m) i j l (omega arith));
        no_mask = λ m i j l k. let a = rule_again i in let b = rule_again j in rw (a, b) (P.no_mask (sym s ∙ m) i j (omega arith) (omega arith));
        keeps_order = λ i j h k l. let a = level_again i in let b = level_again j in omega arith;
      }

  pub plan_again : plan (proposed g p) ≡ proposal p
  plan_again = let q = old_now in passing_stays (proposed g p) ready_still (rw q passes_still) ∙ ap proposal q

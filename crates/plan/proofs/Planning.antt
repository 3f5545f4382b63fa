-- The plan passes, and where there is none no proposal passes: the proofs.
use mathlib.Core.Path.{◌≡◌, refl, sym, ap, ◌∙◌}
use mathlib.Core.Bool.{Bool, true, false}
use mathlib.Core.Option.{Option, none, some}
use mathlib.Core.Logic.{◌⊎◌, inl, inr}
use mathlib.Core.List.{List, [], ◌∷◌, Memᴰ}
use Prim.Native.Nat.{ℕ, ◌<◌, ◌^◌}
use native.Mathlib.Omega.{arith}
use lib.ListN.{length}
use lib.Dec.{ltb}
use borrow.Author.Tests.{ltb-true, lt-ltb}
use Rattle.std.specs.Prelude.{if◌then◌else◌}
use Rattle.paper.specs.Words.{below, joined}
use Rattle.paper.proofs.Closure.{of_below, in_below}
use Rattle.paper.proofs.Labels.{never}
use Rattle.paper.specs.Loading.{Set}
use Rattle.paper.specs.Rules.{rank}
use Rattle.paper.specs.declared.Break.{Break}
use Rattle.paper.specs.Priorities.{Proposable, proposed, level, Passes, Breaks, Mends}
use Rattle.plan.specs.Plans.{Obstacle, obstacle, Obstructed, listed, obstructed_at, obstructed, position, must_rise, raised, fits, numbers, Plan, proposal, no_proposal, plan}
use Rattle.plan.proofs.Readiness.{Ready}
use Rattle.plan.proofs.Tools.{either, of_every, in_every, below_length, below_at, of_joined, in_joined}
use Rattle.plan.proofs.Checked.{fine_passes, passes_fine}
use Rattle.plan.proofs.Ordered.{position_rises, position_inside, rise_before, raised_rises}
use Rattle.plan.proofs.Mended.{rank_back, rank_word, rank_small, level_is, obstacle_hopeless, hopeless_breaks, rising_mends}

-- ---- the numbers of the plan

pub numbers_fit : (g : Set) → fits g ≡ true → numbers g ≡ below (length g.kept) (λ k. rank (raised g k))
unfolding numbers
numbers_fit g e = rw e refl

pub numbers_not : (g : Set) → fits g ≡ false → numbers g ≡ below (length g.kept) (position g)
unfolding numbers
numbers_not g e = rw e refl

pub fits_each : (g : Set) → fits g ≡ true → (k : ℕ) → k < length g.kept → raised g k < 2 ^ 64
unfolding fits
fits_each g e k h = ltb-true (raised g k) (2 ^ 64) (of_every (λ k. ltb (raised g k) (2 ^ 64)) (below (length g.kept) (λ k. k)) e k (in_below (length g.kept) (λ k. k) k h))

pub each_fits : (g : Set) → ((k : ℕ) → k < length g.kept → raised g k < 2 ^ 64) → fits g ≡ true
unfolding fits
each_fits g f = in_every (λ k. ltb (raised g k) (2 ^ 64)) (below (length g.kept) (λ k. k)) (λ k m. lt-ltb (raised g k) (2 ^ 64) (f k (let b = of_below (length g.kept) (λ k. k) k m in let l = b.1 in let q = b.2 in omega arith)))

-- a proposal of the numbers f: its length, its priorities, its order
below_words : (n : ℕ) (f : ℕ → ℕ) → ((k : ℕ) → k < n → f k < 2 ^ 64) → Proposable (below n f)
below_words n f h x m = let w = of_below n f x m in let l = h w.0 w.1 in let q = w.2 in omega arith

below_rises : (g : Set) (f : ℕ → ℕ) → ((j k : ℕ) → j < length g.kept → k < length g.kept → must_rise g j k ≡ true → rank (f j) < rank (f k)) →
    (j k : ℕ) → j < length g.kept → k < length g.kept → must_rise g j k ≡ true → level (proposed g (below (length g.kept) f)) j < level (proposed g (below (length g.kept) f)) k
below_rises g f h j k a b r =
    let n = length g.kept in
    let x = level_is g (below n f) (below_length n f) j a ∙ ap rank (below_at n f j 0 a) in
    let y = level_is g (below n f) (below_length n f) k b ∙ ap rank (below_at n f k 0 b) in
    let l = h j k a b r in
    omega arith

module _ (g : Set) (R : Ready g) where
  position_word : (k : ℕ) → k < length g.kept → position g k < 2 ^ 63
  position_word k h = let p = position_inside g k h in let q = R.few in omega arith

  positions_rise : (j k : ℕ) → j < length g.kept → k < length g.kept → must_rise g j k ≡ true → rank (position g j) < rank (position g k)
  positions_rise j k a b r =
      let l = position_rises g j k a (rise_before g j k r) in
      let x = rank_small (position g j) (position_word j a) in
      let y = rank_small (position g k) (position_word k b) in
      omega arith

  pub numbers_good : Proposable (numbers g) × (length (numbers g) ≡ length g.kept) × ((j k : ℕ) → j < length g.kept → k < length g.kept → must_rise g j k ≡ true → level (proposed g (numbers g)) j < level (proposed g (numbers g)) k)
  numbers_good = go (either (fits g))
    where
      abbrev_n : ℕ
      abbrev_n = length g.kept

      Good : List ℕ → Type 0
      Good p = Proposable p × (length p ≡ length g.kept) × ((j k : ℕ) → j < length g.kept → k < length g.kept → must_rise g j k ≡ true → level (proposed g p) j < level (proposed g p) k)

      raise : fits g ≡ true → (j k : ℕ) → j < length g.kept → k < length g.kept → must_rise g j k ≡ true → rank (rank (raised g j)) < rank (rank (raised g k))
      raise e j k a b r =
          let x = rank_back (raised g j) (fits_each g e j a) in
          let y = rank_back (raised g k) (fits_each g e k b) in
          let l = raised_rises g j k a b r in
          omega arith

      go : (fits g ≡ true) ⊎ (fits g ≡ false) → Good (numbers g)
      go (inl e) = rw (numbers_fit g e) (below_words abbrev_n (λ k. rank (raised g k)) (λ k h. rank_word (raised g k)), below_length abbrev_n (λ k. rank (raised g k)), below_rises g (λ k. rank (raised g k)) (raise e))
      go (inr e) = rw (numbers_not g e) (below_words abbrev_n (position g) (λ k h. let l = position_word k h in omega arith), below_length abbrev_n (position g), below_rises g (position g) positions_rise)

-- ---- the list of obstructed pairs

abbrev pub pair : Obstacle → ℕ → ℕ → Obstructed
pair o i j = record { why = o; earlier = i; later = j }

pub in_obstructed : (g : Set) (o : Obstacle) (i j : ℕ) → i < j → j < length g.kept → obstacle g i j ≡ some o → Memᴰ (pair o i j) (obstructed g)
unfolding obstructed obstructed_at
in_obstructed g o i j l k e =
    in_joined (below n row) (row i) (pair o i j) (in_below n row i (omega arith)) (in_joined (below n (obstructed_at g i)) (obstructed_at g i j) (pair o i j) (in_below n (obstructed_at g i) j k) here)
  where
    n : ℕ
    n = length g.kept

    row : ℕ → List Obstructed
    row i = joined (below n (obstructed_at g i))

    here : Memᴰ (pair o i j) (if ltb i j then listed i j (obstacle g i j) else [])
    here = let q = lt-ltb i j l in rw (q, e) (mathlib.Core.List.Memᴰ.head refl)

pub of_obstructed : (g : Set) (x : Obstructed) → Memᴰ x (obstructed g) → (x.earlier < x.later) × (x.later < length g.kept) × (obstacle g x.earlier x.later ≡ some x.why)
unfolding obstructed obstructed_at
of_obstructed g x m =
    let a = of_joined (below n row) x m in
    let b = of_below n row a.0 a.1 in
    let c : Memᴰ x (row b.0) = rw b.2 at a.2 in
    let d = of_joined (below n (obstructed_at g b.0)) x c in
    let f = of_below n (obstructed_at g b.0) d.0 d.1 in
    let h : Memᴰ x (obstructed_at g b.0 f.0) = rw f.2 at d.2 in
    here b.0 f.0 f.1 h
  where
    n : ℕ
    n = length g.kept

    row : ℕ → List Obstructed
    row i = joined (below n (obstructed_at g i))

    Result : Type 0
    Result = (x.earlier < x.later) × (x.later < n) × (obstacle g x.earlier x.later ≡ some x.why)

    told : (i j : ℕ) → i < j → j < n → (o : Option Obstacle) → obstacle g i j ≡ o → Memᴰ x (listed i j o) → Result
    told i j l k none e w = elim w [ ]
    told i j l k (some o) e (mathlib.Core.List.Memᴰ.head q) = rw q (l, k, e)
    told i j l k (some o) e (mathlib.Core.List.Memᴰ.tail q) = elim q [ ]

    here : (i j : ℕ) → j < n → Memᴰ x (if ltb i j then listed i j (obstacle g i j) else []) → Result
    here i j k w = go (ltb i j) refl w
      where
        go : (t : Bool) → ltb i j ≡ t → Memᴰ x (if t then listed i j (obstacle g i j) else []) → Result
        go true e v = told i j (ltb-true i j e) k (obstacle g i j) refl v
        go false e v = elim v [ ]

pub none_obstructed : (g : Set) → obstructed g ≡ [] → (i j : ℕ) → i < j → j < length g.kept → obstacle g i j ≡ none
none_obstructed g e i j l k = go (obstacle g i j) refl
  where
    go : (o : Option Obstacle) → obstacle g i j ≡ o → obstacle g i j ≡ none
    go none q = q
    go (some o) q = let m : Memᴰ (pair o i j) [] = rw e at (in_obstructed g o i j l k q) in elim m [ ]

pub obstructed_none : (g : Set) → ((i j : ℕ) → i < j → j < length g.kept → obstacle g i j ≡ none) → obstructed g ≡ []
obstructed_none g f = go (obstructed g) refl
  where
    go : (l : List Obstructed) → obstructed g ≡ l → obstructed g ≡ []
    go [] q = q
    go (x ∷ l) q =
        let m : Memᴰ x (obstructed g) = rw q (mathlib.Core.List.Memᴰ.head refl) in
        let w = of_obstructed g x m in
        absurd (never (sym (f x.earlier x.later w.0 w.1) ∙ w.2))

-- ---- the plan

abbrev planned : Set → List Obstructed → Plan
planned g [] = proposal (numbers g)
planned g (o ∷ os) = no_proposal (o ∷ os)

plan_so : (g : Set) → plan g ≡ planned g (obstructed g)
unfolding plan
plan_so g = go (obstructed g)
  where
    go : (l : List Obstructed) → elim l as (λ _. Plan) [ [] ↦ proposal (numbers g) | o ∷ os ↦ no_proposal (o ∷ os) ] ≡ planned g l
    go [] = refl
    go (o ∷ os) = refl

pub plan_some : (g : Set) (p : List ℕ) → plan g ≡ proposal p → (obstructed g ≡ []) × (p ≡ numbers g)
plan_some g p e = go (obstructed g) refl (sym (plan_so g) ∙ e)
  where
    go : (l : List Obstructed) → obstructed g ≡ l → planned g l ≡ proposal p → (obstructed g ≡ []) × (p ≡ numbers g)
    go [] q r = let z : p ≡ numbers g = cc in (q, z)
    go (o ∷ os) q r = let z : ◌≡◌ {A = ℕ} 0 1 = cc in absurd (omega arith)

pub some_plan : (g : Set) → obstructed g ≡ [] → plan g ≡ proposal (numbers g)
some_plan g e = plan_so g ∙ rw e refl

pub plan_none : (g : Set) (os : List Obstructed) → plan g ≡ no_proposal os → (os ≡ obstructed g) × ((x : Obstructed) × Memᴰ x (obstructed g))
plan_none g os e = go (obstructed g) refl (sym (plan_so g) ∙ e)
  where
    go : (l : List Obstructed) → obstructed g ≡ l → planned g l ≡ no_proposal os → (os ≡ obstructed g) × ((x : Obstructed) × Memᴰ x (obstructed g))
    go [] q r = let z : ◌≡◌ {A = ℕ} 0 1 = cc in absurd (omega arith)
    go (x ∷ l) q r = let z : x ∷ l ≡ os = cc in (sym z ∙ sym q, (x, rw q (mathlib.Core.List.Memᴰ.head refl)))

module _ (g : Set) (R : Ready g) where
  pub numbers_pass : obstructed g ≡ [] → Passes g (numbers g)
  numbers_pass e =
      let w = numbers_good g R in
      fine_passes g (numbers g) w.1 (λ i j l k. (rising_mends g R (numbers g) w.1 w.2 i j l k (none_obstructed g e i j l k)).1)

  -- the pairs of the list are broken under every proposal; every other pair is mended by the positions
  pub obstructed_breaks : (x : Obstructed) → Memᴰ x (obstructed g) → (p : List ℕ) → Proposable p → length p ≡ length g.kept → (b : Break) × Breaks g (proposed g p) b x.earlier x.later
  obstructed_breaks x m p W e =
      let w = of_obstructed g x m in
      let l = w.0 in
      let k = w.1 in
      let h : x.earlier < length g.kept = omega arith in
      hopeless_breaks g R x.earlier x.later h k (obstacle_hopeless g R x.earlier x.later h k x.why w.2) p W e

  pub positions_mend : (i j : ℕ) → i < j → j < length g.kept → obstacle g i j ≡ none → (p : List ℕ) × Proposable p × Mends g p i j
  positions_mend i j l k o =
      let n = length g.kept in
      (below n (position g), below_words n (position g) (λ k h. let q = position_word g R k h in omega arith), rising_mends g R (below n (position g)) (below_length n (position g)) (below_rises g (position g) (positions_rise g R)) i j l k o)

  pub obstructed_never : (x : Obstructed) → Memᴰ x (obstructed g) → (p : List ℕ) → Proposable p → Passes g p → ⊥
  obstructed_never x m p W P =
      let w = of_obstructed g x m in
      let b = obstructed_breaks x m p W P.right_length in
      passes_fine g p P x.earlier x.later w.0 w.1 b.0 b.1

-- Change request [11], computed: the check, the pairs that no proposal mends, the planner. (paper/specs/Priorities.antt says what a proposal must do;
-- proofs/Theorems.antt, that what is computed here does it.)
use Rattle.std.specs.declared.result.Result.TheVariants.{Err, Ok}
use Rattle.std.specs.Prelude.{Bool, ◌&&◌, ◌||◌, not, List, [], ◌∷◌, map, ℕ, zero, suc, ◌^◌, max, length, eqb, ltb, leb}
use Rattle.std.proofs.Math.Option.{Option, none, some}
use Rattle.paper.specs.declared.Break.{Break}
use Rattle.paper.specs.declared.Break.TheVariants.{Edge, Mask, Order}
use Rattle.plan.specs.Answered.{Judged}
use Rattle.plan.specs.declared.Fault.TheVariants.{Bad, WrongLength}
use Rattle.std.specs.Prelude.{if◌then◌else◌}
use Rattle.paper.specs.Words.{or_else, every, keep, below, joined, all_words}
use Rattle.paper.specs.Loading.{Set}
use Rattle.paper.specs.Rules.{may_overlap, total, rank, is_yes_told, is_subset_told, edge, masks, is_multi, all_rules}
use Rattle.paper.specs.Priorities.{proposed, rule, level, all_priorities}

-- ---- the check, computed

unfoldable pub has_edge : Set → ℕ → ℕ → Bool
has_edge h i j = not (is_multi h.flags) && edge (rule h i) (rule h j)

unfoldable pub has_mask : Set → ℕ → ℕ → Bool
has_mask h i j = not (is_multi h.flags) && (masks (rule h i) (rule h j) || masks (rule h j) (rule h i))

unfoldable pub loses_order : Set → Set → ℕ → ℕ → Bool
loses_order g h i j = (ltb (level g i) (level g j) && leb (level h j) (level h i)) || (ltb (level g j) (level g i) && leb (level h i) (level h j))

-- "which of the three it breaks, in that order"
unfoldable pub broken : Set → Set → ℕ → ℕ → Option Break
broken g h i j =
    if has_edge h i j then some Edge else
    (if has_mask h i j then some Mask else
    (if loses_order g h i j then some Order else none))

abbrev pub told : ℕ → ℕ → Option Break → Option Judged
told i j none = none
told i j (some b) = some (Err (Bad b i j))

-- the first that f finds among 0 .. n - 1
unfoldable pub first_of : {A : Type 0} → ℕ → (ℕ → Option A) → Option A
first_of zero f = none
first_of (suc n) f = elim (first_of n f) [ some a ↦ some a | none ↦ f n ]

unfoldable pub bad_pair : Set → Set → ℕ → ℕ → Option Judged
bad_pair g h i j = if ltb i j then told i j (broken g h i j) else none

-- "names the first bad pair in rule order": by the earlier rule, then by the later
unfoldable pub first_bad : Set → Set → Option Judged
first_bad g h = first_of (length g.kept) (λ i. first_of (length g.kept) (bad_pair g h i))

-- "A proposal whose length is not the number of rules is refused with 23."
unfoldable pub check : Set → List ℕ → Judged
check g p = if eqb (length p) (length g.kept) then or_else (first_bad g (proposed g p)) (Ok tt) else (Err (WrongLength (length p)))

-- ---- the pairs that no proposal mends: two rules alike, or a mask of the old priorities, whose order must stay

pub data Obstacle : Type 0 where
  by_mask : Obstacle
  by_sameness : Obstacle

unfoldable pub same_rules : Set → ℕ → ℕ → Bool
same_rules g i j = has_edge g i j && (is_subset_told (may_overlap (rule g i) (rule g j)) && eqb (total (rule g i)) (total (rule g j)))

unfoldable pub obstacle : Set → ℕ → ℕ → Option Obstacle
obstacle g i j = if has_mask g i j then some by_mask else (if same_rules g i j then some by_sameness else none)

pub record Obstructed : Type 0 where
  pub why : Obstacle
  pub earlier : ℕ
  pub later : ℕ

abbrev pub listed : ℕ → ℕ → Option Obstacle → List Obstructed
listed i j none = []
listed i j (some o) = record { why = o; earlier = i; later = j } ∷ []

unfoldable pub obstructed_at : Set → ℕ → ℕ → List Obstructed
obstructed_at g i j = if ltb i j then listed i j (obstacle g i j) else []

-- in rule order
unfoldable pub obstructed : Set → List Obstructed
obstructed g = joined (below (length g.kept) (λ i. joined (below (length g.kept) (obstructed_at g i))))

-- ---- the planner

-- rule i comes before rule j: by the old priority, then the total, then the later rule first
unfoldable pub before : Set → ℕ → ℕ → Bool
before g i j =
    ltb (level g i) (level g j) ||
    (eqb (level g i) (level g j) && (ltb (total (rule g i)) (total (rule g j)) || (eqb (total (rule g i)) (total (rule g j)) && ltb j i)))

-- the rules of which f holds; how many come before rule k
unfoldable pub those : Set → (ℕ → Bool) → List ℕ
those g f = keep f (below (length g.kept) (λ i. i))

unfoldable pub position : Set → ℕ → ℕ
position g k = length (those g (λ j. before g j k))

-- rule j comes before rule k, and k must stand higher: it did, or the two may overlap
unfoldable pub must_rise : Set → ℕ → ℕ → Bool
must_rise g j k = before g j k && (ltb (level g j) (level g k) || (not (is_multi g.flags) && is_yes_told (may_overlap (rule g j) (rule g k))))

unfoldable pub greatest : ℕ → List ℕ → ℕ
greatest m [] = m
greatest m (x ∷ xs) = max x (greatest m xs)

-- the greatest of the old priority and of one more than each that rule k must stand above. As many links as there are rules reach the bottom
-- (Theorems.antt, `raised_is`).
unfoldable pub raised_by : ℕ → Set → ℕ → ℕ
raised_by zero g k = level g k
raised_by (suc d) g k = greatest (level g k) (map (λ j. suc (raised_by d g j)) (those g (λ j. must_rise g j k)))

unfoldable pub raised : Set → ℕ → ℕ
raised g k = raised_by (length g.kept) g k

-- where some number would pass 64 bits, the rules are numbered from 0
unfoldable pub fits : Set → Bool
fits g = every (λ k. ltb (raised g k) (2 ^ 64)) (below (length g.kept) (λ k. k))

unfoldable pub numbers : Set → List ℕ
numbers g = below (length g.kept) (if fits g then (λ k. rank (raised g k)) else position g)

pub data Plan : Type 0 where
  proposal : List ℕ → Plan
  no_proposal : List Obstructed → Plan

-- "The planner gives a proposal that passes, and says that there is none exactly when no proposal passes."
unfoldable pub plan : Set → Plan
plan g = elim (obstructed g) [ [] ↦ proposal (numbers g) | o ∷ os ↦ no_proposal (o ∷ os) ]

unfoldable pub all_plans : Unit {0}
unfolding all_words all_rules all_priorities has_edge has_mask loses_order broken first_of bad_pair first_bad check same_rules obstacle obstructed_at obstructed before those position must_rise greatest raised_by raised fits numbers plan
all_plans = tt

-- What the contracts of the code cite. The set that lent words hold, as far as the check and the planner look at it: the first n rules, these flags.
use Rattle.std.specs.declared.result.Result.TheVariants.{Err, Ok}
use Rattle.std.specs.Prelude.{◌≡◌, List, [], ◌++◌, map, Bool, true, false, not, ℕ, suc, ◌<◌, length, get_or, drop, ltb}
use Rattle.std.proofs.Math.Option.{Option, none, some}
use Rattle.std.specs.Prelude.{if◌then◌else◌}
use Rattle.paper.specs.Words.{keep, below}
use Rattle.paper.specs.Numbers.{max_rules}
use Rattle.paper.specs.Loading.{Set}
use Rattle.rule_words.specs.Stored.{kept_first}
use Rattle.plan.specs.Answered.{Planned}
use Rattle.plan.specs.declared.Unplanned.TheVariants.{Nothing, TooManyRules, NoRoom}
use Rattle.plan.specs.declared.Hurdle.{Hurdle}
use Rattle.plan.specs.declared.Hurdle.TheVariants.{Free, Masked, Alike}
use Rattle.paper.specs.Priorities.{proposed, level}
use Rattle.plan.specs.Plans.{position, must_rise, greatest, raised, fits, Obstacle, by_mask, by_sameness, obstacle, Plan, proposal, no_proposal, plan}

unfoldable pub set_in : List ℕ → ℕ → ℕ → Set
set_in ws n flags = record { term = 0; flags = flags; sites = []; kept = kept_first ws n }

abbrev pub under : List ℕ → ℕ → ℕ → List ℕ → Set
under ws n flags ps = proposed (set_in ws n flags) ps

-- the greatest of the old priority of rule k and of one more than the heights, in a list, of those among the first j rules that it must stand above
unfoldable pub height_over : Set → List ℕ → ℕ → ℕ → ℕ
height_over g high k j = greatest (level g k) (map (λ i. suc (get_or high i 0)) (keep (λ i. must_rise g i k) (below j (λ i. i))))

-- a table of the rules' positions
abbrev pub Positions : Set → ℕ → List ℕ → Type 0
Positions g n pos = (k : ℕ) → k < n → get_or pos k 0 ≡ position g k

-- a table in which the first r rules, by position, have their heights, and each of these fits
pub record Stepped (g : Set) (n r : ℕ) (all : List ℕ) : Type 0 where
  pub long : length all ≡ max_rules
  pub done : (k : ℕ) → k < n → position g k < r → get_or all k 0 ≡ raised g k
  pub small : (k : ℕ) → k < n → position g k < r → raised g k < 18446744073709551616

-- and in the end
pub record HeightsAre (g : Set) (n : ℕ) (all : List ℕ) : Type 0 where
  pub done : (k : ℕ) → k < n → get_or all k 0 ≡ raised g k
  pub fit : fits g ≡ true

-- ---- obstructed pairs
abbrev pub hurdle : Option Obstacle → Hurdle
hurdle none = Free
hurdle (some by_mask) = Masked
hurdle (some by_sameness) = Alike

abbrev pub is_free : Hurdle → Bool
is_free Free = true
is_free Masked = false
is_free Alike = false

abbrev pub obstructs : Set → ℕ → ℕ → Bool
obstructs g i j = not (is_free (hurdle (obstacle g i j)))

pub record BlockedWith (g : Set) (n i : ℕ) (r : Bool) : Type 0 where
  pub all_free : r ≡ false → (j : ℕ) → i < j → j < n → obstructs g i j ≡ false
  pub some_not : r ≡ true → (j : ℕ) × (i < j) × (j < n) × (obstructs g i j ≡ true)

-- ---- what the planner answers, and the lent words after it

abbrev pub plan_answer : Plan → Planned
plan_answer (proposal p) = Ok tt
plan_answer (no_proposal os) = Err Nothing

abbrev pub plan_over : Plan → List ℕ → List ℕ
plan_over (proposal p) m = p ++ drop (length p) m
plan_over (no_proposal os) m = m

unfoldable pub planned : Set → List ℕ → Planned
planned g m =
    if ltb max_rules (length g.kept) then (Err TooManyRules) else (if ltb (length m) (length g.kept) then (Err NoRoom) else plan_answer (plan g))

-- a proposal is written from the first word on; without one nothing is
unfoldable pub proposal_after : Set → List ℕ → List ℕ
proposal_after g m = if ltb max_rules (length g.kept) then m else (if ltb (length m) (length g.kept) then m else plan_over (plan g) m)

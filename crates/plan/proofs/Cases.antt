-- Worked cases of [11].
use mathlib.Core.Path.{◌≡◌, refl}
use mathlib.Core.List.{List, [], ◌∷◌}
use Prim.Native.Nat.{ℕ}
use mathlib.Core.Bool.{true}
use Rattle.std.specs.declared.result.Result.TheVariants.{Err, Ok}
use Rattle.paper.specs.declared.Constraint.TheVariants.{ConstBool, ConstInt, ConstPrim}
use Rattle.paper.specs.Loading.{Kept, Set, Constraints}
use Rattle.paper.specs.declared.Break.TheVariants.{Edge, Order}
use Rattle.plan.specs.declared.Fault.TheVariants.{Bad, WrongLength}
use Rattle.plan.specs.Plans.{proposal, no_proposal, by_mask, by_sameness, check, plan, all_plans}

abbrev of_rules : ℕ → List Kept → Set
of_rules flags ks = record { term = 7; flags = flags; sites = []; kept = ks }

abbrev a_rule : ℕ → ℕ → Constraints → Kept
a_rule place priority cs = record { place = place; priority = priority; constraints = cs; equals = [] }

-- three rules of priority 0: no items; 0 is 5; 1 is 5
abbrev three : Set
three = of_rules 0 (a_rule 10 0 [] ∷ a_rule 20 0 ((0, ConstPrim 5) ∷ []) ∷ a_rule 30 0 ((1, ConstPrim 5) ∷ []) ∷ [])

pub three_plan : plan three ≡ proposal (0 ∷ 2 ∷ 1 ∷ [])
unfolding all_plans
three_plan = refl

pub three_check : check three (0 ∷ 1 ∷ 1 ∷ []) ≡ Err (Bad Edge 1 2)
unfolding all_plans
three_check = refl

-- 01's own sheet: the first masks the second
pub masked_plan : plan (of_rules 0 (a_rule 10 1 ((0, ConstInt 3 0 5) ∷ []) ∷ a_rule 20 0 ((0, ConstInt 3 0 5) ∷ (1, ConstBool 1 true) ∷ []) ∷ [])) ≡ no_proposal (record { why = by_mask; earlier = 0; later = 1 } ∷ [])
unfolding all_plans
masked_plan = refl

-- two rules without items
pub same_plan : plan (of_rules 0 (a_rule 1 0 [] ∷ a_rule 2 0 [] ∷ [])) ≡ no_proposal (record { why = by_sameness; earlier = 0; later = 1 } ∷ [])
unfolding all_plans
same_plan = refl

-- reading 1: 0 is 5 at 0, 0 is 6 at 1, both proposed 0
pub reading_1 : check (of_rules 0 (a_rule 1 0 ((0, ConstPrim 5) ∷ []) ∷ a_rule 2 1 ((0, ConstPrim 6) ∷ []) ∷ [])) (0 ∷ 0 ∷ []) ≡ Err (Bad Order 0 1)
unfolding all_plans
reading_1 = refl

-- reading 2: the bad pairs are the first and the fourth, the second and the third
pub reading_2 : check (of_rules 0 (a_rule 4 0 ((0, ConstPrim 5) ∷ []) ∷ a_rule 3 0 ((0, ConstPrim 6) ∷ []) ∷ a_rule 2 0 ((0, ConstPrim 6) ∷ []) ∷ a_rule 1 0 ((0, ConstPrim 5) ∷ []) ∷ [])) (0 ∷ 0 ∷ 0 ∷ 0 ∷ []) ≡ Err (Bad Edge 0 3)
unfolding all_plans
reading_2 = refl

-- reading 3: no items at 0, 0 is 5 at 1, both proposed 0: an edge before an order
pub reading_3 : check (of_rules 0 (a_rule 1 0 [] ∷ a_rule 2 1 ((0, ConstPrim 5) ∷ []) ∷ [])) (0 ∷ 0 ∷ []) ≡ Err (Bad Edge 0 1)
unfolding all_plans
reading_3 = refl

-- reading 4: a multi term, one kept rule, two priorities
pub reading_4 : check (of_rules 1 (a_rule 1 0 [] ∷ [])) (0 ∷ 0 ∷ []) ≡ Err (WrongLength 2)
unfolding all_plans
reading_4 = refl

-- reading 5: a multi term keeps its priorities
pub reading_5 : plan (of_rules 1 (a_rule 1 0 [] ∷ a_rule 2 0 [] ∷ [])) ≡ proposal (0 ∷ 0 ∷ [])
unfolding all_plans
reading_5 = refl

-- reading 8: the ends of the numbers
pub reading_8 : plan (of_rules 0 (a_rule 1 0x8000000000000000 ((0, ConstPrim 6) ∷ []) ∷ a_rule 2 0x7FFFFFFFFFFFFFFF ((0, ConstPrim 5) ∷ []) ∷ a_rule 3 0x7FFFFFFFFFFFFFFF ((1, ConstPrim 5) ∷ []) ∷ [])) ≡ proposal (0 ∷ 2 ∷ 1 ∷ [])
unfolding all_plans
reading_8 = refl

-- priorities below 0 stay below 0
pub negative : plan (of_rules 0 (a_rule 1 0xFFFFFFFFFFFFFFFE [] ∷ a_rule 2 0xFFFFFFFFFFFFFFFE ((0, ConstPrim 5) ∷ []) ∷ [])) ≡ proposal (0xFFFFFFFFFFFFFFFE ∷ 0xFFFFFFFFFFFFFFFF ∷ [])
unfolding all_plans
negative = refl

-- reading 9: a set without rules
pub reading_9 : check (of_rules 0 []) [] ≡ Ok tt
unfolding all_plans
reading_9 = refl

pub reading_9_plan : plan (of_rules 0 []) ≡ proposal []
unfolding all_plans
reading_9_plan = refl

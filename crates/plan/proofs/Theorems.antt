-- Change request [11]: the theorems. The check says what 02 says; the planner gives a proposal that passes, and none only where none passes.
use mathlib.Core.Path.{◌≡◌, refl}
use mathlib.Core.Bool.{true}
use mathlib.Core.Option.{Option, none, some}
use mathlib.Core.Logic.{◌↔◌}
use mathlib.Core.List.{List, [], map, Memᴰ}
use Prim.Native.Nat.{ℕ, suc, ◌<◌}
use lib.ListN.{length}
use Rattle.std.specs.declared.result.Result.TheVariants.{Err, Ok}
use Rattle.paper.specs.Loading.{Kept, Set}
use Rattle.paper.specs.Rules.{may_overlap, is_multi, report}
use Rattle.paper.proofs.Tables.{Rising}
use Rattle.paper.specs.declared.Break.{Break}
use Rattle.plan.specs.declared.Fault.TheVariants.{Bad, WrongLength}
use Rattle.paper.specs.Priorities.{Proposable, proposed, old_priorities, level, KeepsOrder, Passes, FirstBad, Mends}
use Rattle.plan.specs.Plans.{check, Obstacle, obstacle, Obstructed, obstructed, those, must_rise, greatest, raised, Plan, proposal, no_proposal, plan}
use Rattle.plan.proofs.Readiness.{Ready}
use Rattle.plan.proofs.Checked.{check_passes, check_first, check_length}
use Rattle.plan.proofs.Alike.{overlap_both}
use Rattle.plan.proofs.Ordered.{raised_so}
use Rattle.plan.proofs.Planning.{pair, in_obstructed, plan_some, plan_none, numbers_good, numbers_pass, obstructed_breaks, positions_mend, obstructed_never}
use Rattle.plan.proofs.Reported.{report_none}
use Rattle.plan.proofs.Staying.{rising_still, passing_stays, multi_passes, plan_again}

-- ---- the check, of every set and every list of numbers

-- "The check accepts exactly when the set under the proposed priorities has no overlap edge and no mask, and every pair of rules whose old priorities
-- differed keeps its order."
pub accepted_exactly : (g : Set) (p : List ℕ) → (check g p ≡ Ok tt) ↔ Passes g p
accepted_exactly = check_passes

-- "Otherwise it names the first bad pair in rule order and which of the three it breaks, in that order."
pub bad_exactly : (g : Set) (p : List ℕ) (b : Break) (i j : ℕ) → (check g p ≡ Err (Bad b i j)) ↔ ((length p ≡ length g.kept) × FirstBad g (proposed g p) b i j)
bad_exactly = check_first

-- "A proposal whose length is not the number of rules is refused with 23."
pub refused_exactly : (g : Set) (p : List ℕ) (n : ℕ) → (check g p ≡ Err (WrongLength n)) ↔ ((n ≡ length p) × (length p ≡ length g.kept → ⊥))
refused_exactly = check_length

-- ---- what the planner rests on

-- the overlap answer is the same from either side
pub answer_both : (a b : Kept) → Rising 0 a.constraints → Rising 0 b.constraints → may_overlap a b ≡ may_overlap b a
answer_both = overlap_both

-- the number of rule k: the greatest of its old priority and of one more than each that it must stand above
pub raised_is : (g : Set) (k : ℕ) → k < length g.kept → raised g k ≡ greatest (level g k) (map (λ j. suc (raised g j)) (those g (λ j. must_rise g j k)))
raised_is = raised_so

-- By the report: that of the set under the proposed priorities has no 12 and no 13.
pub accepted_by_report : (g : Set) → Ready g → (p : List ℕ) → (check g p ≡ Ok tt) ↔ ((length p ≡ length g.kept) × (report (proposed g p) ≡ []) × KeepsOrder g (proposed g p))
accepted_by_report g R p =
    let r = report_none (proposed g p) (rising_still g p R.rising) in (
      λ e. let P = (check_passes g p).0 e in (P.right_length, r.1 (P.no_edge, P.no_mask), P.keeps_order),
      λ w. let c = r.0 w.1 in (check_passes g p).1 (record { right_length = w.0; no_edge = c.0; no_mask = c.1; keeps_order = w.2 }),
    )

-- ---- the planner, of every set as calls and sheets make it

module _ (g : Set) (R : Ready g) where
  -- "The planner gives a proposal that passes,
  pub plan_passes : (p : List ℕ) → plan g ≡ proposal p → Proposable p × Passes g p
  plan_passes p e = let w = plan_some g p e in let q = w.1 in rw q ((numbers_good g R).0, numbers_pass g R w.0)

  -- and says that there is none exactly when no proposal passes."
  pub none_exactly : ((os : List Obstructed) × (plan g ≡ no_proposal os)) ↔ ((p : List ℕ) → Proposable p → Passes g p → ⊥)
  none_exactly = (λ (os, e). let w = plan_none g os e in obstructed_never g R w.1.0 w.1.1, λ f. go f (plan g) refl)
    where
      go : ((p : List ℕ) → Proposable p → Passes g p → ⊥) → (a : Plan) → plan g ≡ a → (os : List Obstructed) × (plan g ≡ no_proposal os)
      go f (proposal p) e = let w = plan_passes p e in absurd (f p w.0 w.1)
      go f (no_proposal os) e = (os, e)

  -- told are then the obstructed pairs, and these are exactly the pairs that no proposal mends
  pub told_exactly : (os : List Obstructed) → plan g ≡ no_proposal os → os ≡ obstructed g
  told_exactly os e = (plan_none g os e).0

  pub obstructed_exactly : (i j : ℕ) → i < j → j < length g.kept → ((o : Obstacle) × Memᴰ (pair o i j) (obstructed g)) ↔ ((p : List ℕ) → Proposable p → Mends g p i j → ⊥)
  obstructed_exactly i j l k = (λ (o, m) p W q. let b = obstructed_breaks g R (pair o i j) m p W q.0 in q.1 b.0 b.1, λ f. go f (obstacle g i j) refl)
    where
      go : ((p : List ℕ) → Proposable p → Mends g p i j → ⊥) → (o : Option Obstacle) → obstacle g i j ≡ o → (o : Obstacle) × Memᴰ (pair o i j) (obstructed g)
      go f none e = let w = positions_mend g R i j l k e in absurd (f w.0 w.1 w.2)
      go f (some o) e = (o, in_obstructed g o i j l k e)

  -- a set that passes keeps its priorities
  pub old_stays : check g (old_priorities g) ≡ Ok tt → plan g ≡ proposal (old_priorities g)
  old_stays e = passing_stays g R ((check_passes g (old_priorities g)).0 e)

  -- "Multi terms are accepted whenever the old order is kept": there the plan is the old priorities
  pub multi_stays : is_multi g.flags ≡ true → plan g ≡ proposal (old_priorities g)
  multi_stays m = passing_stays g R (multi_passes g m)

  -- a second plan changes nothing
  pub plan_twice : (p : List ℕ) → plan g ≡ proposal p → plan (proposed g p) ≡ proposal p
  plan_twice p e = let w = plan_passes p e in plan_again g R p w.0 w.1

  -- the planner's answer is always accepted by the check
  pub plan_accepted : (p : List ℕ) → plan g ≡ proposal p → check g p ≡ Ok tt
  plan_accepted p e = (check_passes g p).1 (plan_passes p e).1

-- The theorems of Theorems.antt, of the functions: `check_plan` answers `check` of the set that the words hold, `plan` answers `planned` and leaves
-- `proposal_after` in the lent words, `obstacle` answers `hurdle`: their contracts say this. Of words that hold a ready set (crate meaning_plan: words that
-- the calls made are such), and lent words m, one a rule or more.
use mathlib.Core.Path.{◌≡◌, refl, sym, ap, ◌∙◌}
use mathlib.Core.Option.{Option, none, some}
use mathlib.Core.Logic.{◌↔◌}
use mathlib.Core.List.{List, [], Memᴰ}
use Prim.Native.Nat.{ℕ, ◌≤◌, ◌<◌}
use native.Mathlib.Omega.{arith}
use lib.ListN.{length, take, drop}
use lib.Seq.{take_at}
use borrow.Author.Tests.{le-ltb}
use Rattle.std.specs.declared.result.Result.TheVariants.{Err, Ok}
use Rattle.paper.specs.Numbers.{max_rules}
use Rattle.paper.specs.Loading.{Set}
use Rattle.paper.specs.Rules.{report}
use Rattle.paper.specs.Priorities.{Proposable, proposed, old_priorities, Passes, Mends}
use Rattle.plan.specs.Answered.{Planned}
use Rattle.plan.specs.declared.Unplanned.TheVariants.{Nothing}
use Rattle.plan.specs.declared.Hurdle.TheVariants.{Free}
use Rattle.plan.specs.Plans.{check, Obstacle, by_mask, by_sameness, obstacle, Obstructed, obstructed, Plan, proposal, no_proposal, plan}
use Rattle.plan.specs.Lent.{hurdle, plan_answer, plan_over, planned, proposal_after}
use Rattle.plan.proofs.Readiness.{Ready}
use Rattle.plan.proofs.Planning.{pair, of_obstructed, in_obstructed}
use Rattle.plan.proofs.Theorems.{accepted_by_report, plan_passes, plan_accepted, none_exactly, obstructed_exactly, old_stays}

module _ (g : Set) (R : Ready g) (m : List ℕ) (room : length g.kept ≤ length m) where
  planned_so : planned g m ≡ plan_answer (plan g)
  unfolding planned
  planned_so = let t = le-ltb max_rules (length g.kept) R.few in let u = le-ltb (length m) (length g.kept) room in rw (t, u) refl

  after_so : proposal_after g m ≡ plan_over (plan g) m
  unfolding proposal_after
  after_so = let t = le-ltb max_rules (length g.kept) R.few in let u = le-ltb (length m) (length g.kept) room in rw (t, u) refl

  apart_answers : ◌≡◌ {A = Planned} (Err Nothing) (Ok tt) → ⊥
  apart_answers e = let z : ◌≡◌ {A = ℕ} 0 1 = cc in absurd (omega arith)

  -- what the lent words hold of a proposal
  pub written : (p : List ℕ) → plan g ≡ proposal p → length p ≡ length g.kept → take (length g.kept) (proposal_after g m) ≡ p
  written p e l = ap (take (length g.kept)) (after_so ∙ ap (λ a. plan_over a m) e) ∙ take_at p (drop (length p) m) (length g.kept) l

  of_proposed : planned g m ≡ Ok tt → (p : List ℕ) × (plan g ≡ proposal p)
  of_proposed e = go (plan g) refl
    where
      go : (a : Plan) → plan g ≡ a → (p : List ℕ) × (plan g ≡ proposal p)
      go (proposal p) q = (p, q)
      go (no_proposal os) q = absurd (apart_answers (sym (ap plan_answer q) ∙ (sym planned_so ∙ e)))

  -- "The planner gives a proposal that passes,": the check accepts it
  pub proposed_passes : planned g m ≡ Ok tt →
      let p = take (length g.kept) (proposal_after g m) in Proposable p × Passes g p × (check g p ≡ Ok tt) × (report (proposed g p) ≡ [])
  proposed_passes e =
      let w = of_proposed e in
      let v = plan_passes g R w.0 w.1 in
      let a = plan_accepted g R w.0 w.1 in
      let q = written w.0 w.1 v.1.right_length in
      rw q (v.0, v.1, a, ((accepted_by_report g R w.0).0 a).1)

  -- "and says that there is none exactly when no proposal passes."
  pub nothing_exactly : (planned g m ≡ Err Nothing) ↔ ((p : List ℕ) → Proposable p → Passes g p → ⊥)
  nothing_exactly = (λ e. (none_exactly g R).0 (of_nothing e), λ f. let w = (none_exactly g R).1 f in planned_so ∙ ap plan_answer w.1)
    where
      of_nothing : planned g m ≡ Err Nothing → (os : List Obstructed) × (plan g ≡ no_proposal os)
      of_nothing e = go (plan g) refl
        where
          go : (a : Plan) → plan g ≡ a → (os : List Obstructed) × (plan g ≡ no_proposal os)
          go (proposal p) q = absurd (apart_answers (sym e ∙ (planned_so ∙ ap plan_answer q)))
          go (no_proposal os) q = (os, q)

  -- without a proposal the lent words stay
  pub nothing_changes : planned g m ≡ Err Nothing → proposal_after g m ≡ m
  nothing_changes e = go (plan g) refl
    where
      go : (a : Plan) → plan g ≡ a → proposal_after g m ≡ m
      go (proposal p) q = absurd (apart_answers (sym e ∙ (planned_so ∙ ap plan_answer q)))
      go (no_proposal os) q = after_so ∙ ap (λ a. plan_over a m) q

  -- a set that passes keeps its priorities
  pub passing_keeps : check g (old_priorities g) ≡ Ok tt → (planned g m ≡ Ok tt) × (take (length g.kept) (proposal_after g m) ≡ old_priorities g)
  passing_keeps e =
      let q = old_stays g R e in
      let v = plan_passes g R (old_priorities g) q in
      (planned_so ∙ ap plan_answer q, written (old_priorities g) q v.1.right_length)

-- two rules are told exactly if no proposal mends them
pub hurdle_exactly : (g : Set) → Ready g → (i j : ℕ) → i < j → j < length g.kept →
    (hurdle (obstacle g i j) ≡ Free → ⊥) ↔ ((p : List ℕ) → Proposable p → Mends g p i j → ⊥)
hurdle_exactly g R i j l k = (
  λ f. (obstructed_exactly g R i j l k).0 (go f (obstacle g i j) refl),
  λ f e. let w = (obstructed_exactly g R i j l k).1 f in let v = of_obstructed g _ w.1 in told w.0 (sym (ap hurdle v.2) ∙ e),
)
  where
    told : (o : Obstacle) → hurdle (some o) ≡ Free → ⊥
    told by_mask e = let z : ◌≡◌ {A = ℕ} 0 1 = cc in absurd (omega arith)
    told by_sameness e = let z : ◌≡◌ {A = ℕ} 0 1 = cc in absurd (omega arith)

    go : (hurdle (obstacle g i j) ≡ Free → ⊥) → (o : Option Obstacle) → obstacle g i j ≡ o → (o : Obstacle) × Memᴰ (pair o i j) (obstructed g)
    go f none e = absurd (f (ap hurdle e))
    go f (some o) e = (o, in_obstructed g o i j l k e)

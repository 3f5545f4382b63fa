-- Change request [11]: what the answers of `check_plan`, `plan` and `obstacle` mean. Their contracts say: `check_plan` answers `check` of the set h that the
-- words hold; `plan` answers `planned h m` and leaves `proposal_after h m` in the lent words m; `obstacle` answers `hurdle` of two rules of h.
-- paper/specs/Priorities.antt has the words of this page. The words hold the kept rules of a set that calls made, n of them, under any flags.
use Rattle.std.specs.declared.result.Result.TheVariants.{Err, Ok}
use Rattle.std.specs.Prelude.{◌≡◌, ◌↔◌, List, [], ℕ, ◌≤◌, ◌<◌, length, take}
use Rattle.paper.specs.declared.Break.{Break}
use Rattle.paper.specs.Loading.{Set, Made}
use Rattle.paper.specs.Rules.{is_multi, report}
use Rattle.paper.specs.Priorities.{Proposable, proposed, old_priorities, KeepsOrder, Passes, FirstBad, Mends}
use Rattle.rule_words.specs.Stored.{kept_first}
use Rattle.plan.specs.declared.Fault.TheVariants.{Bad, WrongLength}
use Rattle.plan.specs.declared.Unplanned.TheVariants.{Nothing}
use Rattle.plan.specs.declared.Hurdle.TheVariants.{Free}
use Rattle.plan.specs.Plans.{check, obstacle, proposal, plan}
use Rattle.plan.specs.Lent.{set_in, hurdle, planned, proposal_after}
use Rattle.plan.proofs.Theorems as T
use Rattle.plan.proofs.Shipped as S
use Rattle.meaning_plan.specs.Made.{ready_in}

-- ---- the check, whatever the words hold
module _ (ws : List ℕ) (n flags : ℕ) (p : List ℕ) where
  -- "The check accepts exactly when the set under the proposed priorities has no overlap edge and no mask, and every pair of rules whose old priorities
  -- differed keeps its order."
  pub accepted_exactly : (check (set_in ws n flags) p ≡ Ok tt) ↔ Passes (set_in ws n flags) p
  accepted_exactly = T.accepted_exactly (set_in ws n flags) p

  -- "Otherwise it names the first bad pair in rule order and which of the three it breaks, in that order."
  pub bad_exactly : (b : Break) (i j : ℕ) → (check (set_in ws n flags) p ≡ Err (Bad b i j)) ↔
      ((length p ≡ length (set_in ws n flags).kept) × FirstBad (set_in ws n flags) (proposed (set_in ws n flags) p) b i j)
  bad_exactly = T.bad_exactly (set_in ws n flags) p

  -- "A proposal whose length is not the number of rules is refused with 23."
  pub refused_exactly : (k : ℕ) → (check (set_in ws n flags) p ≡ Err (WrongLength k)) ↔ ((k ≡ length p) × (length p ≡ length (set_in ws n flags).kept → ⊥))
  refused_exactly = T.refused_exactly (set_in ws n flags) p

-- ---- words that hold the rules of a set that calls made
module _ (g : Set) (M : Made g) (ws : List ℕ) (n flags : ℕ) (held : g.kept ≡ kept_first ws n) where
  -- By the report: that of the set under accepted priorities has no 12 and no 13.
  pub accepted_report : (p : List ℕ) → (check (set_in ws n flags) p ≡ Ok tt) ↔
      ((length p ≡ length (set_in ws n flags).kept) × (report (proposed (set_in ws n flags) p) ≡ []) ×
      KeepsOrder (set_in ws n flags) (proposed (set_in ws n flags) p))
  accepted_report = T.accepted_by_report (set_in ws n flags) (ready_in M ws n flags held)

  -- The pairs that are told are exactly those that no proposal mends.
  pub told_exactly : (i j : ℕ) → i < j → j < length (set_in ws n flags).kept →
      (hurdle (obstacle (set_in ws n flags) i j) ≡ Free → ⊥) ↔ ((p : List ℕ) → Proposable p → Mends (set_in ws n flags) p i j → ⊥)
  told_exactly = S.hurdle_exactly (set_in ws n flags) (ready_in M ws n flags held)

  module _ (m : List ℕ) (room : length (set_in ws n flags).kept ≤ length m) where
    abbrev pub left : List ℕ
    left = take (length (set_in ws n flags).kept) (proposal_after (set_in ws n flags) m)

    -- "The planner gives a proposal that passes,": the check accepts it, and the report under it has no 12 and no 13,
    pub proposed_passes : planned (set_in ws n flags) m ≡ Ok tt →
        Proposable left × Passes (set_in ws n flags) left × (check (set_in ws n flags) left ≡ Ok tt) × (report (proposed (set_in ws n flags) left) ≡ [])
    proposed_passes = S.proposed_passes (set_in ws n flags) (ready_in M ws n flags held) m room

    -- "and says that there is none exactly when no proposal passes.": no proposal of 64-bit priorities, whoever made it
    pub nothing_exactly : (planned (set_in ws n flags) m ≡ Err Nothing) ↔ ((p : List ℕ) → Proposable p → Passes (set_in ws n flags) p → ⊥)
    nothing_exactly = S.nothing_exactly (set_in ws n flags) (ready_in M ws n flags held) m room

    -- a set that passes keeps its priorities
    pub passing_keeps : check (set_in ws n flags) (old_priorities (set_in ws n flags)) ≡ Ok tt →
        (planned (set_in ws n flags) m ≡ Ok tt) × (left ≡ old_priorities (set_in ws n flags))
    passing_keeps = S.passing_keeps (set_in ws n flags) (ready_in M ws n flags held) m room

  -- a second plan changes nothing
  pub plan_twice : (p : List ℕ) → plan (set_in ws n flags) ≡ proposal p → plan (proposed (set_in ws n flags) p) ≡ proposal p
  plan_twice = T.plan_twice (set_in ws n flags) (ready_in M ws n flags held)

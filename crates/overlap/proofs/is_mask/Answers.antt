use borrow.Author.Tests.{le-ltb}
use lib.Dec.{leb}
use mathlib.Core.Path.{refl, sym, ap, ◌∙◌}
use native.Mathlib.Omega.{arith}
use Rattle.paper.specs.declared.Overlap.TheVariants.{Subset}
use Rattle.overlap.proofs.BesideLaws.{never}
use Rattle.overlap.proofs.PriorityLaws.{mask_low, mask_so, no_mask}
use Rattle.overlap.proofs.is_mask.Goals as goal
use Rattle.overlap.proofs.is_mask.Goals.{then-rank+in-Subset, then-rank+in_default, else-rank}

pub returns-then-matches : goal.returns-then-matches
returns-then-matches c = elim c.if-rank.branch [
  | then-rank+in-Subset w ↦ ap (λ x. leb x c.total_constraints-then-matches.result) c.total_constraints.ensures ∙ (ap (leb _) c.total_constraints-then-matches.ensures ∙ mask_so _ _ _ _ _ _ _ c.start.ensures.value c.start-2.ensures.value c.rank.ensures c.rank-2.ensures (omega arith) (omega arith) w.if-rank.true w.may_overlap.result Subset w.may_overlap.ensures w.in-Subset.is)
  | then-rank+in_default w ↦ never (sym w.value-is ∙ c.if-matches.true)
  | else-rank w ↦ never (sym (w.value-is ∙ le-ltb _ _ w.if-rank.false) ∙ c.if-matches.true)
]

pub returns-else-matches : goal.returns-else-matches
returns-else-matches c = elim c.if-rank.branch [
  | then-rank+in-Subset w ↦ never (sym c.if-matches.false ∙ w.value-is)
  | then-rank+in_default w ↦ w.value-is ∙ (no_mask w.may_overlap.result _ w.in_default.not-Subset ∙ mask_so _ _ _ _ _ _ _ c.start.ensures.value c.start-2.ensures.value c.rank.ensures c.rank-2.ensures (omega arith) (omega arith) w.if-rank.true w.may_overlap.result _ w.may_overlap.ensures refl)
  | else-rank w ↦ w.value-is ∙ le-ltb _ _ w.if-rank.false ∙ mask_low _ _ _ _ _ _ _ c.start.ensures.value c.start-2.ensures.value c.rank.ensures c.rank-2.ensures (omega arith) (omega arith) w.if-rank.false
]

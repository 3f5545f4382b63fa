use mathlib.Core.Path.{refl, ◌∙◌}
use borrow.Author.Tests.{ne_eqb}
use native.Mathlib.Omega.{arith}
use Rattle.paper.specs.declared.Overlap.TheVariants.{No}
use Rattle.overlap.proofs.PriorityLaws.{edge_other, edge_so, not_no}
use Rattle.overlap.proofs.is_edge.Goals as goal
use Rattle.overlap.proofs.is_edge.Goals.{in-No, in_default}

pub returns-after-matches : goal.returns-after-matches
returns-after-matches c =
    let so = edge_so _ _ _ _ _ _ _ c.start.ensures.value c.start-2.ensures.value c.rank.ensures c.rank-2.ensures (omega arith) (omega arith) c.if-rank.true c.may_overlap.result in
    elim c.match-matches.branch [
      | in-No w ↦ rw w.matches-is (so No c.may_overlap.ensures w.in-No.is)
      | in_default w ↦ rw w.matches-is (not_no c.may_overlap.result w.in_default.not-No ∙ so c.may_overlap.result c.may_overlap.ensures refl)
    ]

pub returns-else-rank : goal.returns-else-rank
returns-else-rank c = rw (ne_eqb _ _ c.if-rank.false) (edge_other _ _ _ _ _ _ _ c.start.ensures.value c.start-2.ensures.value c.rank.ensures c.rank-2.ensures (omega arith) (omega arith) c.if-rank.false)

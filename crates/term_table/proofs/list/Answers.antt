use native.Mathlib.Omega.{arith}
use mathlib.Core.Logic.{inl, inr}
use Rattle.term_table.specs.Loops.{list_to}
use Rattle.term_table.proofs.Lists.{listing_none, listing_turn, listing_done}
use Rattle.term_table.proofs.list.Goals as goal
use Rattle.term_table.proofs.list.Goals.{then-listable, else-listable}

pub loop-i-init : goal.loop-i-init
loop-i-init c = listing_none _

pub loop-i-preserved : goal.loop-i-preserved
loop-i-preserved c = listing_turn _ _ _ _ c.loop-i.invariant (omega arith) c.listable.ensures
    (elim c.if-listable.branch [ then-listable w ↦ inl (w.if-listable.true, w.found-is, w.n-is) | else-listable w ↦ inr (w.if-listable.false, w.found-is, w.n-is) ])

pub returns : goal.returns
unfolding list_to
returns c = listing_done _ _ _ _ (omega arith) c.loop-i.invariant

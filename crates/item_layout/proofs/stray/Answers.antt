use mathlib.Core.Path.{sym, ◌∙◌}
use Rattle.item_layout.proofs.Laying.{walk_begins, walk_stops, walk_goes, walk_ends}
use Rattle.item_layout.proofs.stray.Goals as goal

pub loop-k-init : goal.loop-k-init
loop-k-init c = walk_begins _ _

pub returns-then-not-laid_out : goal.returns-then-not-laid_out
returns-then-not-laid_out c = walk_stops _ _ _ c.loop-k-test.true c.loop-k.invariant (sym c.laid_out.ensures ∙ c.if-not-laid_out.true)

pub loop-k-preserved : goal.loop-k-preserved
loop-k-preserved c = walk_goes _ _ _ c.loop-k-test.true c.loop-k.invariant (sym c.laid_out.ensures ∙ c.if-not-laid_out.false)

pub returns : goal.returns
returns c = walk_ends _ _ c.loop-k.k c.loop-k-test.false c.loop-k.auto.k-end c.loop-k.invariant

use mathlib.Core.Path.{refl}
use Rattle.term_table.specs.Loops.{join_to}
use Rattle.term_table.proofs.Turns.{join_turn}
use Rattle.term_table.proofs.join_all.Goals as goal

pub loop-i-init : goal.loop-i-init
unfolding join_to
loop-i-init c = refl

pub loop-i-preserved : goal.loop-i-preserved
loop-i-preserved c = join_turn _ _ _ _ _ _ _ _ c.loop-i.invariant c.join_by.ensures

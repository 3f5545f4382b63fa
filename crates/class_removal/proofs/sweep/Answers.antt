-- `class_removal::sweep` meets its contract: the sites below y are swept. Assumes nothing.
use native.Mathlib.Omega.{arith}
use Rattle.class_removal.proofs.Taking.{sweep_within, swept_room, sweep_start, sweep_turn}
use Rattle.class_removal.proofs.sweep.Goals as goal

pub loop-y-init : goal.loop-y-init
loop-y-init c = sweep_start _ _ _

pub note-n-requires : goal.note-n-requires
note-n-requires c = swept_room c.loop-y.invariant (sweep_within _ _ _) (omega arith)

pub loop-y-preserved : goal.loop-y-preserved
loop-y-preserved c = sweep_turn _ _ _ _ _ _ _ (omega arith) _ _ _ _ c.loop-y.invariant c.flatten_in-f.ensures c.note-n.ensures

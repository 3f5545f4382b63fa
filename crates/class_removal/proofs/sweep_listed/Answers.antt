-- `class_removal::sweep_listed` meets its contract: the first of the listed sites are swept. Assumes nothing.
use native.Mathlib.Omega.{arith}
use Rattle.class_removal.proofs.Taking.{listed_within, swept_room, listed_start, listed_turn}
use Rattle.class_removal.proofs.sweep_listed.Goals as goal

pub loop-y-init : goal.loop-y-init
loop-y-init c = listed_start _ _ _ _

pub note-n-requires : goal.note-n-requires
note-n-requires c = swept_room c.loop-y.invariant (listed_within _ _ _ _) (omega arith)

pub loop-y-preserved : goal.loop-y-preserved
loop-y-preserved c = listed_turn _ _ _ _ _ _ _ (omega arith) _ _ _ _ _ c.loop-y.invariant c.flatten_in-f.ensures c.note-n.ensures

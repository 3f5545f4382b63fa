use Prim.Native.Nat.{◌/◌}
use mathlib.Core.Path.{◌≡◌, refl}
use native.Mathlib.Omega.{arith}
use Rattle.term_table.specs.Table.{terms}
use Rattle.term_table.specs.Loops.{reach_to}
use Rattle.term_table.proofs.Turns.{reach_turn}
use Rattle.term_table.proofs.Closing.{reach_closes}
use Rattle.term_table.proofs.close.Goals as goal

pub loop-h-init : goal.loop-h-init
unfolding reach_to
loop-h-init c = refl

pub loop-h-preserved : goal.loop-h-preserved
loop-h-preserved c = reach_turn _ _ _ _ c.loop-h.invariant c.through.ensures

pub returns : goal.returns
returns c = let e : c.loop-h.h ≡ terms / 2 = omega arith in rw (c.loop-h.invariant, e) (reach_closes _)

use Rattle.tell_plan.proofs.Laws.{lines_none, lines_next, lines_end}
use native.Mathlib.Omega.{arith}
use Rattle.tell_plan.proofs.put_nones.Goals as goal

pub loop-i-init : goal.loop-i-init
loop-i-init c = lines_none _ _

pub loop-i-preserved : goal.loop-i-preserved
loop-i-preserved c = lines_next _ _ _ _ _ c.loop-i.invariant c.put_nones_with-e.ensures

pub returns : goal.returns
returns c = lines_end _ _ _ _ _ (omega arith) c.loop-i-test.false c.loop-i.invariant

use Rattle.tell_plan.proofs.Laws.{nones_start, lines_next, lines_end}
use native.Mathlib.Omega.{arith}
use Rattle.tell_plan.proofs.put_nones_with.Goals as goal

pub loop-j-init : goal.loop-j-init
loop-j-init c = nones_start _ _ _

pub loop-j-preserved : goal.loop-j-preserved
loop-j-preserved c = lines_next _ _ _ _ _ c.loop-j.invariant c.put_none-e.ensures

pub returns : goal.returns
returns c = lines_end _ _ _ _ _ (omega arith) c.loop-j-test.false c.loop-j.invariant

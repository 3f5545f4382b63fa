-- `rule_classes::written` meets its contract. Assumes nothing.
use mathlib.Core.Path.{refl}
use native.Mathlib.Omega.{arith}
use Rattle.rule_classes.proofs.Joining.{all_none, all_step, all_done}
use Rattle.rule_classes.proofs.written.Goals as goal

pub loop-k-init : goal.loop-k-init
loop-k-init c = (omega arith, all_none _ _)

pub loop-k-preserved : goal.loop-k-preserved
loop-k-preserved c = (omega arith, all_step _ c.args.eqs.now _ _ _ _ c.loop-k.invariant.1 c.merge_in.ensures)

pub returns : goal.returns
returns c = all_done _ _ _ _ _ (let h = c.loop-k.invariant.0 in let t = c.loop-k-test.false in omega arith) refl c.loop-k.invariant.1

use Rattle.tell_kept.proofs.Laws.{c_turn, c_done}
use Rattle.tell_kept.proofs.put_all_constrained.Goals as goal

pub loop-i-preserved : goal.loop-i-preserved
loop-i-preserved c = c_turn _ _ _ _ _ _ _ _ c.loop-i-test.true c.loop-i.invariant c.put_constrained-e.ensures

pub returns : goal.returns
returns c = c_done _ _ _ _ _ _ _ c.loop-i-test.false c.loop-i.invariant

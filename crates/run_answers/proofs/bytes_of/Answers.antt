use Rattle.run_answers.proofs.Laws.{bytes_turn, bytes_done}
use Rattle.run_answers.proofs.bytes_of.Goals as goal

pub loop-n-preserved : goal.loop-n-preserved
loop-n-preserved c = bytes_turn _ _ _ _ _ _ c.loop-n-test.true c.byte.ensures c.loop-n.invariant c.put-k.ensures

pub returns : goal.returns
returns c = bytes_done _ _ _ _ c.loop-n-test.false c.loop-n.invariant

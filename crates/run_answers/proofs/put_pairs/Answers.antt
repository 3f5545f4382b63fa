use Rattle.run_answers.proofs.Laws.{pairs_start, pairs_turn, pairs_done}
use Rattle.run_answers.proofs.put_pairs.Goals as goal

pub loop-i-init : goal.loop-i-init
loop-i-init c = pairs_start _ _ _

pub loop-i-preserved : goal.loop-i-preserved
loop-i-preserved c = pairs_turn _ _ _ _ _ _ c.loop-i-test.true c.loop-i.invariant c.put_pairs_of-n.ensures

pub returns : goal.returns
returns c = pairs_done _ _ _ _ _ c.loop-i-test.false c.loop-i.invariant

use Rattle.run_answers.proofs.Laws.{pair_turn, pair_done}
use Rattle.run_answers.proofs.put_pairs_of.Goals as goal

pub loop-j-preserved : goal.loop-j-preserved
loop-j-preserved c = pair_turn _ _ _ _ _ _ _ c.loop-j-test.true c.loop-j.invariant c.put_pair-n.ensures

pub returns : goal.returns
returns c = pair_done _ _ _ _ _ _ c.loop-j-test.false c.loop-j.invariant

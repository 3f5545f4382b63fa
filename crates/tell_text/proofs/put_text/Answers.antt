use Rattle.tell_text.proofs.Laws.{one_more, all_put}
use Rattle.tell_text.proofs.put_text.Goals as goal

pub loop-b-preserved : goal.loop-b-preserved
loop-b-preserved c = one_more _ _ _ _ _ c.loop-b-test.true c.loop-b.invariant c.put-k.ensures

pub returns : goal.returns
returns c = all_put _ _ _ _ c.loop-b-test.false c.loop-b.invariant

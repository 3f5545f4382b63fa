use Rattle.tell_parts.proofs.PartLaws.{rest_turn, rest_done}
use Rattle.tell_parts.proofs.put_rest.Goals as goal

pub loop-n-preserved : goal.loop-n-preserved
loop-n-preserved c = rest_turn _ _ _ _ _ _ _ c.loop-n-test.true c.loop-n.invariant c.put_place-k.ensures

pub returns : goal.returns
returns c = rest_done _ _ _ _ _ _ c.loop-n-test.false c.loop-n.invariant

use Rattle.tell_parts.proofs.PartLaws.{part_turn, parts_done}
use Rattle.tell_parts.proofs.fill.Goals as goal

pub loop-b-preserved : goal.loop-b-preserved
loop-b-preserved c = part_turn _ _ _ _ _ _ c.loop-b-test.true c.loop-b.invariant c.put_part-k.ensures

pub returns : goal.returns
returns c = parts_done _ _ _ _ _ c.loop-b-test.false c.loop-b.invariant

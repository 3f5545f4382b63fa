use Rattle.tell_text.proofs.Laws.{byte_more, all_bytes}
use Rattle.tell_text.proofs.put_hex.Goals as goal

pub loop-b-preserved : goal.loop-b-preserved
loop-b-preserved c = byte_more _ _ _ _ _ c.loop-b-test.true c.loop-b.invariant c.put_byte-k.ensures

pub returns : goal.returns
returns c = all_bytes _ _ _ _ c.loop-b-test.false c.loop-b.invariant

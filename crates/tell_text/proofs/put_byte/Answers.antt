use Rattle.tell_text.proofs.Laws.{byte_put}
use Rattle.tell_text.proofs.put_byte.Goals as goal

pub returns : goal.returns
returns c = byte_put _ _ _ _ _ _ c.high_digit.ensures c.low_digit.ensures c.put-k.ensures c.put.ensures

use Rattle.tell_text.proofs.Laws.{eight_put}
use Rattle.tell_text.proofs.put_eight.Goals as goal

pub returns : goal.returns
returns c = eight_put _ _ _ _ c.put_four-k.ensures c.put_four.ensures

use Rattle.tell_kept.proofs.Laws.{int_put}
use Rattle.paper.specs.Words.{two}
use Rattle.tell_kept.proofs.put_int.Goals as goal

pub returns : goal.returns
unfolding two
returns c = int_put _ _ _ _ _ _ _ c.put_hex-k.ensures c.put_eight-j.ensures c.put_eight.ensures

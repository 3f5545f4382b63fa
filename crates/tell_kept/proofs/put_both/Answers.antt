use Rattle.tell_kept.proofs.Laws.{both_put}
use Rattle.tell_kept.proofs.put_both.Goals as goal

pub returns : goal.returns
returns c = both_put _ _ _ _ _ c.put_one-a.ensures c.put_one.ensures

use Rattle.tell_kept.proofs.Laws.{one_put}
use Rattle.tell_kept.proofs.put_one.Goals as goal

pub returns : goal.returns
returns c = one_put _ _ _ _ c.put_text-a.ensures c.put_decimal.ensures

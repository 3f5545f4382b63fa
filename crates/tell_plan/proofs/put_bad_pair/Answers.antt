use Rattle.tell_plan.proofs.Laws.{chain3}
use Rattle.tell_plan.proofs.put_bad_pair.Goals as goal

pub returns : goal.returns
returns c = chain3 _ _ _ _ _ _ _ c.put_break-a.ensures c.put_places-b.ensures c.put_text.ensures

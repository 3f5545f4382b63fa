use Rattle.tell_plan.proofs.Laws.{chain5}
use Rattle.tell_plan.proofs.put_wrong_length.Goals as goal

pub returns : goal.returns
returns c = chain5 _ _ _ _ _ _ _ _ _ _ _ c.put_text-a.ensures c.put_decimal-b.ensures c.put_text-c.ensures c.put_decimal-d.ensures c.put_text.ensures

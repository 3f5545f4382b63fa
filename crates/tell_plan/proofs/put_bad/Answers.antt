use Rattle.tell_plan.proofs.Laws.{chain3}
use Rattle.tell_plan.specs.PlanText.{bad_line}
use Rattle.tell_plan.proofs.put_bad.Goals as goal

pub returns : goal.returns
unfolding bad_line
returns c = chain3 _ _ _ _ _ _ _ c.put_text-a.ensures c.put_decimal-b.ensures c.put_text.ensures

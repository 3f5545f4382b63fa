use Rattle.tell_plan.proofs.Laws.{chain3}
use Rattle.tell_plan.specs.PlanText.{set_bad}
use Rattle.tell_plan.proofs.put_set_bad.Goals as goal

pub returns : goal.returns
unfolding set_bad
returns c = chain3 _ _ _ _ _ _ _ c.put_head-a.ensures c.put_text-b.ensures c.put_bad.ensures

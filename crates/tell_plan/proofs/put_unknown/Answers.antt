use Rattle.tell_plan.specs.PlanText.{set_unknown}
use Rattle.tell_text.specs.Written.{follows}
use Rattle.tell_plan.proofs.put_unknown.Goals as goal

pub returns : goal.returns
unfolding set_unknown
returns c = follows _ _ _ _ _ c.put_head-a.ensures c.put_text.ensures

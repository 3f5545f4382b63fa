use Rattle.tell_plan.specs.PlanText.{set_head}
use Rattle.tell_text.specs.Written.{follows}
use Rattle.tell_plan.proofs.put_head.Goals as goal

pub returns : goal.returns
unfolding set_head
returns c = follows _ _ _ _ _ c.put_text-a.ensures c.put_two.ensures

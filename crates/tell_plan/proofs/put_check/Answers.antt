use Rattle.tell_plan.proofs.Laws.{check_put}
use Rattle.tell_plan.proofs.put_check.Goals as goal

pub returns : goal.returns
returns c = check_put _ _ _ _ _ _ _ _ _ c.check_plan-v.ensures c.put_head-a.ensures c.put_judged.ensures

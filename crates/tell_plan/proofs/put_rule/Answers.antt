use Rattle.tell_plan.proofs.Laws.{rule_put}
use Rattle.tell_plan.proofs.put_rule.Goals as goal

pub returns : goal.returns
returns c = rule_put _ _ _ _ _ _ _ _ _ _ _ _ c.start.ensures.value c.place.ensures c.word.ensures c.put_text-a.ensures c.put_four-b.ensures c.put_text-c.ensures c.put_eight-d.ensures c.put_text.ensures

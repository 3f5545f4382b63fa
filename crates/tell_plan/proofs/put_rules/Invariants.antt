use Rattle.std.proofs.Common.{◌≡◌}
use Rattle.paper.specs.Words.{below, joined}
use Rattle.tell_text.specs.Written.{wrote}
use Rattle.tell_plan.specs.Lent.{rule_at}
use Rattle.tell_plan.proofs.put_rules.Given as goal

abbrev pub invariant-loop-i : goal.invariant-loop-i
invariant-loop-i l = (l.out, l.e) ≡ wrote (l.initial.out, l.at) (joined (below l.i (rule_at l.words l.priorities)))

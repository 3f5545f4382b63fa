use Rattle.std.proofs.Common.{◌≡◌}
use Rattle.paper.specs.Words.{below, joined}
use Rattle.tell_text.specs.Written.{wrote}
use Rattle.plan.specs.Lent.{set_in}
use Rattle.tell_plan.specs.Lent.{none_text}
use Rattle.tell_plan.proofs.put_nones.Given as goal

abbrev pub invariant-loop-i : goal.invariant-loop-i
invariant-loop-i l = (l.out, l.e) ≡ wrote (l.initial.out, l.at) (joined (below l.i (λ k. joined (below l.n (none_text (set_in l.words l.n l.flags) k)))))

use mathlib.Core.Path.{◌≡◌}
use Rattle.tell_text.specs.Written.{wrote}
use Rattle.tell_reply.specs.Replies.{members_text}
use Rattle.tell_reply.proofs.put_members.Given as goal

abbrev pub invariant-loop-i : goal.invariant-loop-i
invariant-loop-i l = (l.out, l.m) ≡ wrote (l.initial.out, l.n) (members_text l.members l.i)

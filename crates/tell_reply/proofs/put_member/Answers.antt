-- `tell_reply::put_member` meets its contract. Assumes nothing.
use mathlib.Core.Path.{sym}
use Rattle.tell_text.specs.Written.{follows}
use Rattle.tell_reply.proofs.Wording.{told, member_next}
use Rattle.tell_reply.proofs.put_member.Goals as goal

pub returns : goal.returns
returns c = told _ _ _ _ (sym (member_next _ _ c.if-i-eq0.false)) (follows _ _ _ _ _ c.put-m.ensures (rw c.from-2.ensures at c.put_decimal-2.ensures))

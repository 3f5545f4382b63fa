-- `tell_reply::put_members` meets its contract. Assumes nothing.
use Rattle.tell_reply.proofs.Wording.{members_none, members_more}
use Rattle.tell_reply.proofs.put_members.Goals as goal

pub loop-i-init : goal.loop-i-init
loop-i-init c = members_none _ _

pub loop-i-preserved : goal.loop-i-preserved
loop-i-preserved c = members_more _ _ _ _ _ c.loop-i.invariant c.put_member-m.ensures

use Rattle.tell_kept.proofs.Laws.{member_turn, member_done}
use Rattle.tell_kept.proofs.put_members.Goals as goal

pub loop-i-preserved : goal.loop-i-preserved
loop-i-preserved c = member_turn _ _ _ _ _ _ _ _ _ c.loop-i-test.true c.loop-i.invariant c.put_member-e.ensures

pub returns : goal.returns
returns c = member_done _ _ _ _ _ _ _ _ c.loop-i-test.false c.loop-i.invariant

-- `class_removal::unjoin` meets its contract: what is left of the members gives what all of them give. Assumes nothing.
use native.Mathlib.Omega.{arith}
use Rattle.class_removal.proofs.Taking.{unjoin_turn, unjoin_end}
use Rattle.class_removal.proofs.unjoin.Goals as goal

pub loop-member-preserved : goal.loop-member-preserved
loop-member-preserved c = unjoin_turn _ c.args.members.now c.loop-member.member-index _ c.loop-member-test.true c.from.ensures c.loop-member.invariant

pub returns : goal.returns
returns c = unjoin_end _ c.args.members.now c.loop-member.member-index (omega arith) c.loop-member.invariant

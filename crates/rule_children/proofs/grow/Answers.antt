use native.Mathlib.Omega.{arith}
use Rattle.rule_children.proofs.AnswerLaws.{answer_full, answer_ready, answer_done}
use Rattle.rule_children.proofs.grow.Goals as goal

pub returns-then-room-missing : goal.returns-then-room-missing
returns-then-room-missing c = answer_full c.args.m.now c.args.n c.args.tail.now c.args.k c.args.at c.args.s c.args.c c.requires.long c.requires.small c.requires.few c.scan-seen.result c.scan-seen.ensures c.requires.known _ _ c.refuse.ensures (omega (arith, c.from.ensures, c.from-2.ensures, c.saturating_sub-room.ensures)) (omega (arith, c.from.ensures, c.from-2.ensures, c.saturating_sub-room.ensures, c.if-room-missing.true))

pub place-numbers-requires : goal.place-numbers-requires
place-numbers-requires c = answer_ready c.args.m.now c.args.n c.args.tail.now c.args.k c.args.at c.args.s c.args.c c.requires.long c.requires.small c.requires.few c.scan-seen.result c.scan-seen.ensures c.requires.known (omega (arith, c.from.ensures, c.from-2.ensures, c.saturating_sub-room.ensures, c.if-room-missing.false))

pub returns : goal.returns
returns c = answer_done c.args.m.now c.args.n c.args.tail.now c.args.k c.args.at c.args.s c.args.c c.requires.long c.requires.small c.requires.few c.scan-seen.result c.scan-seen.ensures c.requires.known _ _ _ c.place-numbers.ensures.0 c.place-numbers.ensures.1 c.place-numbers.ensures.2 (omega (arith, c.from.ensures, c.from-2.ensures)) (omega (arith, c.from.ensures, c.from-2.ensures, c.saturating_sub-room.ensures, c.if-room-missing.false))

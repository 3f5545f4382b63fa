use Rattle.rule_check.proofs.Searching.{WipedTo}
use Rattle.rule_check.proofs.wipe.Given as goal

abbrev pub invariant-loop-z : goal.invariant-loop-z
invariant-loop-z l = WipedTo l.seen l.queue l.tail l.z-index

use lib.ListN.{length}
use Rattle.rule_rows.specs.Holding.{held}
use Rattle.rule_check.proofs.Climbing.{ClimbsTo}
use Rattle.rule_check.proofs.ascends.Given as goal

abbrev pub invariant-loop-h : goal.invariant-loop-h
invariant-loop-h l = ClimbsTo (held l.sites l.rows l.words l.kids) (length l.sites) l.next l.h

use Rattle.paper.specs.Numbers.{max_sites}
use Prim.Native.Nat.{◌-◌}
use Rattle.rule_rows.specs.Holding.{chart}
use Rattle.rule_check.proofs.Searching.{SearchTo}
use Rattle.rule_check.proofs.returning.Given as goal

abbrev pub invariant-loop-head : goal.invariant-loop-head
invariant-loop-head l = SearchTo (chart l.rows l.words l.kids) l.p l.boss l.l l.seen l.queue l.tail l.head

abbrev pub decreases-loop-head : goal.decreases-loop-head
decreases-loop-head l = max_sites - l.head

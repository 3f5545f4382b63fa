use Prim.Native.Nat.{◌≤◌}
use Rattle.rule_rows.specs.Holding.{chart}
use Rattle.rule_check.proofs.Searching.{ChildrenTo}
use Rattle.rule_check.proofs.visit_kids.Given as goal

abbrev pub invariant-loop-f : goal.invariant-loop-f
invariant-loop-f l = (l.f ≤ l.m) × ChildrenTo (chart l.rows l.words l.kids) l.p l.boss l.l l.initial.seen l.initial.queue l.tail l.x l.seen l.queue l.t l.f

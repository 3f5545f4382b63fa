use Prim.Native.Nat.{◌≤◌}
use Rattle.rule_rows.specs.Holding.{held}
use Rattle.rule_classes.specs.Growing.{SweptTo}
use Rattle.rule_classes.proofs.sweep.Given as goal

abbrev pub invariant-loop-h : goal.invariant-loop-h
invariant-loop-h l = (l.h ≤ l.m) × SweptTo (held l.sites l.rows l.words l.kids) l.initial.p l.p l.r l.n l.moved l.m l.h

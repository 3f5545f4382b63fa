use Prim.Native.Nat.{◌≤◌}
use Rattle.rule_rows.specs.Holding.{bare}
use Rattle.rule_classes.specs.Meeting.{Seated}
use Rattle.rule_classes.proofs.conflict.Given as goal

abbrev pub invariant-loop-h : goal.invariant-loop-h
invariant-loop-h l = (l.h ≤ l.m) × Seated (bare l.sites l.rows l.words) l.p l.boss l.h

use Rattle.classes.specs.Equal.{class_count}
use Rattle.rule_rows.specs.Holding.{held}
use Rattle.rule_classes.proofs.Turning.{Between}
use Rattle.rule_classes.proofs.close.Given as goal

abbrev pub invariant-loop : goal.invariant-loop
invariant-loop l = Between (held l.sites l.rows l.words l.kids) l.initial.p l.p l.r l.n l.m

abbrev pub decreases-loop : goal.decreases-loop
decreases-loop l = class_count l.p

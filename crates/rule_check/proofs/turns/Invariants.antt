use Rattle.rule_rows.specs.Holding.{chart}
use Rattle.rule_check.proofs.Settling.{TurnsTo}
use Rattle.rule_check.proofs.turns.Given as goal

abbrev pub invariant-loop-h : goal.invariant-loop-h
invariant-loop-h l = TurnsTo (chart l.rows l.words l.kids) l.p l.boss l.sites l.turned l.left l.m l.h

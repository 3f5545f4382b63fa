use Rattle.rule_rows.specs.Holding.{chart}
use Rattle.rule_check.specs.Search.{Searched, LowestOf}
use Rattle.rule_check.proofs.lowest_of.Given as goal

abbrev pub invariant-loop-x : goal.invariant-loop-x
invariant-loop-x l = Searched (chart l.rows l.words l.kids) l.p l.boss l.seen l.queue l.calm × LowestOf (chart l.rows l.words l.kids) l.p l.boss l.xs l.x-index l.best l.r

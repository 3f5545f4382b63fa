use Rattle.rule_children.proofs.NextLaws.{Past}
use Rattle.rule_children.proofs.seek_word.Given as goal

abbrev pub invariant-loop-j : goal.invariant-loop-j
invariant-loop-j l = Past l.tail l.from l.first l.count l.j

use Rattle.rule_children.proofs.GrowLaws.{Placing, Whole}
use Rattle.rule_children.specs.Tail.{table}
use Rattle.rule_children.proofs.place.Given as goal

abbrev pub invariant-loop-f : goal.invariant-loop-f
invariant-loop-f l = Placing (table l.m l.n l.initial.tail l.k) l.k l.s l.c l.initial.tail l.tail l.numbers l.j l.f × Whole l.m l.n l.initial.tail l.k l.s l.c l.tail l.j l.f

use Rattle.rule_items.proofs.Walking.{WalkTo}
use mathlib.Core.Path.{◌≡◌}
use Rattle.std.specs.declared.result.Result.TheVariants.{Ok}
use Rattle.rule_items.proofs.walk.Given as goal

abbrev pub invariant-loop-i : goal.invariant-loop-i
invariant-loop-i l = record {
  going : l.p.answer ≡ Ok tt;
  walked : WalkTo l.m l.n l.initial.tail l.initial.sites l.initial.rows l.initial.words l.initial.kids l.initial.eqs l.items l.count l.tail l.sites l.rows l.words l.kids l.eqs l.p.tail l.p.held l.p.equal l.i;
}

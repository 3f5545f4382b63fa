use Rattle.std.proofs.Common.{ℕ, ◌<◌}
use Rattle.rule_rows.specs.Holding.{kid_in}
use Rattle.rule_rows.proofs.higher.Given as goal

abbrev pub invariant-loop-f : goal.invariant-loop-f
invariant-loop-f l = (g : ℕ) → g < l.f → l.s < kid_in l.kids l.i g

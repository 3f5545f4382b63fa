use Prim.Native.Nat.{ℕ, ◌≤◌, ◌<◌}
use Rattle.classes.specs.Answers.{rep}
use Rattle.rule_rows.specs.Holding.{kid_in}
use Rattle.rule_check.specs.Search.{Over}
use Rattle.rule_check.proofs.ready.Given as goal

abbrev pub invariant-loop-f : goal.invariant-loop-f
invariant-loop-f l = (l.f ≤ l.m) × ((g : ℕ) → g < l.f → Over l.boss l.turned (rep l.p (kid_in l.kids l.i g)))

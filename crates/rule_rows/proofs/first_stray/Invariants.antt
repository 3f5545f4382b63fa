use Rattle.std.proofs.Common.{◌≡◌, drop}
use Rattle.rule_rows.specs.Holding.{stray}
use Rattle.rule_rows.proofs.first_stray.Given as goal

abbrev pub invariant-loop-x : goal.invariant-loop-x
invariant-loop-x l = stray l.xs ≡ stray (drop l.x-index l.xs)

use mathlib.Core.Path.{◌≡◌}
use lib.ListN.{length, take}
use Rattle.rule_load.specs.Parts.{gathered}
use Rattle.rule_load.proofs.gather.Given as goal

abbrev pub invariant-loop-k : goal.invariant-loop-k
invariant-loop-k l = (take l.k l.out ≡ gathered l.rows l.shapes l.k) × (length l.out ≡ length l.initial.out)

use mathlib.Core.Path.{◌≡◌}
use Prim.Native.Nat.{◌-◌}
use Rattle.rule_load.specs.Parts.{has_place}
use Rattle.rule_load.proofs.Walking.{place_from}
use Rattle.rule_load.proofs.used.Given as goal

abbrev pub invariant-loop-i : goal.invariant-loop-i
invariant-loop-i l = place_from l.words l.place l.i (l.kept - l.i) ≡ has_place l.words l.kept l.place

use Rattle.plan_text.proofs.Turns.{Rest}
use mathlib.Core.Path.{◌≡◌}
use mathlib.Core.Bool.{false}
use Prim.Native.Nat.{◌+◌, ◌-◌, ◌≤◌}
use lib.ListN.{length}
use Rattle.plan_text.specs.Walk.{bad_by}
use Rattle.plan_text.proofs.scan.Given as goal

abbrev pub invariant-loop-from : goal.invariant-loop-from
invariant-loop-from l = (l.from ≤ length l.text) × ((l.line ≤ l.from + 1) × ((length l.marks ≡ length l.initial.marks) × (bad_by l.marks l.any l.line (Rest l.text l.from) ≡ bad_by l.initial.marks false 1 (Rest l.text 0))))

abbrev pub decreases-loop-from : goal.decreases-loop-from
decreases-loop-from l = length l.text - l.from

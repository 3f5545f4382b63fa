use Rattle.plan_text.proofs.Turns.{Rest, Reading}
use mathlib.Core.Path.{◌≡◌}
use Prim.Native.Nat.{◌+◌, ◌-◌, ◌≤◌}
use lib.ListN.{length}
use Rattle.plan_text.specs.Walk.{rows_from, rows_of}
use Rattle.plan_text.proofs.read_rows.Given as goal

abbrev pub invariant-loop-from : goal.invariant-loop-from
invariant-loop-from l = (l.from ≤ length l.text) × ((l.line ≤ l.from + 1) × ((l.n ≤ l.from) × ((length l.places ≡ length l.initial.places) × ((length l.priorities ≡ length l.initial.priorities) × ((length l.numbers ≡ length l.initial.numbers) × Reading (rows_of l.text l.wanted) l.initial.places l.initial.priorities l.initial.numbers l.places l.priorities l.numbers l.n (rows_from l.wanted l.inside l.line (Rest l.text l.from)))))))

abbrev pub decreases-loop-from : goal.decreases-loop-from
decreases-loop-from l = length l.text - l.from

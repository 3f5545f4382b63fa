use Prim.Native.Nat.{ℕ, ◌-◌, ◌≤◌, ◌<◌}
use Rattle.site_slots.specs.Seeking.{Held}
use Rattle.site_slots.proofs.find.Given as goal

abbrev pub invariant-loop-i : goal.invariant-loop-i
invariant-loop-i l = (l.i ≤ l.n) × ((j : ℕ) → j < l.i → Held l.m j l.b → ⊥)

abbrev pub decreases-loop-i : goal.decreases-loop-i
decreases-loop-i l = l.n - l.i

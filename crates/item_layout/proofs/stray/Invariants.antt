use mathlib.Core.Path.{◌≡◌}
use Prim.Native.Nat.{◌-◌}
use Rattle.item_layout.specs.Layout.{stray_from, stray}
use Rattle.item_layout.proofs.stray.Given as goal

abbrev pub invariant-loop-k : goal.invariant-loop-k
invariant-loop-k l = stray_from l.words l.k (l.many - l.k) ≡ stray l.words l.many

use Prim.Native.Nat.{◌-◌}
use mathlib.Core.Path.{◌≡◌}
use Rattle.paper.specs.Numbers.{max_sites}
use Rattle.paper.specs.Classes.{seek, find_in}
use Rattle.classes.proofs.trail_in.Given as goal

abbrev pub invariant-loop-links : goal.invariant-loop-links
invariant-loop-links l = seek (max_sites - l.links) l.parents l.at l.links ≡ find_in l.parents l.x

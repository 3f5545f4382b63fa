use Prim.Native.Nat.{◌-◌, ◌+◌}
use Rattle.paper.specs.Classes.{passed, hung}
use Rattle.classes.proofs.Updating.{Hangs}
use Rattle.classes.proofs.hang.Given as goal

abbrev pub invariant-loop : goal.invariant-loop
invariant-loop l = Hangs (l.n + 1 - l.counter) l.parents l.at l.r (hung l.initial.parents (passed l.n l.initial.parents l.x) l.r)

use Prim.Native.Nat.{◌-◌}
use Rattle.overlap.proofs.BesideLaws.{Rest}
use Rattle.overlap.proofs.ascends.Given as goal

abbrev pub invariant-loop-q : goal.invariant-loop-q
invariant-loop-q l = Rest l.words l.from l.low l.q l.last

abbrev pub decreases-loop-q : goal.decreases-loop-q
decreases-loop-q l = l.end - l.q

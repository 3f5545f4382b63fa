use Prim.Native.Nat.{◌≤◌}
use Rattle.rule_classes.specs.Growing.{JoinsKids}
use Rattle.rule_classes.proofs.join_kids.Given as goal

abbrev pub invariant-loop-f : goal.invariant-loop-f
invariant-loop-f l = (l.f ≤ l.m) × JoinsKids l.kids l.initial.p l.p l.r l.n l.i l.j l.f l.moved

use mathlib.Core.Path.{◌≡◌}
use Prim.Native.Nat.{◌≤◌}
use Rattle.paper.specs.Words.{below}
use Rattle.paper.specs.Classes.{classes}
use Rattle.rule_rows.specs.Holding.{eq_at, merge_each}
use Rattle.rule_classes.proofs.written.Given as goal

abbrev pub invariant-loop-k : goal.invariant-loop-k
invariant-loop-k l = (l.k ≤ l.m) × (classes l.parents l.ranks l.count ≡ merge_each (classes l.initial.parents l.initial.ranks l.initial.count) (below l.k (eq_at l.eqs)))

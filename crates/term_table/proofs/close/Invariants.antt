use mathlib.Core.Path.{◌≡◌}
use Rattle.term_table.specs.Loops.{reach_to}
use Rattle.term_table.proofs.close.Given as goal

abbrev pub invariant-loop-h : goal.invariant-loop-h
invariant-loop-h l = l.t ≡ reach_to l.h l.initial.t

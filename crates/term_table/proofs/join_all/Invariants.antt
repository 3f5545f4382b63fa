use mathlib.Core.Path.{◌≡◌}
use Rattle.term_table.specs.Loops.{join_to}
use Rattle.term_table.proofs.join_all.Given as goal

abbrev pub invariant-loop-i : goal.invariant-loop-i
invariant-loop-i l = l.t ≡ join_to l.i l.initial.t l.k l.one l.other l.two

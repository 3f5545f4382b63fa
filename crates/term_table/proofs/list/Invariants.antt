use Rattle.term_table.specs.Loops.{on_diagonal}
use Rattle.term_table.proofs.Lists.{Listing}
use Rattle.term_table.proofs.list.Given as goal

abbrev pub invariant-loop-i : goal.invariant-loop-i
invariant-loop-i l = Listing (on_diagonal l.t l.but) l.i l.n l.found

use Rattle.term_table.specs.Loops.{UnmarkedTo}
use Rattle.term_table.proofs.has_edges.Given as goal

abbrev pub invariant-loop-r : goal.invariant-loop-r
invariant-loop-r l = UnmarkedTo l.r-index l.t

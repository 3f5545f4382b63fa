use Rattle.sheet_ended.proofs.Laws.{Listing}
use Rattle.sheet_ended.proofs.write_terms.Given as goal

abbrev pub invariant-loop-term : goal.invariant-loop-term
invariant-loop-term l = Listing l.terms l.initial.room l.at l.term-index l.end l.room

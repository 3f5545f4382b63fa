-- The chunks so far are read, one after the other.
use Rattle.sheet_lines.specs.Held.{no_line}
use Rattle.sheet_reader.specs.State.{lent}
use Rattle.run_sheets.specs.Chunks.{stand, Read}
use Rattle.run_sheets.proofs.read_all.Given as goal

abbrev pub invariant-loop : goal.invariant-loop
invariant-loop g l = Read l.how l.many no_line (stand l.initial.g.flow (lent l.initial.m l.initial.words l.initial.items l.initial.table) l.initial.room l.initial.out) (stand l.g.flow (lent l.m l.words l.items l.table) l.room l.out) l.g.held

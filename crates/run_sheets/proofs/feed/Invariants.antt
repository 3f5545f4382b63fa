-- The lines before `from` are taken: what the rest does, the whole chunk does.
use Rattle.std.proofs.Common.{◌-◌, length}
use Rattle.sheet_reader.specs.State.{lent}
use Rattle.run_sheets.specs.Chunks.{stand}
use Rattle.run_sheets.proofs.ChunkLaws.{StandsFor, StopsFor}
use Rattle.run_sheets.proofs.feed.Given as goal

abbrev pub invariant-loop-from : goal.invariant-loop-from
invariant-loop-from g l = record {
  stands : StandsFor l.how l.many l.bytes l.initial.held (stand l.initial.flow (lent l.initial.m l.initial.words l.initial.items l.initial.table) l.initial.room l.initial.out) l.from l.held (stand l.flow (lent l.m l.words l.items l.table) l.room l.out);
  stops : StopsFor l.how l.many l.bytes l.initial.held (stand l.initial.flow (lent l.initial.m l.initial.words l.initial.items l.initial.table) l.initial.room l.initial.out) l.from l.held (stand l.flow (lent l.m l.words l.items l.table) l.room l.out);
}

abbrev pub decreases-loop-from : goal.decreases-loop-from
decreases-loop-from g l = length l.bytes - l.from

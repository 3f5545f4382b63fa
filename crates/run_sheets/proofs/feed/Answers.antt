use Rattle.std.proofs.Common.{arith}
use Rattle.sheet_read.proofs.Feeding.{cut_inside}
use Rattle.run_lines.proofs.TakenLaws.{at_error}
use Rattle.run_sheets.proofs.ChunkLaws.{no_turn, no_stop, chunk_turn, chunk_open, chunk_done, stop_turn, stop_here}
use Rattle.run_sheets.proofs.feed.Goals as goal

pub loop-from-init : goal.loop-from-init
loop-from-init g c = record { stands = no_turn _ _ _ _ _; stops = no_stop _ _ _ _ _ }

pub returns-then-c-clause-took : goal.returns-then-c-clause-took
returns-then-c-clause-took g c = chunk_open _ _ _ _ _ _ _ _ c.loop-from.invariant.stands _ c.cut_line-c.ensures c.if-c.true c.loop-from-test.true

pub returns-in_err-flow-clause-stopped : goal.returns-in_err-flow-clause-stopped
returns-in_err-flow-clause-stopped g c = at_error _ (stop_here _ _ _ _ _ _ _ _ c.loop-from.invariant.stops _ _ _ _ _ _ _ c.cut_line-c.ensures c.if-c.false c.part-here.ensures c.part.ensures c.line_of-text.ensures
    record { same = c.in_err-flow.ensures.failed; overfull = c.in_err-flow.ensures.overfull; told = c.in_err-flow.ensures.told })

pub overflow_add-from : goal.overflow_add-from
overflow_add-from g c = let i = (cut_inside _ _ _ _ c.cut_line-c.ensures c.if-c.false).1 in omega arith

pub loop-from-smaller : goal.loop-from-smaller
loop-from-smaller g c = omega (arith, (cut_inside _ _ _ _ c.cut_line-c.ensures c.if-c.false).0, c.loop-from-test.true)

pub loop-from-preserved : goal.loop-from-preserved
loop-from-preserved g c =
    record {
      stands = chunk_turn _ _ _ _ _ _ _ _ c.loop-from.invariant.stands _ _ _ _ _ _ c.cut_line-c.ensures c.if-c.false c.part-here.ensures c.part.ensures c.line_of-text.ensures c.in_ok-flow.ensures.taken c.nothing-held.ensures.0;
      stops = stop_turn _ _ _ _ _ _ _ _ c.loop-from.invariant.stops _ _ _ _ _ _ c.cut_line-c.ensures c.if-c.false c.part-here.ensures c.part.ensures c.line_of-text.ensures c.in_ok-flow.ensures.taken c.nothing-held.ensures.0;
    }

pub returns-clause-took : goal.returns-clause-took
returns-clause-took g c = chunk_done _ _ _ _ _ _ _ _ c.loop-from.invariant.stands c.loop-from-test.false

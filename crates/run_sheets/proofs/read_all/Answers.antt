use Rattle.run_lines.proofs.TakenLaws.{at_error}
use Rattle.run_sheets.proofs.ChunkLaws.{first_read, more_read, stopped_between}
use Rattle.run_sheets.proofs.read_all.Goals as goal

pub loop-init : goal.loop-init
loop-init g c = first_read _ _ _ _ c.nothing.ensures.0

pub returns-in_err-n-clause-stopped : goal.returns-in_err-n-clause-stopped
returns-in_err-n-clause-stopped g c = at_error _ (stopped_between _ _ _ _ _ _ _ _ _ c.loop.invariant)

pub loop-preserved : goal.loop-preserved
loop-preserved g c = more_read _ _ _ _ _ _ _ _ _ c.loop.invariant c.in_ok-g.ensures.took

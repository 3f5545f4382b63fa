use Rattle.run_lines.proofs.TakenLaws.{at_error}
use Rattle.run_sheets.proofs.ChunkLaws.{stopped_at_end}
use Rattle.run_sheets.proofs.run_in.Goals as goal

pub returns-in_err-n-clause-stopped : goal.returns-in_err-n-clause-stopped
returns-in_err-n-clause-stopped g c = at_error _ (stopped_at_end _ _ _ _ _ _ _ _ _ c.fresh-f.ensures.0 c.fresh-f.ensures.1 _ _ _ _ _ _ _ c.in_ok-g.ensures.read c.in_err-n.ensures.failed)

-- `run_script::run_in` meets its contract. Assumes nothing.
use Rattle.run_script.proofs.Fitting.{whole_script}
use Rattle.run_script.proofs.Stopping.{at_ok, at_error, stopped_script, unwritten_script}
use Rattle.run_script.proofs.run_in.Goals as goal

pub returns-in_err-q-clause-stopped : goal.returns-in_err-q-clause-stopped
returns-in_err-q-clause-stopped g c = at_error _ (stopped_script _ _ _ _ _ _ _ _ c.clear_in.ensures c.in_err-q.ensures.stopped)

pub returns-clause-whole : goal.returns-clause-whole
returns-clause-whole g c = at_ok _ (whole_script _ _ _ _ _ _ _ _ _ _ c.clear_in.ensures c.in_ok-q.ensures.ran c.put_unended-n.ensures)

pub returns-clause-stopped : goal.returns-clause-stopped
returns-clause-stopped g c = at_error _ (unwritten_script _ _ _ _ _ _ _ (whole_script _ _ _ _ _ _ _ _ _ _ c.clear_in.ensures c.in_ok-q.ensures.ran c.put_unended-n.ensures))

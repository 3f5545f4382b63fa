-- `run_script::take` meets its contract. Assumes nothing.
use Rattle.run_script.proofs.Stopping.{unwritten_here}
use Rattle.run_script.proofs.take.Goals as goal

pub returns-then-b-eq10-clause-unwritten : goal.returns-then-b-eq10-clause-unwritten
returns-then-b-eq10-clause-unwritten g c = unwritten_here _ _ _ _ _ _ _ _ _ _ c.if-b-eq10.true c.end_line.ensures.unwritten

-- `run_script::run_all` meets its contract. Assumes nothing.
use Rattle.run_script.proofs.Saying.{read_none, read_more, goes}
use Rattle.run_script.proofs.run_all.Goals as goal

pub loop-init : goal.loop-init
loop-init g c = read_none _

pub loop-preserved : goal.loop-preserved
loop-preserved g c = read_more _ _ _ _ c.loop.invariant (goes _ c.if-not-q.false) c.in_ok-q.ensures.read

-- `run_script::feed` meets its contract. Assumes nothing.
use Rattle.run_script.proofs.Saying.{fed_none, fed_more, goes}
use Rattle.run_script.proofs.Stopping.{at_error, fed_cut, fed_to_cut}
use Rattle.run_script.proofs.feed.Goals as goal

pub loop-b-init : goal.loop-b-init
loop-b-init g c = fed_none _ _

pub returns-in_err-q-clause-unwritten : goal.returns-in_err-q-clause-unwritten
returns-in_err-q-clause-unwritten g c = at_error _ (fed_cut _ _ _ _ _ _ _ _ c.loop-b.invariant c.loop-b-test.true (goes _ c.if-not-q.false) (c.in_err-q.ensures.unwritten.0, c.in_err-q.ensures.unwritten.1.took))

pub returns-in_err-q-clause-cut : goal.returns-in_err-q-clause-cut
returns-in_err-q-clause-cut g c = at_error _ (fed_to_cut _ _ _ _ _ _ _ _ c.loop-b.invariant c.loop-b-test.true (goes _ c.if-not-q.false) c.in_err-q.ensures.unwritten)

pub loop-b-preserved : goal.loop-b-preserved
loop-b-preserved g c = fed_more _ _ _ _ _ c.loop-b.invariant (goes _ c.if-not-q.false) c.in_ok-q.ensures.took

use Rattle.overlap.proofs.BesideLaws.{rest_none, rest_more, rest_done}
use Rattle.overlap.proofs.ascends.Goals as goal

pub loop-q-init : goal.loop-q-init
loop-q-init c = rest_none _ _ _

pub loop-q-preserved : goal.loop-q-preserved
loop-q-preserved c = rest_more _ _ _ _ _ c.loop-q.invariant c.if-site-last.false

pub returns : goal.returns
returns c = λ _. rest_done _ _ _ _ _ c.loop-q.invariant _ c.loop-q-test.false

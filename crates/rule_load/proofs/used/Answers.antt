-- `rule_load::used` meets its contract. Assumes nothing.
use Rattle.rule_load.proofs.Walking.{place_all, place_here, place_next, place_none}
use Rattle.rule_load.proofs.used.Goals as goal

pub loop-i-init : goal.loop-i-init
loop-i-init c = place_all _ _ _

pub returns-then-place : goal.returns-then-place
returns-then-place c = place_here _ _ _ c.loop-i.i _ _ c.loop-i-test.true c.loop-i.invariant c.start.ensures.value c.place.ensures c.if-place.true

pub loop-i-preserved : goal.loop-i-preserved
loop-i-preserved c = place_next _ _ _ c.loop-i.i _ _ c.loop-i-test.true c.loop-i.invariant c.start.ensures.value c.place.ensures c.if-place.false

pub returns : goal.returns
returns c = place_none _ _ _ c.loop-i.i c.loop-i-test.false c.loop-i.invariant

-- `rule_classes::close` meets its contract. Assumes nothing.
use Rattle.rule_classes.proofs.Turning.{between_none, between_step, closed}
use Rattle.rule_classes.proofs.close.Goals as goal

pub loop-init : goal.loop-init
loop-init c = between_none _ _ _ _ _ c.requires.well

pub sweep-requires-clause-well : goal.sweep-requires-clause-well
sweep-requires-clause-well c = c.loop.invariant.well

pub sweep-requires-clause-inside : goal.sweep-requires-clause-inside
sweep-requires-clause-inside c = c.requires.inside

pub loop-smaller : goal.loop-smaller
loop-smaller c = c.sweep.ensures.grown.fewer c.loop-test.true

pub loop-preserved : goal.loop-preserved
loop-preserved c = between_step _ _ _ _ _ _ _ _ _ _ c.loop.invariant c.sweep.ensures

pub returns : goal.returns
returns c = closed _ _ _ _ _ _ _ _ _ _ c.loop-test.false c.loop.invariant c.sweep.ensures

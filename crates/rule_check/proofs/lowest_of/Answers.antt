-- `rule_check::lowest_of` meets its contract. Assumes nothing.
use mathlib.Core.Path.{refl}
use Rattle.rule_check.proofs.Naming.{of_none, of_step}
use Rattle.rule_check.proofs.lowest_of.Goals as goal

pub loop-x-init : goal.loop-x-init
loop-x-init c = (c.requires.searched, of_none _ _ _ _ _ c.requires.told)

pub lower-r-requires-clause-ready : goal.lower-r-requires-clause-ready
lower-r-requires-clause-ready c = c.requires.ready

pub lower-r-requires-clause-searched : goal.lower-r-requires-clause-searched
lower-r-requires-clause-searched c = c.loop-x.invariant.0

pub lower-r-requires-clause-told : goal.lower-r-requires-clause-told
lower-r-requires-clause-told c = c.loop-x.invariant.1.told

pub loop-x-preserved : goal.loop-x-preserved
loop-x-preserved c = (c.lower-r.ensures.fact, of_step _ _ _ _ _ _ _ _ _ refl c.loop-x.invariant.1 c.lower-r.ensures.lower)

pub returns-clause-fact : goal.returns-clause-fact
returns-clause-fact c = c.loop-x.invariant.0

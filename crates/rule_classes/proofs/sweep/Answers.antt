-- `rule_classes::sweep` meets its contract. Assumes nothing.
use native.Mathlib.Omega.{arith}
use mathlib.Core.Path.{◌≡◌}
use mathlib.Core.Logic.{inl, inr}
use Rattle.rule_classes.proofs.Turning.{swept_none, swept_step}
use Rattle.rule_classes.proofs.sweep.Goals as goal
use Rattle.rule_classes.proofs.sweep.Goals.{then-meet, else-meet}

pub loop-h-init : goal.loop-h-init
loop-h-init c = (omega arith, swept_none _ _ _ _ _ c.requires.well)

pub meet-requires-clause-well : goal.meet-requires-clause-well
meet-requires-clause-well c = c.loop-h.invariant.1.grown.well

pub meet-requires-clause-inside : goal.meet-requires-clause-inside
meet-requires-clause-inside c = c.requires.inside

pub loop-h-preserved : goal.loop-h-preserved
loop-h-preserved c = (omega arith, swept_step _ _ _ _ _ _ _ _ _ _ _ _ _ c.loop-h-test.true c.loop-h.invariant.1 c.meet.ensures (elim c.if-meet.branch [ then-meet w ↦ inl (w.if-meet.true, w.moved-is) | else-meet w ↦ inr (w.if-meet.false, w.moved-is) ]))

pub returns : goal.returns
returns c = let e : c.loop-h.h ≡ c.args.m = let h = c.loop-h.invariant.0 in let t = c.loop-h-test.false in omega arith in
    rw e at c.loop-h.invariant.1

-- `rule_classes::join_kids` meets its contract. Assumes nothing.
use mathlib.Core.Path.{◌≡◌}
use mathlib.Core.Logic.{inl, inr}
use native.Mathlib.Omega.{arith}
use Rattle.rule_rows.proofs.Reading.{kid_inside}
use Rattle.rule_classes.proofs.Joining.{kids_none, kids_step}
use Rattle.rule_classes.proofs.join_kids.Goals as goal
use Rattle.rule_classes.proofs.join_kids.Goals.{then-equate, else-equate}

pub loop-f-init : goal.loop-f-init
loop-f-init c = (omega arith, kids_none _ _ _ _ _ _ c.requires.well)

pub equate-requires-clause-well : goal.equate-requires-clause-well
equate-requires-clause-well c = c.loop-f.invariant.1.grown.well

pub equate-requires-clause-x_lt_max_sites : goal.equate-requires-clause-x_lt_max_sites
equate-requires-clause-x_lt_max_sites c = (rw c.kid-x.ensures (kid_inside _ _ _ c.requires.inside), rw c.kid-y.ensures (kid_inside _ _ _ c.requires.inside))

pub loop-f-preserved : goal.loop-f-preserved
loop-f-preserved c = (omega arith, kids_step _ _ _ _ _ _ _ _ _ _ _ _ _ _ c.loop-f.invariant.1 (rw (c.kid-x.ensures, c.kid-y.ensures) at c.equate.ensures) (elim c.if-equate.branch [ then-equate w ↦ inl (w.if-equate.true, w.moved-is) | else-equate w ↦ inr (w.if-equate.false, w.moved-is) ]))

pub returns : goal.returns
returns c = let e : c.loop-f.f ≡ c.args.m = let h = c.loop-f.invariant.0 in let t = c.loop-f-test.false in omega arith in rw e at c.loop-f.invariant.1

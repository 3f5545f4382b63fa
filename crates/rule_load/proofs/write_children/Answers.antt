-- `rule_load::write_children` meets its contract. Assumes nothing.
use mathlib.Core.Path.{refl, ◌∙◌}
use native.Mathlib.Omega.{arith}
use Rattle.rule_load.proofs.Placing.{none_stored, one_stored, all_stored}
use Rattle.rule_load.proofs.write_children.Goals as goal

pub loop-i-init : goal.loop-i-init
loop-i-init c = (none_stored _ _ _, refl)

pub overflow_add-first : goal.overflow_add-first
overflow_add-first c = omega (arith, c.from-first.ensures, c.from-i-end.ensures)

pub write_child-requires : goal.write_child-requires
write_child-requires c = (omega (arith, c.from-first.ensures, c.from-i-end.ensures), omega (arith, c.from-first.ensures, c.from-i-end.ensures, c.loop-i.invariant.1), c.requires.3 _ (omega (arith, c.from-i-end.ensures)))

pub loop-i-preserved : goal.loop-i-preserved
loop-i-preserved c = (one_stored _ _ _ _ _ _ _ c.from-first.ensures c.loop-i.invariant.0 c.write_child.ensures, c.write_child.auto.m ∙ c.loop-i.invariant.1)

pub shape_of-m : goal.shape_of-m
shape_of-m c = c.loop-i.invariant.1

pub returns : goal.returns
returns c = all_stored _ _ _ _ _ _ (omega (arith, c.from-i-end.ensures)) (omega (arith, c.from-i-end.ensures)) c.loop-i.invariant.0

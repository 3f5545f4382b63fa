-- `rule_load::gather` meets its contract. Assumes nothing.
use mathlib.Core.Path.{◌≡◌, refl, ◌∙◌}
use Prim.Native.Nat.{◌*◌, ◌/◌}
use native.Mathlib.Omega.{arith}
use lib.ListN.{length-set}
use Rattle.rule_load.proofs.Walking.{gathered_none, gathered_turn, third_below}
use Rattle.rule_load.proofs.gather.Goals as goal

pub loop-k-init : goal.loop-k-init
loop-k-init c = (gathered_none _ _, refl)

pub overflow_mul-k-end : goal.overflow_mul-k-end
overflow_mul-k-end c = omega arith

pub bounds-rows-k : goal.bounds-rows-k
bounds-rows-k c = omega (arith, third_below c.loop-k.k c.args.held c.loop-k-test.true)

pub overflow_mul-out : goal.overflow_mul-out
overflow_mul-out c = let z = c.requires.4 (c.loop-k.k / 3) (third_below c.loop-k.k c.args.held c.loop-k-test.true) in omega (arith, c.from-row.ensures)

pub overflow_add-out : goal.overflow_add-out
overflow_add-out c = let z = c.requires.4 (c.loop-k.k / 3) (third_below c.loop-k.k c.args.held c.loop-k-test.true) in omega (arith, c.from-row.ensures)

pub offset_bounds-shapes-row : goal.offset_bounds-shapes-row
offset_bounds-shapes-row c = let z = c.requires.4 (c.loop-k.k / 3) (third_below c.loop-k.k c.args.held c.loop-k-test.true) in omega (arith, c.from-row.ensures)

pub bounds-shapes-row : goal.bounds-shapes-row
bounds-shapes-row c = let z = c.requires.4 (c.loop-k.k / 3) (third_below c.loop-k.k c.args.held c.loop-k-test.true) in omega (arith, c.from-row.ensures)

pub loop-k-preserved : goal.loop-k-preserved
loop-k-preserved c = (gathered_turn c.args.rows.now c.args.shapes.now c.loop-k.out c.loop-k.k c.from-row.result (omega (arith, c.loop-k.invariant.1)) c.from-row.ensures c.loop-k.invariant.0, length-set c.loop-k.out c.loop-k.k _ ∙ c.loop-k.invariant.1)

pub shape_of-out : goal.shape_of-out
shape_of-out c = c.loop-k.invariant.1

pub returns : goal.returns
returns c = let z : c.loop-k.k ≡ 3 * c.args.held = omega arith in rw z at c.loop-k.invariant.0

use Rattle.plan_text.proofs.Turns.{reading_start, reading_turn, reading_end, row_fits, places_long, priorities_long, numbers_long}
use mathlib.Core.Path.{refl}
use native.Mathlib.Omega.{arith}
use Rattle.plan_text.proofs.read_rows.Goals as goal

pub loop-from-init : goal.loop-from-init
loop-from-init c = (omega arith, (omega arith, (omega arith, (refl, (refl, (refl, reading_start _ _ _ _ _))))))

pub line_from-to-requires : goal.line_from-to-requires
line_from-to-requires c = c.loop-from-test.true

pub keep_row-n-requires : goal.keep_row-n-requires
keep_row-n-requires c = omega (arith, c.loop-from.invariant.1.1.0, c.loop-from-test.true)

pub overflow_add-line : goal.overflow_add-line
overflow_add-line c = omega (arith, c.loop-from.invariant.1.0, c.loop-from-test.true)

pub loop-from-smaller : goal.loop-from-smaller
loop-from-smaller c = omega (arith, c.line_from-to.ensures.onward, c.loop-from-test.true)

pub loop-from-preserved : goal.loop-from-preserved
loop-from-preserved c = (c.line_from-to.ensures.inside_text, (omega (arith, c.line_from-to.ensures.onward, c.loop-from.invariant.1.0), (row_fits c.args.text.now c.loop-from.n _ c.loop-from.from c.line_from-to.result.to c.loop-from.line c.loop-from.inside c.line_from-to.result.said c.line_from-to.ensures c.keep_row-n.ensures.0 c.loop-from.invariant.1.1.0, (places_long c.loop-from.places c.loop-from.priorities c.loop-from.numbers _ _ _ c.loop-from.n _ c.loop-from.line _ c.loop-from.inside c.line_from-to.result.said c.keep_row-n.ensures c.loop-from.invariant.1.1.1.0, (priorities_long c.loop-from.places c.loop-from.priorities c.loop-from.numbers _ _ _ c.loop-from.n _ c.loop-from.line _ c.loop-from.inside c.line_from-to.result.said c.keep_row-n.ensures c.loop-from.invariant.1.1.1.1.0, (numbers_long c.loop-from.places c.loop-from.priorities c.loop-from.numbers _ _ _ c.loop-from.n _ c.loop-from.line _ c.loop-from.inside c.line_from-to.result.said c.keep_row-n.ensures c.loop-from.invariant.1.1.1.1.1.0, reading_turn _ _ _ _ c.loop-from.places c.loop-from.priorities c.loop-from.numbers _ _ _ c.args.text.now c.loop-from.n _ c.loop-from.from c.line_from-to.result.to c.loop-from.line c.args.wanted c.loop-from.inside c.is_inside-inside.result c.line_from-to.result.said c.line_from-to.ensures c.keep_row-n.ensures c.is_inside-inside.ensures c.loop-from.invariant.1.1.1.1.1.1))))))

pub shape_of-places : goal.shape_of-places
shape_of-places c = c.loop-from.invariant.1.1.1.0

pub shape_of-priorities : goal.shape_of-priorities
shape_of-priorities c = c.loop-from.invariant.1.1.1.1.0

pub shape_of-numbers : goal.shape_of-numbers
shape_of-numbers c = c.loop-from.invariant.1.1.1.1.1.0

pub returns : goal.returns
returns c = reading_end _ _ _ _ _ _ _ _ _ _ _ _ _ c.loop-from-test.false c.loop-from.invariant.1.1.1.1.1.1

use Rattle.plan_text.proofs.Turns.{scan_bad, scan_on, scan_end, still_long}
use mathlib.Core.Path.{refl}
use native.Mathlib.Omega.{arith}
use Rattle.plan_text.proofs.scan.Goals as goal

pub loop-from-init : goal.loop-from-init
loop-from-init c = (omega arith, (omega arith, (refl, refl)))

pub line_from-to-requires : goal.line_from-to-requires
line_from-to-requires c = c.loop-from-test.true

pub shape_of-marks-then-is_misplaced : goal.shape_of-marks-then-is_misplaced
shape_of-marks-then-is_misplaced c = c.loop-from.invariant.1.1.0

pub returns-then-is_misplaced : goal.returns-then-is_misplaced
returns-then-is_misplaced c = scan_bad _ _ _ _ _ _ _ _ _ c.line_from-to.ensures c.is_misplaced.ensures c.if-is_misplaced.true c.loop-from.invariant.1.1.1

pub overflow_add-line : goal.overflow_add-line
overflow_add-line c = omega (arith, c.loop-from.invariant.1.0, c.loop-from-test.true)

pub loop-from-smaller : goal.loop-from-smaller
loop-from-smaller c = omega (arith, c.line_from-to.ensures.onward, c.loop-from-test.true)

pub loop-from-preserved : goal.loop-from-preserved
loop-from-preserved c = (c.line_from-to.ensures.inside_text, (omega (arith, c.line_from-to.ensures.onward, c.loop-from.invariant.1.0), (still_long _ c.loop-from.marks _ _ _ _ _ c.line_from-to.ensures c.mark.ensures c.loop-from.invariant.1.1.0, scan_on _ _ _ _ _ _ _ _ _ _ c.line_from-to.ensures c.is_misplaced.ensures c.if-is_misplaced.false c.mark.ensures c.loop-from.invariant.1.1.1)))

pub shape_of-marks : goal.shape_of-marks
shape_of-marks c = c.loop-from.invariant.1.1.0

pub returns : goal.returns
returns c = scan_end _ _ _ _ _ _ c.loop-from-test.false c.loop-from.invariant.1.1.1

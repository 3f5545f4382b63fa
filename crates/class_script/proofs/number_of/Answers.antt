-- `class_script::number_of` meets its contract: what is left of the text gives what all of it gives. Assumes nothing.
use native.Mathlib.Omega.{arith}
use Rattle.class_script.proofs.Reading.{number_none, number_some, number_end, number_no, number_past, number_turn}
use Rattle.class_script.proofs.number_of.Goals as goal

pub returns-then-is_empty : goal.returns-then-is_empty
returns-then-is_empty c = number_none _ c.if-is_empty.ensures

pub returns-then-not-is_ascii_digit : goal.returns-then-not-is_ascii_digit
returns-then-not-is_ascii_digit c = number_some _ c.if-is_empty.ensures (number_no c.args.text.now c.loop-d.value c.loop-d.d-index c.loop-d.invariant c.loop-d-test.true c.if-not-is_ascii_digit.ensures.cases)

pub returns-in_err-checked_mul : goal.returns-in_err-checked_mul
returns-in_err-checked_mul c = rw c.from_residual.ensures (number_some _ c.if-is_empty.ensures (number_past c.args.text.now c.loop-d.value c.loop-d.d-index c.loop-d.invariant c.loop-d-test.true c.if-not-is_ascii_digit.ensures.cases (omega (arith, c.in_err-checked_mul.ensures))))

pub returns-in_err-value : goal.returns-in_err-value
returns-in_err-value c = rw c.from_residual-in_err-value.ensures (number_some _ c.if-is_empty.ensures (number_past c.args.text.now c.loop-d.value c.loop-d.d-index c.loop-d.invariant c.loop-d-test.true c.if-not-is_ascii_digit.ensures.cases (omega (arith, c.in_err-value.ensures, c.in_ok-checked_mul.ensures, c.from.ensures))))

pub loop-d-preserved : goal.loop-d-preserved
loop-d-preserved c = number_turn c.args.text.now c.loop-d.value c.loop-d.d-index c.loop-d.invariant c.loop-d-test.true c.if-not-is_ascii_digit.ensures.cases _ (omega (arith, c.in_ok-value.ensures, c.in_ok-checked_mul.ensures, c.from.ensures)) (omega (arith, c.in_ok-value.ensures))

pub returns : goal.returns
returns c = number_some _ c.if-is_empty.ensures (number_end c.args.text.now c.loop-d.value c.loop-d.d-index c.loop-d.invariant (omega arith))

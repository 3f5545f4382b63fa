use Rattle.std.proofs.Common.{refl, arith}
use Rattle.sheet_digits.specs.Digits.{digits_of}
use Rattle.sheet_digits.proofs.DigitLaws.{bytes_far}
use Rattle.sheet_digits.proofs.write_bytes.Goals as goal

pub loop-k-init : goal.loop-k-init
unfolding digits_of
loop-k-init c = refl

pub loop-k-preserved : goal.loop-k-preserved
loop-k-preserved c = bytes_far _ _ _ c.args.bytes.now c.args.at c.loop-k.k _ c.loop-k-test.true c.loop-k.invariant c.saturating_add.ensures (omega arith) c.write_byte.ensures

use native.Mathlib.Omega.{arith}
use Rattle.sheet_frames.proofs.Values.{value_in, value_low, value_high}
use Rattle.sheet_frames.proofs.digits.value_in.Goals as goal

pub returns-then-d-lt48 : goal.returns-then-d-lt48
returns-then-d-lt48 c = value_low c.args.d c.if-d-lt48.true

pub returns-then-d-gt70 : goal.returns-then-d-gt70
returns-then-d-gt70 c = value_high c.args.d c.if-d-gt70.true

pub returns : goal.returns
returns c = value_in c.args.values.now c.args.d c.requires (omega arith) (omega arith)

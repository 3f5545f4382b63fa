use native.Mathlib.Omega.{arith}
use Rattle.sheet_frames.proofs.Decoded.{pair_first, pair_second, pair_both}
use Rattle.sheet_frames.proofs.digits.pair.Goals as goal

pub returns-then-a-ge16 : goal.returns-then-a-ge16
returns-then-a-ge16 c = pair_first c.args.h c.args.l c.value_in-a.result c.value_in-a.ensures.0 c.if-a-ge16.true

pub returns-then-b-ge16 : goal.returns-then-b-ge16
returns-then-b-ge16 c = pair_second c.args.h c.args.l c.value_in-a.result c.value_in-b.result c.value_in-a.ensures.0 c.value_in-b.ensures.0 (omega arith) c.if-b-ge16.true

pub returns : goal.returns
returns c = pair_both c.args.h c.args.l c.value_in-a.result c.value_in-b.result c.value_in-a.ensures.0 c.value_in-b.ensures.0 (omega arith) (omega arith)

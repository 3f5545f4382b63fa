use mathlib.Core.Path.{refl}
use native.Mathlib.Omega.{arith}
use Rattle.sheet_frames.proofs.Decoded.{decoding_start, decoding_more, decoding_wrong, line_long, line_odd, line_wrong, line_right, taken_none, taken_right}
use Rattle.sheet_frames.proofs.digits.take_bytes.Goals as goal

pub returns-then-n-gt-DIGITS : goal.returns-then-n-gt-DIGITS
returns-then-n-gt-DIGITS c = taken_none c.args.line.now _ (line_long c.args.line.now c.if-n-gt-DIGITS.true)

pub returns-then-n-ne0 : goal.returns-then-n-ne0
returns-then-n-ne0 c = taken_none c.args.line.now _ (line_odd c.args.line.now (omega arith) c.if-n-ne0.true)

pub loop-j-init : goal.loop-j-init
loop-j-init c = (refl, decoding_start c.args.line.now _ c.requires)

pub pair-v-requires : goal.pair-v-requires
pair-v-requires c = c.loop-j.invariant.0

pub returns-then-v-ge256 : goal.returns-then-v-ge256
returns-then-v-ge256 c = taken_none c.args.line.now _ (line_wrong c.args.line.now (omega arith) (decoding_wrong c.args.line.now c.loop-j.out c.loop-j.j c.pair-v.result c.loop-j.invariant.1 (omega arith) c.pair-v.ensures c.if-v-ge256.true))

pub bounds-out-j : goal.bounds-out-j
bounds-out-j c = omega (arith, c.loop-j.invariant.1.long)

pub loop-j-preserved : goal.loop-j-preserved
loop-j-preserved c = (c.loop-j.invariant.0, decoding_more c.args.line.now c.loop-j.out c.loop-j.j c.pair-v.result c.loop-j.invariant.1 (omega arith) (omega arith) c.pair-v.ensures (omega arith))

pub returns : goal.returns
returns c = taken_right c.args.line.now c.loop-j.out _ (line_right c.args.line.now c.loop-j.out _ c.loop-j.j (omega arith) (omega arith) refl (omega arith) (omega arith) c.loop-j.invariant.1) (omega arith)

use Prim.Native.Nat.{◌+◌}
use native.Mathlib.Omega.{arith}
use Rattle.site_body.proofs.Turns.{word_past}
use Rattle.site_body.proofs.word_at.Goals as goal

pub returns-then-b-at : goal.returns-then-b-at
returns-then-b-at c = word_past c.args.b.now c.args.at c.if-b-at.true

pub overflow_mul-result : goal.overflow_mul-result
overflow_mul-result c = omega (arith, c.from.ensures, c.shared_slice_known-1.given c.args.at)

pub overflow_add-result : goal.overflow_add-result
overflow_add-result c = omega (arith, c.from.ensures, c.shared_slice_known-1.given c.args.at, c.from-2.ensures, c.byte_at.ensures, c.shared_slice_known-1.given (c.args.at + 1))

pub overflow_cast-result : goal.overflow_cast-result
overflow_cast-result c = omega (arith, c.from.ensures, c.shared_slice_known-1.given c.args.at, c.from-2.ensures, c.byte_at.ensures, c.shared_slice_known-1.given (c.args.at + 1))

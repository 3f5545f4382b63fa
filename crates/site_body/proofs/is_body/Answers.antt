use mathlib.Core.Path.{◌∙◌}
use Rattle.site_body.proofs.Turns.{tail_low, shape_past, shape_wrong, shape_bool, shape_right}
use native.Mathlib.Omega.{arith}
use Rattle.site_body.proofs.is_body.Goals as goal

pub returns-then-k-ge-KINDS : goal.returns-then-k-ge-KINDS
returns-then-k-ge-KINDS c = shape_past c.args.b.now c.from-k.result (c.from-k.ensures ∙ c.byte_at.ensures) c.if-k-ge-KINDS.true

pub overflow_add-off_of-2 : goal.overflow_add-off_of-2
overflow_add-off_of-2 c = omega (arith, c.off_of.ensures.1, c.many_of.ensures.1, c.from.ensures, tail_low c.from-k.result (omega (arith, c.if-k-ge-KINDS.false)))

pub returns-then-b-off_of : goal.returns-then-b-off_of
returns-then-b-off_of c = shape_wrong c.args.b.now c.from-k.result (c.from-k.ensures ∙ c.byte_at.ensures) c.off_of.result c.many_of.result c.from.result (omega (arith, c.if-k-ge-KINDS.false)) c.off_of.ensures.0 c.many_of.ensures.0 c.from.ensures c.if-b-off_of.true

pub returns-then-k-eq0 : goal.returns-then-k-eq0
returns-then-k-eq0 c = shape_bool c.args.b.now c.from-k.result (c.from-k.ensures ∙ c.byte_at.ensures) c.off_of.result c.many_of.result c.from.result (omega (arith, c.if-k-ge-KINDS.false)) c.off_of.ensures.0 c.many_of.ensures.0 c.from.ensures c.byte_at-then-k-eq0.result c.if-b-off_of.false c.if-k-eq0.true c.byte_at-then-k-eq0.ensures

pub returns : goal.returns
returns c = shape_right c.args.b.now c.from-k.result (c.from-k.ensures ∙ c.byte_at.ensures) c.off_of.result c.many_of.result c.from.result (omega (arith, c.if-k-ge-KINDS.false)) c.off_of.ensures.0 c.many_of.ensures.0 c.from.ensures c.if-b-off_of.false c.if-k-eq0.false

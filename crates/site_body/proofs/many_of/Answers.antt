use Prim.Native.Nat.{◌-◌}
use mathlib.Core.Path.{◌∙◌}
use Rattle.site_body.proofs.Turns.{off_least, many_past, many_none, many_one, many_more}
use native.Mathlib.Omega.{arith}
use Rattle.site_body.proofs.many_of.Goals as goal

pub returns-then-k-ge-KINDS : goal.returns-then-k-ge-KINDS
returns-then-k-ge-KINDS c = many_past c.args.b.now c.from-k.result (c.from-k.ensures ∙ c.byte_at.ensures) c.if-k-ge-KINDS.true

pub returns-then-way-eq0 : goal.returns-then-way-eq0
returns-then-way-eq0 c = many_none c.args.b.now c.from-k.result (c.from-k.ensures ∙ c.byte_at.ensures) c.if-way-eq0.true

pub returns-then-way-eq1 : goal.returns-then-way-eq1
returns-then-way-eq1 c = many_one c.args.b.now c.from-k.result (c.from-k.ensures ∙ c.byte_at.ensures) c.if-way-eq1.true

pub overflow_sub-off : goal.overflow_sub-off
overflow_sub-off c = off_least c.args.b.now c.from-k.result c.off_of-off.result (c.from-k.ensures ∙ c.byte_at.ensures) (omega (arith, c.if-k-ge-KINDS.false)) c.off_of-off.ensures.0

pub returns : goal.returns
returns c = many_more c.args.b.now c.from-k.result c.off_of-off.result c.from.result (c.from-k.ensures ∙ c.byte_at.ensures) c.if-way-eq0.false c.if-way-eq1.false c.off_of-off.ensures.0 (c.from.ensures ∙ c.byte_at-2.ensures) (omega (arith, c.from.ensures, c.byte_at-2.ensures, c.type_inv.b (c.off_of-off.result - 1)))

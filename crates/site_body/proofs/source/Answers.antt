use mathlib.Core.Path.{sym, ◌∙◌}
use native.Mathlib.Omega.{arith}
use Rattle.site_body.proofs.Bodies.{source_first, source_past, source_over, source_some}
use Rattle.site_body.proofs.source.Goals as goal

pub returns-then-j-eq0 : goal.returns-then-j-eq0
returns-then-j-eq0 c = rw c.if-j-eq0.true (source_first c.args.b.now (sym c.is_body.ensures ∙ c.if-not-is_body.true))

pub returns-then-not-is_body : goal.returns-then-not-is_body
returns-then-not-is_body c = source_past c.args.b.now (sym c.is_body.ensures ∙ c.if-not-is_body.true) c.args.j c.if-j-eq0.false

pub returns-then-many_of-j : goal.returns-then-many_of-j
returns-then-many_of-j c = source_over c.args.b.now (λ i. omega (arith, c.type_inv.b i)) (sym c.is_body.ensures ∙ c.if-not-is_body.false) c.many_of.result c.args.j c.many_of.ensures.0 c.if-many_of-j.true

pub returns : goal.returns
returns c = source_some c.args.b.now (λ i. omega (arith, c.type_inv.b i)) (sym c.is_body.ensures ∙ c.if-not-is_body.false) c.many_of.result c.args.j c.off_of.result c.word_at.result c.many_of.ensures.0 c.if-many_of-j.false c.off_of.ensures.0 c.word_at.ensures

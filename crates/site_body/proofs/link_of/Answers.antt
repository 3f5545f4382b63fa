use mathlib.Core.Path.{sym, ◌∙◌}
use Rattle.site_body.proofs.Bodies.{link_none, link_variant, link_struct, link_some, link_other}
use native.Mathlib.Omega.{arith}
use Rattle.site_body.proofs.link_of.Goals as goal

pub returns-then-not-is_body : goal.returns-then-not-is_body
returns-then-not-is_body c = link_none c.args.b.now (sym c.is_body.ensures ∙ c.if-not-is_body.true)

pub returns-then-k-eq8 : goal.returns-then-k-eq8
returns-then-k-eq8 c = link_variant c.args.b.now (λ i. omega (arith, c.type_inv.b i)) (sym c.is_body.ensures ∙ c.if-not-is_body.false) c.word_at.result c.word_at-then-k-eq8.result c.byte_at.result (sym c.byte_at-k.ensures ∙ c.if-k-eq8.true) c.word_at.ensures c.word_at-then-k-eq8.ensures c.byte_at.ensures

pub returns-then-k-eq10 : goal.returns-then-k-eq10
returns-then-k-eq10 c = link_struct c.args.b.now (λ i. omega (arith, c.type_inv.b i)) (sym c.is_body.ensures ∙ c.if-not-is_body.false) c.word_at-then-k-eq10.result c.byte_at-then-k-eq10.result (sym c.byte_at-k.ensures ∙ c.if-k-eq10.true) c.word_at-then-k-eq10.ensures c.byte_at-then-k-eq10.ensures

pub returns-then-k-eq12 : goal.returns-then-k-eq12
returns-then-k-eq12 c = link_some c.args.b.now (λ i. omega (arith, c.type_inv.b i)) (sym c.is_body.ensures ∙ c.if-not-is_body.false) c.word_at-then-k-eq12.result (sym c.byte_at-k.ensures ∙ c.if-k-eq12.true) c.word_at-then-k-eq12.ensures

pub returns : goal.returns
returns c = link_other c.args.b.now (λ i. omega (arith, c.type_inv.b i)) (sym c.is_body.ensures ∙ c.if-not-is_body.false) (λ q. c.if-k-eq8.false (c.byte_at-k.ensures ∙ q)) (λ q. c.if-k-eq10.false (c.byte_at-k.ensures ∙ q)) (λ q. c.if-k-eq12.false (c.byte_at-k.ensures ∙ q))

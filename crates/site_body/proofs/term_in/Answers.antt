use mathlib.Core.Path.{sym, ◌∙◌}
use Rattle.site_body.proofs.Bodies.{term_four, term_five, term_other}
use native.Mathlib.Omega.{arith}
use Rattle.site_body.proofs.term_in.Goals as goal

pub returns-then-k-eq4 : goal.returns-then-k-eq4
returns-then-k-eq4 c = term_four c.args.b.now (λ i. omega (arith, c.type_inv.b i)) c.requires c.word_at.result (sym c.byte_at-k.ensures ∙ c.if-k-eq4.true) c.word_at.ensures

pub returns-then-k-eq5 : goal.returns-then-k-eq5
returns-then-k-eq5 c = term_five c.args.b.now (λ i. omega (arith, c.type_inv.b i)) c.requires c.word_at-then-k-eq5.result (sym c.byte_at-k.ensures ∙ c.if-k-eq5.true) c.word_at-then-k-eq5.ensures

pub returns : goal.returns
returns c = term_other c.args.b.now (λ i. omega (arith, c.type_inv.b i)) c.requires (λ q. c.if-k-eq4.false (c.byte_at-k.ensures ∙ q)) (λ q. c.if-k-eq5.false (c.byte_at-k.ensures ∙ q))

use mathlib.Core.Path.{sym, ◌∙◌}
use native.Mathlib.Omega.{arith}
use Rattle.site_body.proofs.Bodies.{count_none, count_some}
use Rattle.site_body.proofs.source_count.Goals as goal

pub returns-then-not-is_body : goal.returns-then-not-is_body
returns-then-not-is_body c = count_none c.args.b.now (sym c.is_body.ensures ∙ c.if-not-is_body.true)

pub returns : goal.returns
returns c = count_some c.args.b.now (λ i. omega (arith, c.type_inv.b i)) (sym c.is_body.ensures ∙ c.if-not-is_body.false) c.many_of.result c.many_of.ensures.0

use mathlib.Core.Path.{sym, ◌∙◌}
use Rattle.site_body.proofs.Bodies.{kind_none, kind_some}
use native.Mathlib.Omega.{arith}
use Rattle.site_body.proofs.kind.Goals as goal

pub returns-then-not-is_body : goal.returns-then-not-is_body
returns-then-not-is_body c = kind_none c.args.b.now (sym c.is_body.ensures ∙ c.if-not-is_body.true)

pub returns : goal.returns
returns c = c.byte_at.ensures ∙ kind_some c.args.b.now (λ i. omega (arith, c.type_inv.b i)) (sym c.is_body.ensures ∙ c.if-not-is_body.false)

use mathlib.Core.Path.{sym, ap}
use native.Mathlib.Omega.{arith}
use Rattle.site_body.specs.Body.{found_as}
use Rattle.sites.proofs.Places.{find_here, find_none}
use Rattle.sites.proofs.find.Goals as goal

pub returns-then-i-count : goal.returns-then-i-count
returns-then-i-count c = ap found_as (sym (find_here c.args.m.now c.args.b.now (λ i. omega (arith, c.type_inv.m i)) (λ i. omega (arith, c.type_inv.b i)) c.requires c.args.count c.find-i.result c.find-i.ensures c.if-i-count.true))

pub returns-else-i-count : goal.returns-else-i-count
returns-else-i-count c = ap found_as (sym (find_none c.args.m.now c.args.b.now (λ i. omega (arith, c.type_inv.m i)) (λ i. omega (arith, c.type_inv.b i)) c.requires c.args.count c.find-i.result c.find-i.ensures c.if-i-count.false))

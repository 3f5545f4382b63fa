use native.Mathlib.Omega.{arith}
use Rattle.site_slots.proofs.Holding.{ending_short, ending_long}
use Rattle.site_slots.proofs.ending.Goals as goal

pub returns-then-n-eq3 : goal.returns-then-n-eq3
returns-then-n-eq3 c = ending_short c.args.b.now _ c.if-n-eq3.true c.quad.ensures

pub returns : goal.returns
returns c = ending_long c.args.b.now _ (omega (arith, c.requires, c.if-n-eq3.false)) c.quad-2.ensures

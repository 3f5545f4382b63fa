use native.Mathlib.Omega.{arith}
use Rattle.site_slots.specs.Seeking.{quad}
use Rattle.site_slots.proofs.quad.Goals as goal

pub returns : goal.returns
unfolding quad
returns c = omega arith

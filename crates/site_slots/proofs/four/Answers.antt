use Rattle.site_slots.specs.Seeking.{four_at}
use Rattle.site_slots.proofs.four.Goals as goal

pub returns : goal.returns
unfolding four_at
returns c = c.quad.ensures

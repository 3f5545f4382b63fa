use mathlib.Core.Path.{refl}
use Rattle.site_slots.proofs.Holding.{skip_to}
use Rattle.site_slots.proofs.candidate.Goals as goal

pub returns : goal.returns
returns c = skip_to c.args.m.now c.args.b.now c.args.from c.args.n c.requires.0 _ _ _ c.if-b-lt3.false refl c.ending.ensures c.seek.ensures

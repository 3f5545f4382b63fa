use Rattle.sheet_frames.proofs.Turns.{four_law}
use Rattle.sheet_frames.proofs.layout.four_at.Goals as goal

pub returns : goal.returns
returns c = four_law c.args.s.now c.args.at _ _ c.two_at-a.ensures c.two_at-b.ensures

use Rattle.sheet_frames.proofs.Turns.{eight_law}
use Rattle.sheet_frames.proofs.layout.eight_at.Goals as goal

pub returns : goal.returns
returns c = eight_law c.args.s.now c.args.at _ _ c.four_at-a.ensures c.four_at-b.ensures

use Rattle.sheet_frames.proofs.Turns.{two_law}
use Rattle.sheet_frames.proofs.layout.two_at.Goals as goal

pub returns : goal.returns
returns c = two_law c.args.s.now c.args.at _ c.word_at.ensures

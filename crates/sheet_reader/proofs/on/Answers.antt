use Rattle.sheet_reader.proofs.Acts.{goes_as}
use Rattle.sheet_reader.proofs.on.Goals as goal

pub returns : goal.returns
returns c = goes_as c.args.r _ _ _ _ c.next_line.ensures

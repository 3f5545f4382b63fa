use Rattle.sheet_reader.proofs.Acts.{next_is}
use Rattle.sheet_reader.proofs.next_line.Goals as goal

pub returns : goal.returns
returns c = next_is c.args.n _ c.ranges.n.fits c.saturating_add.ensures

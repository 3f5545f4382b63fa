use Rattle.sheet_reader.proofs.Acts.{stops_as}
use Rattle.sheet_reader.proofs.stop.Goals as goal

pub returns : goal.returns
returns c = stops_as _ _ _ _ _ _ _ c.write_stop.ensures.0 c.write_stop.ensures.1 c.unwrap_or-to.ensures

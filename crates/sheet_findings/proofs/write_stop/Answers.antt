use Rattle.sheet_findings.proofs.Rooms.{same_line, stop_is}
use Rattle.sheet_findings.proofs.write_stop.Goals as goal

pub returns : goal.returns
returns c = same_line _ _ _ _ _ _ (stop_is _ _ _ c.number_of.ensures) c.write_five.ensures

use Rattle.sheet_findings.proofs.Rooms.{same_line, refusal_is}
use Rattle.sheet_findings.proofs.write_refusal.Goals as goal

pub returns : goal.returns
returns c = same_line _ _ _ _ _ _ (refusal_is _ _ _ c.number_of.ensures) c.write_five.ensures

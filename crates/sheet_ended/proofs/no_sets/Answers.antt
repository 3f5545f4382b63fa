use Rattle.sheet_ended.proofs.Laws.{none_ended}
use Rattle.sheet_ended.proofs.no_sets.Goals as goal

pub returns : goal.returns
returns c = none_ended

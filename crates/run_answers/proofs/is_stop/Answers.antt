use Rattle.run_answers.proofs.Laws.{stop_is}
use Rattle.run_answers.proofs.is_stop.Goals as goal

pub returns : goal.returns
returns c = stop_is _ _ c.starts_with.ensures.value

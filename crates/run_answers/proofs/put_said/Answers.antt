use Rattle.run_answers.proofs.Laws.{said_in}
use Rattle.run_answers.proofs.put_said.Goals as goal

pub returns : goal.returns
returns c = said_in _ _ _ _ _ _ _ c.max-most.ensures c.explain.ensures.0 c.explain.ensures.1 c.unwrap_or.ensures

-- `run_script::put_answer` meets its contract. Assumes nothing.
use Rattle.tell_text.specs.Written.{follows}
use Rattle.run_script.proofs.put_answer.Goals as goal

pub returns-clause-result_after : goal.returns-clause-result_after
returns-clause-result_after c = follows _ _ _ _ _ c.put_reply-m.ensures c.put.ensures

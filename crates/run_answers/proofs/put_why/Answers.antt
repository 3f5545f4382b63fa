use borrow.Author.Rules.{rules}
use Rattle.run_answers.proofs.Laws.{why_put}
use Rattle.run_answers.proofs.put_why.Goals as goal

pub returns : goal.returns
returns c = why_put _ _ _ _ _ _ _ _ _ _ (search rules) c.bytes_of-k.ensures c.put_told-e.ensures c.part.ensures c.put_said.ensures

use borrow.Author.Rules.{rules}
use Rattle.run_answers.proofs.Laws.{explained_put}
use Rattle.run_answers.proofs.put_explained.Goals as goal

pub returns : goal.returns
returns c = explained_put _ _ _ _ _ _ _ _ (search rules) c.bytes_of-k.ensures c.part.ensures c.put_said.ensures

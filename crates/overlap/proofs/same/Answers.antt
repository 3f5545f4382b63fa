use borrow.Author.Rules.{rules}
use borrow.Author.Tests.{tests}
use Rattle.overlap.proofs.AnswerLaws.{same_is}
use Rattle.overlap.proofs.same.Goals as goal

pub returns-then-b-e : goal.returns-then-b-e
returns-then-b-e c = rw (same_is _ _ _ _ _ _) (search (tests, rules))

pub returns-else-b-e : goal.returns-else-b-e
returns-else-b-e c = rw (same_is _ _ _ _ _ _) (search (tests, rules))

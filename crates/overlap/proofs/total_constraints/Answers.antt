use Rattle.overlap.proofs.AnswerLaws.{total_is}
use Rattle.overlap.proofs.total_constraints.Goals as goal

pub returns : goal.returns
returns c = total_is _ _ _ _ _ c.start-a.ensures.value c.constrained.ensures.value c.equals.ensures.value

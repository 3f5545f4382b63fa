use Rattle.overlap.proofs.AnswerLaws.{equal_first, equal_second, equal_none}
use Rattle.overlap.proofs.subset.Goals as goal
use Rattle.overlap.proofs.subset.Goals.{then-equals-ne0-via-then-equals-ne0, then-equals-ne0-via-else-equals-ne0+then-equals-ne0-2}

pub returns-then-equals-ne0 : goal.returns-then-equals-ne0
returns-then-equals-ne0 c = elim c.then-equals-ne0.branch [
  | then-equals-ne0-via-then-equals-ne0 w ↦ equal_first _ _ _ _ c.equals.ensures.value w.if-equals-ne0.true
  | then-equals-ne0-via-else-equals-ne0+then-equals-ne0-2 w ↦ equal_second _ _ _ _ c.equals.ensures.value w.if-equals-ne0.false _ w.equals-else-equals-ne0.ensures.value w.if-equals-ne0-2.true
]

pub returns : goal.returns
returns c = equal_none _ _ _ _ c.equals.ensures.value c.if-equals-ne0.false _ c.equals-else-equals-ne0.ensures.value c.if-equals-ne0-2.false

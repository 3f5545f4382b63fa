use Rattle.overlap.proofs.AnswerLaws.{first_walked, second_walked}
use Rattle.overlap.proofs.may_overlap.Goals as goal

pub returns-then-n-m : goal.returns-then-n-m
returns-then-n-m c = first_walked _ _ _ _ _ _ _ c.start-a.ensures.value c.start-b.ensures.value c.constrained-n.ensures.value c.constrained-m.ensures.value _ c.if-n-m.true c.compare.ensures

pub returns : goal.returns
returns c = second_walked _ _ _ _ _ _ _ c.start-a.ensures.value c.start-b.ensures.value c.constrained-n.ensures.value c.constrained-m.ensures.value _ c.if-n-m.false c.compare-2.ensures

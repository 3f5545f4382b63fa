use Rattle.sheet_ended.proofs.Laws.{recs_not, recs_so}
use Rattle.sheet_ended.proofs.rec_marks.Goals as goal

pub returns-then-flags-ne1 : goal.returns-then-flags-ne1
returns-then-flags-ne1 c = recs_not _ _ _ c.if-flags-ne1.true

pub returns : goal.returns
returns c = recs_so _ _ _ _ c.if-flags-ne1.false c.flag.ensures.r_after

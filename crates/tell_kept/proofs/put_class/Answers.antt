use Rattle.tell_kept.proofs.Laws.{no_class, class_put}
use Rattle.tell_kept.proofs.put_class.Goals as goal

pub returns-then-equal_at-low : goal.returns-then-equal_at-low
returns-then-equal_at-low c = no_class _ _ _ _ _ _ _ c.lowest_at-low.ensures c.equal_at.ensures c.if-equal_at-low.true

pub returns : goal.returns
returns c = class_put _ _ _ _ _ _ _ _ _ _ c.lowest_at-low.ensures c.equal_at.ensures c.if-equal_at-low.false c.put_text-a.ensures c.put_members-d.ensures c.put_text.ensures

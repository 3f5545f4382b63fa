use Rattle.tell_kept.proofs.Laws.{no_member, member_put}
use Rattle.tell_kept.proofs.put_member.Goals as goal

pub returns-then-lowest_at-low : goal.returns-then-lowest_at-low
returns-then-lowest_at-low c = no_member _ _ _ _ _ _ c.lowest_at.ensures c.if-lowest_at-low.true

pub returns : goal.returns
returns c = member_put _ _ _ _ _ _ _ _ _ c.lowest_at.ensures c.if-lowest_at-low.false c.equal_at.ensures c.put_text-a.ensures c.put_site.ensures

use Rattle.tell_kept.proofs.Laws.{pair_put}
use Rattle.tell_kept.proofs.put_pair.Goals as goal

pub returns : goal.returns
returns c = pair_put _ _ _ _ _ _ _ _ _ _ _ _ _ _ c.start.ensures.value c.place.ensures c.start-2.ensures.value c.place-2.ensures c.may_overlap.ensures c.put_text-a.ensures c.put_four-b.ensures c.put_text-c.ensures c.put_four-d.ensures c.overlap_word.ensures

use Rattle.tell_kept.proofs.Laws.{kept_put}
use Rattle.tell_kept.proofs.put_kept.Goals as goal

pub returns : goal.returns
returns c = kept_put _ _ _ _ _ _ _ c.args.words.now c.args.i _ _ _ _ _ _ _ c.start-b.ensures.value c.place.ensures c.rank.ensures c.ranked.ensures c.constrained.ensures.value c.equals.ensures.value c.total_constraints.ensures c.put_head-a.ensures c.put_text-c.ensures c.put_all_constrained-d.ensures c.put_classes-e.ensures c.put_total.ensures

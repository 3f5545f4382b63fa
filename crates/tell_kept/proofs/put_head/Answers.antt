use Rattle.tell_kept.proofs.Laws.{chain4}
use Rattle.tell_kept.specs.Listed.{head_text}
use Rattle.tell_kept.proofs.put_head.Goals as goal

pub returns : goal.returns
unfolding head_text
returns c = chain4 _ _ _ _ _ _ _ _ _ c.put_text-a.ensures c.put_four-b.ensures c.put_text-c.ensures c.put_eight.ensures

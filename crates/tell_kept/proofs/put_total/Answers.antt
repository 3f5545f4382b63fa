use Rattle.tell_kept.proofs.Laws.{chain3}
use Rattle.tell_kept.specs.Listed.{total_line}
use Rattle.tell_kept.proofs.put_total.Goals as goal

pub returns : goal.returns
unfolding total_line
returns c = chain3 _ _ _ _ _ _ _ c.put_text-a.ensures c.put_decimal-b.ensures c.put_text.ensures

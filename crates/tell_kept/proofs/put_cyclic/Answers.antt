use Rattle.tell_kept.proofs.Laws.{chain3}
use Rattle.tell_kept.specs.Listed.{cyclic_line}
use Rattle.tell_kept.proofs.put_cyclic.Goals as goal

pub returns : goal.returns
unfolding cyclic_line
returns c = chain3 _ _ _ _ _ _ _ c.put_text-a.ensures c.put_terms-b.ensures c.put_text.ensures

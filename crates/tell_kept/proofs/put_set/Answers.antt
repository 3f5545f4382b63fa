use Rattle.tell_kept.proofs.Laws.{chain5}
use Rattle.tell_kept.specs.Listed.{set_line}
use Rattle.tell_kept.proofs.put_set.Goals as goal

pub returns : goal.returns
unfolding set_line
returns c = chain5 _ _ _ _ _ _ _ _ _ _ _ c.put_text-a.ensures c.put_two-b.ensures c.put_text-c.ensures c.put_hex-d.ensures c.put_text.ensures

use Rattle.tell_kept.proofs.Laws.{term_put}
use Rattle.tell_kept.proofs.put_term.Goals as goal

pub returns : goal.returns
returns c = term_put _ _ _ _ c.put_text-a.ensures c.put_two.ensures

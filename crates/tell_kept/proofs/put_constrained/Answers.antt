use Rattle.tell_kept.proofs.Laws.{c_put}
use Rattle.tell_kept.proofs.put_constrained.Goals as goal

pub returns : goal.returns
returns c = c_put _ _ _ _ _ _ _ c.args.words.now c.args.b c.args.k _ _ c.site_at.ensures c.constraint_at.ensures c.put_text-a.ensures c.put_site-d.ensures c.put_text-e.ensures c.put_constraint-f.ensures c.put_text.ensures

use mathlib.Core.Path.{◌∙◌}
use Rattle.tell_kept.proofs.Laws.{refused_put}
use Rattle.tell_kept.proofs.put_refused.Goals as goal

pub returns : goal.returns
returns c = refused_put _ _ _ _ _ _ _ _ _ _ (c.from.ensures ∙ c.number_of.ensures) c.put_head-a.ensures c.put_text-b.ensures c.put_decimal-c.ensures c.put_told-d.ensures c.put_text.ensures

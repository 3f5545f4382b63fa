use Rattle.plan_text.proofs.Anew.{term_is}
use Rattle.plan_text.proofs.term.Goals as goal

pub returns : goal.returns
returns c = term_is _ _ _ _ _ _ c.digit-a.ensures c.digit-b.ensures c.digit-c.ensures c.digit-d.ensures

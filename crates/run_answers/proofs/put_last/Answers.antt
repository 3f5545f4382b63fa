use Rattle.run_answers.proofs.Laws.{last_stop, last_cyclic}
use Rattle.run_answers.proofs.put_last.Goals as goal

pub returns-then-is_stop : goal.returns-then-is_stop
returns-then-is_stop c = last_stop _ _ _ _ _ c.is_stop.ensures c.if-is_stop.true c.put_text.ensures

pub returns : goal.returns
returns c = last_cyclic _ _ _ _ _ _ _ c.is_stop.ensures c.if-is_stop.false c.cyclic_terms-l.ensures c.terms_of.ensures c.put_cyclic.ensures

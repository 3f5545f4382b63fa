use Rattle.tell_kept.proofs.Laws.{term_turn, term_done}
use Rattle.tell_kept.proofs.put_terms.Goals as goal

pub loop-term-preserved : goal.loop-term-preserved
loop-term-preserved c = term_turn _ _ _ _ _ c.loop-term-test.true c.loop-term.invariant c.put_term-e.ensures

pub returns : goal.returns
returns c = term_done _ _ _ _ c.loop-term-test.false c.loop-term.invariant

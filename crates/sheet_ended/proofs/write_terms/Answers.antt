use native.Mathlib.Omega.{arith}
use Rattle.sheet_ended.proofs.Laws.{listing_none, listing_turn}
use Rattle.sheet_ended.proofs.write_terms.Goals as goal

pub loop-term-init : goal.loop-term-init
loop-term-init c = listing_none _ _ _

pub loop-term-preserved : goal.loop-term-preserved
loop-term-preserved c = listing_turn _ _ _ _ _ _ _ _ _ c.loop-term.invariant (omega arith) (omega arith) c.write_term.ensures.0 c.write_term.ensures.1 c.unwrap_or-end.ensures

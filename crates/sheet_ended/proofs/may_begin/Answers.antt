use native.Mathlib.Omega.{arith}
use Rattle.sheet_ended.proofs.Laws.{begins_used, begins_many, begins_high, begins_fine}
use Rattle.sheet_ended.proofs.may_begin.Goals as goal

pub returns-then-has_term : goal.returns-then-has_term
returns-then-has_term c = begins_used c.args.e _ _ _ c.has_term.ensures c.if-has_term.true

pub returns-then-from-ge-SETS : goal.returns-then-from-ge-SETS
returns-then-from-ge-SETS c = begins_many c.args.e _ _ _ c.has_term.ensures c.if-has_term.false _ (omega arith) (omega arith)

pub returns-then-from-ge-TERMS : goal.returns-then-from-ge-TERMS
returns-then-from-ge-TERMS c = begins_high c.args.e _ _ _ c.has_term.ensures c.if-has_term.false _ (omega arith) (omega arith) (omega arith)

pub returns : goal.returns
returns c = begins_fine c.args.e _ _ _ c.has_term.ensures c.if-has_term.false (omega arith) (omega arith)

use native.Mathlib.Omega.{arith}
use Rattle.sheet_read.proofs.Finished.{end_stopped, end_held, end_open, end_found}
use Rattle.sheet_read.proofs.end.Goals as goal
use Rattle.sheet_read.proofs.end.Goals.{else-s-eq0-via-then-s-eq0+else-outside, else-s-eq0-via-else-s-eq0}

pub returns-then-s-clause-by_index : goal.returns-then-s-clause-by_index
returns-then-s-clause-by_index c = λ m ws i. end_stopped c.args.s _ _ _ (omega arith) c.if-s.true

pub returns-then-outside-clause-by_index : goal.returns-then-outside-clause-by_index
returns-then-outside-clause-by_index c = λ m ws i. end_found c.args.s _ _ _ (omega arith) _ _ c.if-s.false (omega (arith, c.if-s-eq0.true)) _ c.outside.ensures c.if-outside.true (c.write_found.ensures.value, c.write_found.ensures.room_after)

pub returns-clause-by_index : goal.returns-clause-by_index
returns-clause-by_index c = elim c.else-s-eq0.branch [
  | else-s-eq0-via-then-s-eq0+else-outside w ↦ λ m ws i. end_open c.args.s _ _ _ (omega arith) _ _ c.if-s.false (omega (arith, w.if-s-eq0.true)) _ w.outside.ensures w.if-outside.false c.write_stop.ensures
  | else-s-eq0-via-else-s-eq0 w ↦ λ m ws i. end_held c.args.s _ _ _ (omega arith) _ _ c.if-s.false (omega (arith, w.if-s-eq0.false)) c.write_stop.ensures
]

-- `rule_load::settle` meets its contract. Assumes nothing.
use native.Mathlib.Omega.{arith}
use Rattle.rule_load.proofs.Gates.{constrained_many, equal_many, room_short, settled_so}
use Rattle.rule_load.proofs.settle.Goals as goal

pub returns-then-held-gt-CONSTRAINED : goal.returns-then-held-gt-CONSTRAINED
returns-then-held-gt-CONSTRAINED c = constrained_many _ _ _ _ _ c.if-held-gt-CONSTRAINED.true

pub returns-then-equal-gt-EQUALS : goal.returns-then-equal-gt-EQUALS
returns-then-equal-gt-EQUALS c = equal_many _ _ _ _ _ c.if-held-gt-CONSTRAINED.false c.if-equal-gt-EQUALS.true

pub overflow_cast-result-then-room-total : goal.overflow_cast-result-then-room-total
overflow_cast-result-then-room-total c = omega (arith, c.if-room-total.true, c.requires.0)

pub overflow_add-result : goal.overflow_add-result
overflow_add-result c = omega (arith, c.if-room-total.true, c.requires.0)

pub returns-then-room-total : goal.returns-then-room-total
returns-then-room-total c = rw c.from.ensures (room_short _ _ _ _ _ c.if-held-gt-CONSTRAINED.false c.if-equal-gt-EQUALS.false c.if-room-total.true)

pub returns : goal.returns
returns c = settled_so _ _ _ _ _ c.if-held-gt-CONSTRAINED.false c.if-equal-gt-EQUALS.false c.if-room-total.false

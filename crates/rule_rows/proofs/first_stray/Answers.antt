-- `rule_rows::first_stray` meets its contract. Assumes nothing.
use Rattle.std.proofs.Common.{arith}
use Rattle.rule_rows.proofs.Reading.{stray_low, stray_step, stray_found, stray_end}
use Rattle.rule_rows.proofs.first_stray.Goals as goal

pub returns-then-highest-lt-NEVER : goal.returns-then-highest-lt-NEVER
returns-then-highest-lt-NEVER c = stray_low _ _ c.highest.ensures c.if-highest-lt-NEVER.true

pub returns-then-x-ge-NEVER : goal.returns-then-x-ge-NEVER
returns-then-x-ge-NEVER c = stray_found _ _ c.loop-x-test.true c.if-x-ge-NEVER.true c.loop-x.invariant

pub loop-x-preserved : goal.loop-x-preserved
loop-x-preserved c = stray_step _ _ c.loop-x-test.true c.if-x-ge-NEVER.false c.loop-x.invariant

pub returns : goal.returns
returns c = stray_end _ c.loop-x.x-index (omega arith) c.loop-x.invariant

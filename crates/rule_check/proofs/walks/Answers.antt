-- `rule_check::walks` meets its contract. Assumes nothing.
use native.Mathlib.Omega.{arith}
use Rattle.rule_check.specs.Search.{none_of, none_at, from}
use Rattle.rule_check.proofs.walks.Goals as goal

pub returns-then-settled : goal.returns-then-settled
returns-then-settled c = none_of (c.settled.ensures c.if-settled.true)

pub returns-then-z-lt-NEVER : goal.returns-then-z-lt-NEVER
returns-then-z-lt-NEVER c = from _ c.if-z-lt-NEVER.true c.endless-z.ensures

pub returns : goal.returns
returns c = none_at (λ z h. let t = c.if-z-lt-NEVER.false in c.endless-z.ensures.least z (omega arith) h)

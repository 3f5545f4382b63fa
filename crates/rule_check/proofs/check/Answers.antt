-- `rule_check::check` meets its contract. Assumes nothing.
use mathlib.Core.Path.{sym}
use Rattle.rule_check.proofs.check.Goals as goal

pub returns-then-climbs : goal.returns-then-climbs
returns-then-climbs c = sym (c.climbs.ensures c.if-climbs.true)

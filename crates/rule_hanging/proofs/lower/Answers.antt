-- `rule_hanging::lower` meets its contract. Assumes nothing.
use Rattle.rule_hanging.proofs.Childless.{lower_off, lower_first, lower_min}
use mathlib.Core.Path.{sym, ◌∙◌}
use Rattle.rule_hanging.proofs.lower.Goals as goal

pub returns-then-not-yes : goal.returns-then-not-yes
returns-then-not-yes c = λ p ns eb ey. lower_off p _ ns _ eb (sym ey ∙ c.if-not-yes.true)

pub returns-in_default : goal.returns-in_default
returns-in_default c = λ p ns eb ey. lower_first p _ ns _ eb (sym ey ∙ c.if-not-yes.false) c.in_default.is

pub returns : goal.returns
returns c = λ p ns eb ey. lower_min p _ ns _ eb (sym ey ∙ c.if-not-yes.false) _ _ c.in-Some.is c.min.ensures

use Rattle.plan_text.proofs.Turns.{line_fits, next_ended, next_open}
use mathlib.Core.Path.{sym, ◌∙◌}
use native.Mathlib.Omega.{arith}
use Rattle.plan_text.proofs.line_from.Goals as goal

pub overflow_add-result : goal.overflow_add-result
overflow_add-result c = omega (arith, line_fits _ _ _ (sym c.line_end.ensures ∙ c.in-Some.is))

pub overflow_add-end : goal.overflow_add-end
overflow_add-end c = omega (arith, line_fits _ _ _ (sym c.line_end.ensures ∙ c.in-Some.is))

pub returns-in-Some : goal.returns-in-Some
returns-in-Some c = next_ended _ _ _ _ _ (sym c.line_end.ensures ∙ c.in-Some.is) c.part.ensures c.line_of.ensures

pub returns-in-None : goal.returns-in-None
returns-in-None c = next_open _ _ c.requires (sym c.line_end.ensures ∙ c.in-None.is)

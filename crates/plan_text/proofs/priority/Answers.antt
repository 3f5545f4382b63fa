use mathlib.Core.Path.{◌∙◌}
use Rattle.plan_text.proofs.Anew.{priority_is}
use Rattle.plan_text.proofs.priority.Goals as goal

pub returns : goal.returns
returns c = priority_is _ _ _ _ (c.from.ensures ∙ c.place-high.ensures) (c.from-2.ensures ∙ c.place-low.ensures)

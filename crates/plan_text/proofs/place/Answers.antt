use mathlib.Core.Path.{◌∙◌}
use Rattle.plan_text.proofs.Anew.{place_is}
use Rattle.plan_text.proofs.place.Goals as goal

pub returns : goal.returns
returns c = place_is _ _ _ _ (c.from.ensures ∙ c.term-high.ensures) (c.from-2.ensures ∙ c.term-low.ensures)

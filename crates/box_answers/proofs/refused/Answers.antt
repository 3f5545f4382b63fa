-- `box_answers::refused` meets its contract. Assumes nothing.
use mathlib.Core.Path.{◌∙◌}
use Rattle.box_answers.proofs.Crossing.{refused_as}
use Rattle.box_answers.proofs.refused.Goals as goal

pub returns : goal.returns
returns c = refused_as _ _ _ _ (c.from.ensures ∙ c.number_of.ensures) c.told_one.ensures c.told_two.ensures

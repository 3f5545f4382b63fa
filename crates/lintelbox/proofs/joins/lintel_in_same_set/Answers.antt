-- `lintelbox::joins::lintel_in_same_set` meets its contract. Assumes nothing.
use mathlib.Core.Path.{ap, ◌∙◌}
use Rattle.box_answers.specs.Border.{same_said}
use Rattle.box_answers.proofs.Crossing.{via, same_is}
use Rattle.lintelbox.proofs.joins.lintel_in_same_set.Goals as goal

pub returns : goal.returns
returns c = λ R n. via _ _ _ _ _ c.say.ensures (c.same_said.ensures ∙ ap same_said (c.in_same_set_in-e.ensures R n) ∙ same_is _)

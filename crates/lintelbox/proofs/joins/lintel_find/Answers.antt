-- `lintelbox::joins::lintel_find` meets its contract. Assumes nothing.
use mathlib.Core.Path.{ap, ◌∙◌}
use Rattle.box_answers.specs.Border.{looked_said}
use Rattle.box_answers.proofs.Crossing.{via, looked_is}
use Rattle.lintelbox.proofs.joins.lintel_find.Goals as goal

pub returns : goal.returns
returns c = λ R n. via _ _ _ _ _ c.say.ensures (c.looked_said.ensures ∙ ap looked_said (c.find_in-l.ensures R n) ∙ looked_is _)

use mathlib.Core.Path.{◌∙◌, ap}
use Rattle.term_table.specs.Table.{no_marks, listed}
use Rattle.term_table.proofs.Answers.{cyclic_listed}
use Rattle.term_table.proofs.cyclic_terms.Goals as goal

pub returns : goal.returns
unfolding no_marks
returns c = c.list.ensures ∙ ap listed (cyclic_listed _ _ c.close.ensures)

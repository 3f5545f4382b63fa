use mathlib.Core.Path.{◌∙◌, ap}
use Rattle.term_table.specs.Table.{listed}
use Rattle.term_table.proofs.Closing.{unmarked_closed}
use Rattle.term_table.proofs.Answers.{unflagged_listed}
use Rattle.term_table.proofs.findings.Goals as goal

pub returns-then-has_edges : goal.returns-then-has_edges
returns-then-has_edges c = c.list.ensures ∙ ap listed (unflagged_listed _ _ c.close.ensures _)

pub returns : goal.returns
returns c = c.list-2.ensures ∙ ap listed (unflagged_listed _ _ (unmarked_closed _ (c.has_edges.ensures c.if-has_edges.false)) _)

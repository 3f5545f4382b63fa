use Rattle.term_table.proofs.Turns.{read_row}
use Rattle.term_table.proofs.in_row.Goals as goal

pub returns : goal.returns
returns c = read_row _ _

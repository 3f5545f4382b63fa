use Rattle.sheet_ended.proofs.Laws.{edge_none, edge_some}
use Rattle.sheet_ended.proofs.add_edge.Goals as goal

pub returns-in_default : goal.returns-in_default
returns-in_default c = edge_none _ _ _ _ c.term.ensures c.in_default.is

pub returns-in-Some : goal.returns-in-Some
returns-in-Some c = edge_some _ _ _ _ _ _ c.term.ensures c.in-Some.is c.add.ensures.t_after

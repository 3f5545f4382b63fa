use Rattle.sheet_ended.proofs.Laws.{edges_none, edges_turn}
use Rattle.sheet_ended.proofs.add_edges.Goals as goal

pub loop-i-init : goal.loop-i-init
loop-i-init c = edges_none _ _ _

pub loop-i-preserved : goal.loop-i-preserved
loop-i-preserved c = edges_turn _ _ _ _ _ _ _ c.loop-i.invariant c.body.ensures c.add_edge.ensures

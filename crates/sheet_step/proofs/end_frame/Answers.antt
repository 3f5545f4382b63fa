use mathlib.Core.Path.{refl}
use Rattle.sheet_reader.proofs.Acts.{stop_stops}
use Rattle.sheet_step.proofs.Leaving.{ends_not, ends_ended}
use Rattle.sheet_step.proofs.Closed.{end_not, end_ended}
use Rattle.sheet_step.proofs.end_frame.Goals as goal

pub returns-in_default-clause-by_index : goal.returns-in_default-clause-by_index
returns-in_default-clause-by_index c = ends_not _ _ _ _ _ _ _ _ c.rule_set.ensures _ c.in_default.is c.stop.ensures

pub returns-in_default-clause-by_index_2 : goal.returns-in_default-clause-by_index_2
returns-in_default-clause-by_index_2 c = end_not c.args.r _ _ _ _ _ _ _ c.rule_set.ensures _ c.in_default.is (stop_stops _ _ _ _ _ _ c.requires.0 c.stop.ensures)

pub returns-clause-by_index : goal.returns-clause-by_index
returns-clause-by_index c = ends_ended _ _ _ _ _ _ _ _ c.rule_set.ensures _ _ _ _ _ c.in-Some.is c.report_at-to.ensures c.add_edges.ensures c.with_set-ended.ensures refl

pub returns-clause-by_index_2 : goal.returns-clause-by_index_2
returns-clause-by_index_2 c = end_ended c.args.r _ _ _ _ _ _ _ c.rule_set.ensures _ _ _ _ _ c.in-Some.is c.requires.0 c.report_at-to.ensures c.add_edges.ensures c.with_set-ended.ensures refl

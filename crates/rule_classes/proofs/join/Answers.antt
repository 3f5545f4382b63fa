-- `rule_classes::join` meets its contract. Assumes nothing.
use native.Mathlib.Omega.{arith}
use Rattle.rule_rows.specs.Holding.{held}
use Rattle.rule_classes.proofs.Grouping.{from_none, start_well, reps_of, join_clash, join_fine}
use Rattle.rule_classes.proofs.join.Goals as goal

pub close-requires-clause-well : goal.close-requires-clause-well
close-requires-clause-well c = start_well _ _ _ _ c.requires.0 (from_none _ _ _ _ _ _ _ c.clear_in.ensures c.written.ensures)

pub close-requires-clause-inside : goal.close-requires-clause-inside
close-requires-clause-inside c = c.requires.1.1

pub conflict-requires-clause-reps : goal.conflict-requires-clause-reps
conflict-requires-clause-reps c = reps_of _ _ _ _ _ _ c.close.ensures

pub conflict-requires-clause-m_le_max_sites : goal.conflict-requires-clause-m_le_max_sites
conflict-requires-clause-m_le_max_sites c = (omega (arith, c.holder_count-m.ensures), c.requires.1.0)

pub returns-in-Some : goal.returns-in-Some
returns-in-Some c = join_clash (held c.args.sites.now c.args.rows.now c.args.words.now c.args.kids.now) c.args.eqs.now _ _ _ c.requires (from_none _ _ _ _ _ _ _ c.clear_in.ensures c.written.ensures) _ _ c.holder_count-m.ensures c.from.ensures _ _ _ c.close.ensures _ _ _ c.in-Some.is c.conflict.ensures.clash_is

pub returns-in-None : goal.returns-in-None
returns-in-None c = join_fine (held c.args.sites.now c.args.rows.now c.args.words.now c.args.kids.now) c.args.eqs.now _ _ _ c.requires (from_none _ _ _ _ _ _ _ c.clear_in.ensures c.written.ensures) _ _ c.holder_count-m.ensures c.from.ensures _ _ _ c.close.ensures _ (c.conflict.ensures.seated c.in-None.is)

-- `rule_check::lowest_named` meets its contract. Assumes nothing.
use Rattle.rule_rows.specs.Holding.{chart}
use Rattle.rule_check.proofs.Naming.{zero_inside, searched_on, told_none, lowest_zero, lowest_all}
use Rattle.rule_check.proofs.lowest_named.Goals as goal

pub returning-requires-clause-ready : goal.returning-requires-clause-ready
returning-requires-clause-ready c = c.requires.ready

pub returning-requires-clause-l_lt_max_sites : goal.returning-requires-clause-l_lt_max_sites
returning-requires-clause-l_lt_max_sites c = zero_inside _ _ c.requires.ready _ c.rep_in-l.ensures

pub returning-requires-clause-fresh : goal.returning-requires-clause-fresh
returning-requires-clause-fresh c = c.requires.searched.fresh

pub returns-then-returning : goal.returns-then-returning
returns-then-returning c = lowest_zero (chart c.args.rows.now c.args.words.now c.args.kids.now) _ _ _ c.rep_in-l.ensures (c.returning.ensures.fact.0 c.if-returning.true)

pub lowest_of-a-requires-clause-ready : goal.lowest_of-a-requires-clause-ready
lowest_of-a-requires-clause-ready c = c.requires.ready

pub lowest_of-a-requires-clause-searched : goal.lowest_of-a-requires-clause-searched
lowest_of-a-requires-clause-searched c = searched_on (chart c.args.rows.now c.args.words.now c.args.kids.now) _ _ _ _ _ _ _ c.requires.searched c.returning.ensures.fresh_2

pub lowest_of-a-requires-clause-told : goal.lowest_of-a-requires-clause-told
lowest_of-a-requires-clause-told c = told_none (chart c.args.rows.now c.args.words.now c.args.kids.now) _ _

pub lowest_of-b-requires-clause-ready : goal.lowest_of-b-requires-clause-ready
lowest_of-b-requires-clause-ready c = c.requires.ready

pub lowest_of-b-requires-clause-searched : goal.lowest_of-b-requires-clause-searched
lowest_of-b-requires-clause-searched c = c.lowest_of-a.ensures.fact

pub lowest_of-b-requires-clause-told : goal.lowest_of-b-requires-clause-told
lowest_of-b-requires-clause-told c = c.lowest_of-a.ensures.fact_2.told

pub lowest_of-requires-clause-ready : goal.lowest_of-requires-clause-ready
lowest_of-requires-clause-ready c = c.requires.ready

pub lowest_of-requires-clause-searched : goal.lowest_of-requires-clause-searched
lowest_of-requires-clause-searched c = c.lowest_of-b.ensures.fact

pub lowest_of-requires-clause-told : goal.lowest_of-requires-clause-told
lowest_of-requires-clause-told c = c.lowest_of-b.ensures.fact_2.told

pub returns : goal.returns
returns c = lowest_all (chart c.args.rows.now c.args.words.now c.args.kids.now) _ _ c.args.eqs.now c.args.sites.now c.args.kids.now c.requires.all_named _ c.rep_in-l.ensures (c.returning.ensures.fact.1 c.if-returning.false) _ _ _ c.lowest_of-a.ensures.fact_2 c.lowest_of-b.ensures.fact_2 c.lowest_of.ensures.fact_2

-- `rule_check::endless` meets its contract. Assumes nothing.
use Rattle.rule_rows.specs.Holding.{chart}
use Rattle.rule_check.proofs.Naming.{searched_none}
use Rattle.rule_check.proofs.endless.Goals as goal

pub lowest_named-requires-clause-ready : goal.lowest_named-requires-clause-ready
lowest_named-requires-clause-ready c = c.requires.ready

pub lowest_named-requires-clause-all_named : goal.lowest_named-requires-clause-all_named
lowest_named-requires-clause-all_named c = c.requires.all_named

pub lowest_named-requires-clause-searched : goal.lowest_named-requires-clause-searched
lowest_named-requires-clause-searched c = searched_none (chart c.args.rows.now c.args.words.now c.args.kids.now) _ _

pub returns : goal.returns
returns c = c.lowest_named.ensures

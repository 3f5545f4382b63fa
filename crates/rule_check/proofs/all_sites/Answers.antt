-- `rule_check::all_sites` meets its contract. Assumes nothing.
use borrow.Author.Tests.{ltb-true}
use Rattle.rule_check.proofs.Judging.{low_strays}
use Rattle.rule_check.proofs.all_sites.Goals as goal

pub returns : goal.returns
returns c = λ e. low_strays c.args.eqs.now c.args.sites.now c.args.kids.now _ _ _ c.highest.ensures c.if-highest-ge-NEVER.false c.highest-else-highest-ge-NEVER.ensures c.if-highest-ge-NEVER-2.false c.highest-2.ensures (ltb-true _ _ e)

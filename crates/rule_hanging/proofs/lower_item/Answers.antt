-- `rule_hanging::lower_item` meets its contract. Assumes nothing.
use Rattle.rule_hanging.proofs.Childless.{lowest_is, lowest_equal}
use Rattle.rule_hanging.proofs.lower_item.Goals as goal

pub returns-in-Is : goal.returns-in-Is
returns-in-Is c = λ l X ns K eb. lowest_is l ns _ _ K eb _ _ _ _ c.in-Is.is (c.hangs.ensures l X) c.lower.ensures

pub returns-in-Equal : goal.returns-in-Equal
returns-in-Equal c = λ l X ns K eb. lowest_equal l ns _ _ K eb _ _ _ _ _ _ c.in-Equal.is (c.hangs-in-Equal.ensures l X) c.lower-second.ensures (c.hangs-in-Equal-2.ensures l X) c.lower-in-Equal.ensures

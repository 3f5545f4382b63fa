-- `rule_items::take_item` meets its contract. Assumes nothing.
use Rattle.rule_items.proofs.Stepping.{taken_as}
use Rattle.rule_items.proofs.take_item.Goals as goal

pub returns-in-Is-clause-turn : goal.returns-in-Is-clause-turn
returns-in-Is-clause-turn c = (λ l W. taken_as _ _ _ _ _ _ _ _ _ _ _ l _ _ c.in-Is.is (c.is_item.ensures.turn _ l W))

pub returns-in-Is-clause-inside : goal.returns-in-Is-clause-inside
returns-in-Is-clause-inside c = c.is_item.ensures.inside

pub returns-in-Equal-clause-turn : goal.returns-in-Equal-clause-turn
returns-in-Equal-clause-turn c = (λ l W. taken_as _ _ _ _ _ _ _ _ _ _ _ l _ _ c.in-Equal.is (c.equal_item.ensures _ _ _ _ _ _ l W))

pub returns-in-Equal-clause-inside : goal.returns-in-Equal-clause-inside
returns-in-Equal-clause-inside c = λ I. I

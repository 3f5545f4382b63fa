use Rattle.plan_text.proofs.Anew.{is_rule, is_set, is_mask, is_same, is_bad}
use Rattle.plan_text.proofs.line_of.Goals as goal

pub returns-then-is_rule : goal.returns-then-is_rule
returns-then-is_rule c = is_rule _ _ _ c.place-one.ensures c.priority-number.ensures _ c.is_rule.ensures c.if-is_rule.true

pub returns-then-is_set : goal.returns-then-is_set
returns-then-is_set c = is_set _ _ _ c.place-one.ensures c.priority-number.ensures _ c.is_rule.ensures c.if-is_rule.false _ c.term-set.ensures _ c.is_set.ensures c.if-is_set.true

pub returns-then-is_none : goal.returns-then-is_none
returns-then-is_none c = is_mask _ _ _ c.place-one.ensures c.priority-number.ensures _ c.is_rule.ensures c.if-is_rule.false _ c.term-set.ensures _ c.is_set.ensures c.if-is_set.false _ c.place-other.ensures _ c.is_none.ensures c.if-is_none.true

pub returns-then-is_none-2 : goal.returns-then-is_none-2
returns-then-is_none-2 c = is_same _ _ _ c.place-one.ensures c.priority-number.ensures _ c.is_rule.ensures c.if-is_rule.false _ c.term-set.ensures _ c.is_set.ensures c.if-is_set.false _ c.place-other.ensures _ c.is_none.ensures c.if-is_none.false _ c.is_none-2.ensures c.if-is_none-2.true

pub returns : goal.returns
returns c = is_bad _ _ _ c.place-one.ensures c.priority-number.ensures _ c.is_rule.ensures c.if-is_rule.false _ c.term-set.ensures _ c.is_set.ensures c.if-is_set.false _ c.place-other.ensures _ c.is_none.ensures c.if-is_none.false _ c.is_none-2.ensures c.if-is_none-2.false

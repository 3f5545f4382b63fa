use Rattle.sheet_rule.proofs.Small.{rule_more, rule_same}
use Rattle.sheet_rule.proofs.next_rule.Goals as goal

pub returns-then-n-ge-RULES : goal.returns-then-n-ge-RULES
returns-then-n-ge-RULES c = rule_same _ c.if-n-ge-RULES.true

pub returns-else-n-ge-RULES : goal.returns-else-n-ge-RULES
returns-else-n-ge-RULES c = rule_more _ c.if-n-ge-RULES.false

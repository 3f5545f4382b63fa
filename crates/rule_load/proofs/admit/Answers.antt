-- `rule_load::admit` meets its contract. Assumes nothing.
use Rattle.rule_load.proofs.Gates.{rules_many, rules_short, sites_many, items_many, place_had, admitted_so}
use Rattle.rule_load.proofs.admit.Goals as goal

pub returns-then-kept-ge-RULES : goal.returns-then-kept-ge-RULES
returns-then-kept-ge-RULES c = rules_many _ _ _ _ _ c.if-kept-ge-RULES.true

pub returns-then-words-start : goal.returns-then-words-start
returns-then-words-start c = rules_short _ _ _ _ _ c.if-kept-ge-RULES.false _ c.start.ensures.value c.if-words-start.true

pub returns-then-from-gt-SITES : goal.returns-then-from-gt-SITES
returns-then-from-gt-SITES c = rw (c.from-then-from-gt-SITES.ensures, c.from-then-from-gt-SITES-2.ensures) (sites_many _ _ _ _ _ c.if-kept-ge-RULES.false _ c.start.ensures.value c.if-words-start.false _ c.from.ensures c.if-from-gt-SITES.true)

pub returns-then-from-gt-ITEMS : goal.returns-then-from-gt-ITEMS
returns-then-from-gt-ITEMS c = rw c.from-then-from-gt-ITEMS.ensures (items_many _ _ _ _ _ c.if-kept-ge-RULES.false _ c.start.ensures.value c.if-words-start.false _ c.from.ensures c.if-from-gt-SITES.false (rw c.from-2.ensures at c.if-from-gt-ITEMS.true))

pub returns-then-used : goal.returns-then-used
returns-then-used c = place_had _ _ _ _ _ c.if-kept-ge-RULES.false _ c.start.ensures.value c.if-words-start.false _ c.from.ensures c.if-from-gt-SITES.false _ (rw c.from-2.ensures at c.if-from-gt-ITEMS.false) c.used.ensures c.if-used.true

pub returns : goal.returns
returns c = admitted_so _ _ _ _ _ c.if-kept-ge-RULES.false _ c.start.ensures.value c.if-words-start.false _ c.from.ensures c.if-from-gt-SITES.false _ (rw c.from-2.ensures at c.if-from-gt-ITEMS.false) c.used.ensures c.if-used.false

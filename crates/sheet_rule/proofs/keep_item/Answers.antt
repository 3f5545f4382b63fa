use native.Mathlib.Omega.{arith}
use Rattle.sheet_rule.proofs.Itemed.{item_past, item_here}
use Rattle.sheet_rule.proofs.keep_item.Goals as goal

pub returns-then-from-lt-ITEMS : goal.returns-then-from-lt-ITEMS
returns-then-from-lt-ITEMS c = item_here c.args.items.now _ c.args.k c.args.item (omega arith) c.hold_item.ensures.words_after c.hold_item.ensures.ranged

pub returns-else-from-lt-ITEMS : goal.returns-else-from-lt-ITEMS
returns-else-from-lt-ITEMS c = item_past c.args.items.now c.args.k c.args.item (omega arith)

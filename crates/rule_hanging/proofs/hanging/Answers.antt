-- `rule_hanging::hanging` meets its contract. Assumes nothing.
use Rattle.rule_hanging.proofs.Childless.{lowest_none, lowest_step, lowest_all}
use Rattle.item_words.proofs.Laws.{items_length}
use Rattle.rule_hanging.proofs.Names.{held_read}
use Rattle.item_words.specs.Items.{items_in as held_items}
use native.Mathlib.Omega.{arith}
use Rattle.rule_hanging.proofs.hanging.Goals as goal

pub loop-i-init : goal.loop-i-init
loop-i-init c = λ l X K. lowest_none (held_items c.args.items.now c.args.count) l

pub loop-i-preserved : goal.loop-i-preserved
loop-i-preserved c = λ l X K. lowest_step (held_items c.args.items.now c.args.count) _ _ l _ _ (let z = items_length c.args.items.now c.args.count in let b = c.loop-i-test.true in omega arith) (held_read c.args.items.now c.args.count _ _ c.loop-i-test.true c.item_at-it.ensures) K (c.loop-i.invariant l X K) (c.lower_item-best.ensures l X)

pub returns : goal.returns
returns c = λ l X K. lowest_all (held_items c.args.items.now c.args.count) c.loop-i.i l _ (let z = items_length c.args.items.now c.args.count in let b = c.loop-i-test.false in omega arith) (c.loop-i.invariant l X K)

use Rattle.rule_children.proofs.NextLaws.{on_tail, on_slot, on_both}
use Rattle.rule_children.proofs.next_site.Goals as goal

pub returns-then-n-i : goal.returns-then-n-i
returns-then-n-i c = on_tail c.args.m.now c.args.n c.args.tail.now c.args.k c.args.i c.args.w c.requires.1 _ c.if-n-i.true c.seek_word.ensures

pub returns-then-x-n : goal.returns-then-x-n
returns-then-x-n c = on_slot c.args.m.now c.args.n c.args.tail.now c.args.k c.args.i c.args.w c.requires.1 _ c.if-n-i.false c.seek-x.ensures c.if-x-n.true

pub returns : goal.returns
returns c = on_both c.args.m.now c.args.n c.args.tail.now c.args.k c.args.i c.args.w c.requires.1 _ c.if-n-i.false c.seek-x.ensures _ c.if-x-n.false c.seek_word-2.ensures

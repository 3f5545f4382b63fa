use mathlib.Core.Path.{◌≡◌}
use Rattle.std.proofs.Common.{get_or}
use borrow.Author.Rules.{rules}
use Rattle.rule_children.proofs.WordLaws.{there_low, there_high}
use Rattle.rule_children.proofs.word_of.Goals as goal

pub returns-then-x-n : goal.returns-then-x-n
returns-then-x-n c = there_low c.args.m.now c.args.n c.args.tail.now c.args.x _ c.if-x-n.true c.word_in.ensures

pub returns : goal.returns
returns c = let e : c.unwrap_or.result ≡ get_or c.args.tail.now c.from.result 0 = search rules in there_high c.args.m.now c.args.n c.args.tail.now c.args.x _ c.from.result c.if-x-n.false c.from.ensures (rw e at c.tail_word.ensures)

use Rattle.rule_children.proofs.NextLaws.{past_more, word_none, word_out}
use Rattle.rule_children.proofs.seek_word.Goals as goal

pub returns-in_default : goal.returns-in_default
returns-in_default c = word_out c.args.tail.now c.args.from c.args.first c.args.count c.args.to c.loop-j.j c.loop-j.auto.j c.loop-j.invariant _ c.from.ensures c.in_default.ensures.lookup.3

pub loop-j-preserved : goal.loop-j-preserved
loop-j-preserved c = past_more c.args.tail.now c.args.from c.args.first c.args.count c.loop-j.j _ _ c.from.ensures c.loop-j.invariant (rw (c.in-Some.ensures.lookup.3.1 0) at c.field_of.ensures) c.if-field_of-count.false

pub returns : goal.returns
returns c = word_none c.args.tail.now c.args.from c.args.first c.args.count c.args.to c.loop-j.j c.loop-j.auto.j c.loop-j.invariant c.loop-j-test.false

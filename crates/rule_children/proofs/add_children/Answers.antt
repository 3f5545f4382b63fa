use native.Mathlib.Omega.{arith}
use Rattle.rule_children.proofs.AnswerLaws.{answer_short, answer_high, answer_fields, answer_none, answer_unknown}
use Rattle.rule_children.proofs.add_children.Goals as goal

pub returns-then-tail-min : goal.returns-then-tail-min
returns-then-tail-min c = answer_short c.args.m.now c.args.n c.args.tail.now c.args.k c.args.at c.args.s c.args.c _ _ c.refuse.ensures (omega (arith, c.from.ensures, c.from-2.ensures)) (omega (arith, c.if-tail-min.true, c.min.ensures))

pub returns-then-total-ge65536 : goal.returns-then-total-ge65536
returns-then-total-ge65536 c = answer_high c.args.m.now c.args.n c.args.tail.now c.args.k c.args.at c.args.s c.args.c (omega (arith, c.if-tail-min.false, c.min.ensures)) _ _ c.refuse-then-total-ge65536.ensures (omega (arith, c.from.ensures, c.from-2.ensures)) c.if-total-ge65536.true

pub returns-then-count-gt-FIELDS : goal.returns-then-count-gt-FIELDS
returns-then-count-gt-FIELDS c = answer_fields c.args.m.now c.args.n c.args.tail.now c.args.k c.args.at c.args.s c.args.c (omega (arith, c.if-tail-min.false, c.min.ensures)) (omega (arith, c.from.ensures, c.from-2.ensures, c.if-total-ge65536.false)) _ _ c.refuse-then-count-gt-FIELDS.ensures c.arity-count.ensures.0 (omega (arith, c.if-count-gt-FIELDS.true))

pub returns-then-count-eq0 : goal.returns-then-count-eq0
returns-then-count-eq0 c = answer_none c.args.m.now c.args.n c.args.tail.now c.args.k c.args.at c.args.s c.args.c (omega (arith, c.if-tail-min.false, c.min.ensures)) (omega (arith, c.from.ensures, c.from-2.ensures, c.if-total-ge65536.false)) (omega (arith, c.arity-count.ensures.0, c.if-count-gt-FIELDS.false)) _ (omega (arith, c.from.ensures, c.from-2.ensures)) (omega (arith, c.arity-count.ensures.0, c.if-count-eq0.true))

pub returns-then-total-from : goal.returns-then-total-from
returns-then-total-from c = answer_unknown c.args.m.now c.args.n c.args.tail.now c.args.k c.args.at c.args.s c.args.c (omega (arith, c.if-tail-min.false, c.min.ensures)) (omega (arith, c.from.ensures, c.from-2.ensures, c.if-total-ge65536.false)) (omega (arith, c.arity-count.ensures.0, c.if-count-gt-FIELDS.false)) _ c.refuse-then-total-from.ensures (λ z. c.if-count-eq0.false (omega (arith, c.arity-count.ensures.0))) (omega (arith, c.from.ensures, c.from-2.ensures, c.from-3.ensures, c.if-total-from.true))

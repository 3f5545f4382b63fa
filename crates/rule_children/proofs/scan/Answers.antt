use native.Mathlib.Omega.{arith}
use Rattle.rule_children.proofs.ScanLaws.{walk_early, walk_end, walking_start, walking_on, walking_less, walking_turn}
use Rattle.rule_children.proofs.scan.Goals as goal

pub loop-missing-init : goal.loop-missing-init
loop-missing-init c = (omega arith, walking_start c.args.m.now c.args.n c.args.tail.now c.args.s c.want-w.result)

pub next_site-x-requires : goal.next_site-x-requires
next_site-x-requires c = (c.requires.1, c.loop-missing.invariant.0)

pub overflow_add-n : goal.overflow_add-n
overflow_add-n c = omega (arith, c.requires.1)

pub returns-then-n-k : goal.returns-then-n-k
returns-then-n-k c = record { numbers = walk_end c.args.m.now c.args.n c.args.tail.now c.args.s c.args.c c.requires.0 _ c.loop-missing.missing _ (walking_on c.args.m.now c.args.n c.args.tail.now c.args.s c.want-w.result (λ i. omega (arith, c.type_inv.m i)) c.args.k c.requires.1 c.loop-missing.i c.loop-missing.missing _ c.loop-missing.invariant.1 _ c.next_site-x.ensures c.args.c c.want-w.ensures c.requires.0) c.args.k (let x = c.next_site-x.ensures.high in let y = c.if-n-k.true in omega arith); missing = (c.loop-missing.invariant.1 c.args.c c.want-w.ensures c.requires.0).left }

pub note-missing-requires : goal.note-missing-requires
note-missing-requires c = let e = c.want-w.ensures.count in omega (arith, c.requires.0)

pub overflow_sub-missing : goal.overflow_sub-missing
overflow_sub-missing c = walking_less c.args.m.now c.args.n c.args.tail.now c.args.s c.want-w.result (λ i. omega (arith, c.type_inv.m i)) c.args.k c.requires.1 c.loop-missing.i c.loop-missing.missing _ c.loop-missing.invariant.1 _ c.next_site-x.ensures _ _ _ _ c.if-n-k.false c.field_of-f.ensures c.word_of.ensures c.note-missing.ensures c.args.c c.want-w.ensures c.requires.0

pub overflow_add-i : goal.overflow_add-i
overflow_add-i c = omega (arith, c.requires.1, c.if-n-k.false)

pub loop-missing-smaller : goal.loop-missing-smaller
loop-missing-smaller c = let l = c.next_site-x.ensures.low in omega (arith, c.if-n-k.false)

pub loop-missing-preserved : goal.loop-missing-preserved
loop-missing-preserved c = (omega (arith, c.if-n-k.false), walking_turn c.args.m.now c.args.n c.args.tail.now c.args.s c.want-w.result (λ i. omega (arith, c.type_inv.m i)) c.args.k c.requires.1 c.loop-missing.i c.loop-missing.missing _ c.loop-missing.invariant.1 _ c.next_site-x.ensures _ _ _ _ c.if-n-k.false c.field_of-f.ensures c.word_of.ensures c.note-missing.ensures)

pub returns : goal.returns
returns c = record { numbers = walk_early c.args.m.now c.args.n c.args.tail.now c.args.s c.args.c c.requires.0 c.loop-missing.i c.loop-missing.missing _ (c.loop-missing.invariant.1 c.args.c c.want-w.ensures c.requires.0) c.args.k c.loop-missing.invariant.0 (omega (arith, c.loop-missing-test.false)) c.requires.1; missing = (c.loop-missing.invariant.1 c.args.c c.want-w.ensures c.requires.0).left }

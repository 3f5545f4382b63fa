use native.Mathlib.Omega.{arith}
use Rattle.rule_children.proofs.GrowLaws.{place_start, place_room, place_inside, next_new, next_old, place_length, place_end, whole_start, whole_new, whole_old, whole_end}
use Rattle.rule_children.specs.Tail.{table}
use Rattle.rule_children.proofs.place.Goals as goal
use Rattle.rule_children.proofs.place.Goals.{then-old, else-old}

pub loop-f-init : goal.loop-f-init
loop-f-init c = (place_start (table c.args.m.now c.args.n c.args.tail.now c.args.k) c.args.n c.args.k c.args.s c.args.c _ c.args.tail.now c.requires _ c.from-j.ensures, whole_start c.args.m.now c.args.n c.args.tail.now c.args.k c.args.s c.args.c _ c.from-j.ensures)

pub offset_bounds-tail-j : goal.offset_bounds-tail-j
offset_bounds-tail-j c = omega (arith, place_room (table c.args.m.now c.args.n c.args.tail.now c.args.k) c.args.n c.args.k c.args.s c.args.c _ c.args.tail.now c.requires _ _ c.loop-f.j c.loop-f.f c.loop-f.invariant.0 (omega (arith, c.arity-count.ensures.0, c.loop-f-test.true)) c.if-old.true)

pub bounds-tail-j : goal.bounds-tail-j
bounds-tail-j c = place_inside (table c.args.m.now c.args.n c.args.tail.now c.args.k) c.args.n c.args.k c.args.s c.args.c _ c.args.tail.now c.requires _ _ c.loop-f.j c.loop-f.f c.loop-f.invariant.0 (omega (arith, c.arity-count.ensures.0, c.loop-f-test.true)) c.if-old.true

pub overflow_cast-numbers : goal.overflow_cast-numbers
overflow_cast-numbers c = omega (arith, place_room (table c.args.m.now c.args.n c.args.tail.now c.args.k) c.args.n c.args.k c.args.s c.args.c _ c.args.tail.now c.requires _ _ c.loop-f.j c.loop-f.f c.loop-f.invariant.0 (omega (arith, c.arity-count.ensures.0, c.loop-f-test.true)) c.if-old.true)

pub overflow_add-numbers : goal.overflow_add-numbers
overflow_add-numbers c = omega (arith, place_room (table c.args.m.now c.args.n c.args.tail.now c.args.k) c.args.n c.args.k c.args.s c.args.c _ c.args.tail.now c.requires _ _ c.loop-f.j c.loop-f.f c.loop-f.invariant.0 (omega (arith, c.arity-count.ensures.0, c.loop-f-test.true)) c.if-old.true)

pub overflow_add-j : goal.overflow_add-j
overflow_add-j c = omega (arith, place_room (table c.args.m.now c.args.n c.args.tail.now c.args.k) c.args.n c.args.k c.args.s c.args.c _ c.args.tail.now c.requires _ _ c.loop-f.j c.loop-f.f c.loop-f.invariant.0 (omega (arith, c.arity-count.ensures.0, c.loop-f-test.true)) c.if-old.true)

pub loop-f-preserved : goal.loop-f-preserved
loop-f-preserved c = elim c.if-old.branch [ then-old w ↦ (next_new (table c.args.m.now c.args.n c.args.tail.now c.args.k) c.args.n c.args.k c.args.s c.args.c _ c.args.tail.now c.requires _ _ c.loop-f.j c.loop-f.f c.loop-f.invariant.0 (omega (arith, c.arity-count.ensures.0, c.loop-f-test.true)) w.child_word.result _ _ _ w.if-old.true w.child_word.ensures w.tail-is w.numbers-is w.j-is, whole_new c.args.m.now c.args.n c.args.tail.now c.args.k c.args.s c.args.c _ _ c.loop-f.j c.loop-f.f c.requires c.loop-f.invariant.1 (omega (arith, c.arity-count.ensures.0, c.loop-f-test.true)) w.child_word.result _ _ w.if-old.true w.child_word.ensures w.tail-is w.j-is (place_inside (table c.args.m.now c.args.n c.args.tail.now c.args.k) c.args.n c.args.k c.args.s c.args.c _ c.args.tail.now c.requires _ _ c.loop-f.j c.loop-f.f c.loop-f.invariant.0 (omega (arith, c.arity-count.ensures.0, c.loop-f-test.true)) w.if-old.true)) | else-old w ↦ (next_old (table c.args.m.now c.args.n c.args.tail.now c.args.k) c.args.n c.args.k c.args.s c.args.c _ c.args.tail.now c.requires _ _ c.loop-f.j c.loop-f.f c.loop-f.invariant.0 (omega (arith, c.arity-count.ensures.0, c.loop-f-test.true)) _ _ _ w.if-old.false w.tail-is w.numbers-is w.j-is, whole_old c.args.m.now c.args.n c.args.tail.now c.args.k c.args.s c.args.c _ _ c.loop-f.j c.loop-f.f c.requires c.loop-f.invariant.1 (omega (arith, c.arity-count.ensures.0, c.loop-f-test.true)) _ _ w.if-old.false w.tail-is w.j-is) ]

pub shape_of-tail : goal.shape_of-tail
shape_of-tail c = place_length (table c.args.m.now c.args.n c.args.tail.now c.args.k) c.args.k c.args.s c.args.c c.args.tail.now _ _ c.loop-f.j c.loop-f.f c.loop-f.invariant.0

pub returns : goal.returns
returns c = let e = place_end (table c.args.m.now c.args.n c.args.tail.now c.args.k) c.args.k c.args.s c.args.c c.args.tail.now _ _ c.loop-f.j c.loop-f.f c.loop-f.invariant.0 (omega (arith, c.arity-count.ensures.0, c.loop-f-test.false)) in (e.0, e.1, whole_end c.args.m.now c.args.n c.args.tail.now c.args.k c.args.s c.args.c _ _ c.loop-f.j c.loop-f.f c.loop-f.invariant.0 c.loop-f.invariant.1 (omega (arith, c.arity-count.ensures.0, c.loop-f-test.false)))

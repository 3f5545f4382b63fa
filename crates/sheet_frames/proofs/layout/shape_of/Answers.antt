use native.Mathlib.Omega.{arith}
use mathlib.Core.Path.{◌≡◌, sym}
use Prim.Native.Nat.{◌≤◌}
use lib.ListN.{length, get_or}
use Rattle.sheet_frames.proofs.Frames.{kind_at, shape_none, shape_past, shape_size, shape_variant, shape_struct, shape_prim, shape_some}
use Rattle.sheet_frames.proofs.layout.shape_of.Goals as goal

pub returns-then-s-eq0 : goal.returns-then-s-eq0
returns-then-s-eq0 c = sym (shape_none c.args.s.now c.if-s-eq0.true)

pub returns-then-k-ge6 : goal.returns-then-k-ge6
returns-then-k-ge6 c = let m : 6 ≤ get_or c.args.s.now 0 0 = omega (arith, c.if-k-ge6.true, c.from-k.ensures) in
    sym (shape_past c.args.s.now m)

pub returns-then-s-z : goal.returns-then-s-z
returns-then-s-z c = shape_size c.args.s.now c.from-k.result c.from-z.result c.if-s-eq0.false c.from-k.ensures (omega (arith, c.if-k-ge6.false)) c.from-z.ensures c.if-s-z.true

pub two_at-requires : goal.two_at-requires
two_at-requires c = let p = kind_at c.args.s.now c.from-k.result c.from-z.result 0 c.from-k.ensures c.from-z.ensures (omega (arith, c.if-s-z.false)) c.if-k-eq0.true in
    let l : length c.args.s.now ≡ 6 = p.0 in
    omega (arith, l)

pub two_at-requires-then-k-eq0 : goal.two_at-requires-then-k-eq0
two_at-requires-then-k-eq0 c = let p = kind_at c.args.s.now c.from-k.result c.from-z.result 0 c.from-k.ensures c.from-z.ensures (omega (arith, c.if-s-z.false)) c.if-k-eq0.true in
    let l : length c.args.s.now ≡ 6 = p.0 in
    omega (arith, l)

pub bounds-s-5 : goal.bounds-s-5
bounds-s-5 c = let p = kind_at c.args.s.now c.from-k.result c.from-z.result 0 c.from-k.ensures c.from-z.ensures (omega (arith, c.if-s-z.false)) c.if-k-eq0.true in
    let l : length c.args.s.now ≡ 6 = p.0 in
    omega (arith, l)

pub returns-then-k-eq0 : goal.returns-then-k-eq0
returns-then-k-eq0 c = let p = kind_at c.args.s.now c.from-k.result c.from-z.result 0 c.from-k.ensures c.from-z.ensures (omega (arith, c.if-s-z.false)) c.if-k-eq0.true in
    let e = shape_variant c.args.s.now p.0 p.1 in
    let f = c.two_at.ensures in
    let g = c.two_at-then-k-eq0.ensures in
    cc

pub two_at-requires-then-k-eq1 : goal.two_at-requires-then-k-eq1
two_at-requires-then-k-eq1 c = let p = kind_at c.args.s.now c.from-k.result c.from-z.result 1 c.from-k.ensures c.from-z.ensures (omega (arith, c.if-s-z.false)) c.if-k-eq1.true in
    let l : length c.args.s.now ≡ 4 = p.0 in
    omega (arith, l)

pub bounds-s-3 : goal.bounds-s-3
bounds-s-3 c = let p = kind_at c.args.s.now c.from-k.result c.from-z.result 1 c.from-k.ensures c.from-z.ensures (omega (arith, c.if-s-z.false)) c.if-k-eq1.true in
    let l : length c.args.s.now ≡ 4 = p.0 in
    omega (arith, l)

pub returns-then-k-eq1 : goal.returns-then-k-eq1
returns-then-k-eq1 c = let p = kind_at c.args.s.now c.from-k.result c.from-z.result 1 c.from-k.ensures c.from-z.ensures (omega (arith, c.if-s-z.false)) c.if-k-eq1.true in
    let e = shape_struct c.args.s.now p.0 p.1 in
    let f = c.two_at-then-k-eq1.ensures in
    cc

pub bool_of-requires : goal.bool_of-requires
bool_of-requires c = kind_at c.args.s.now c.from-k.result c.from-z.result 2 c.from-k.ensures c.from-z.ensures (omega (arith, c.if-s-z.false)) c.if-k-eq2.true

pub int_of-requires : goal.int_of-requires
int_of-requires c = kind_at c.args.s.now c.from-k.result c.from-z.result 3 c.from-k.ensures c.from-z.ensures (omega (arith, c.if-s-z.false)) c.if-k-eq3.true

pub two_at-requires-then-k-eq4 : goal.two_at-requires-then-k-eq4
two_at-requires-then-k-eq4 c = let p = kind_at c.args.s.now c.from-k.result c.from-z.result 4 c.from-k.ensures c.from-z.ensures (omega (arith, c.if-s-z.false)) c.if-k-eq4.true in
    let l : length c.args.s.now ≡ 3 = p.0 in
    omega (arith, l)

pub returns-then-k-eq4 : goal.returns-then-k-eq4
returns-then-k-eq4 c = let p = kind_at c.args.s.now c.from-k.result c.from-z.result 4 c.from-k.ensures c.from-z.ensures (omega (arith, c.if-s-z.false)) c.if-k-eq4.true in
    let e = shape_prim c.args.s.now p.0 p.1 in
    let f = c.two_at-then-k-eq4.ensures in
    cc

pub returns : goal.returns
returns c = let p = kind_at c.args.s.now c.from-k.result c.from-z.result 5 c.from-k.ensures c.from-z.ensures (omega (arith, c.if-s-z.false)) (omega (arith, c.if-k-ge6.false, c.if-k-eq0.false, c.if-k-eq1.false, c.if-k-eq2.false, c.if-k-eq3.false, c.if-k-eq4.false)) in
    sym (shape_some c.args.s.now p.0 p.1)

use mathlib.Core.Path.{refl, sym}
use native.Mathlib.Omega.{arith}
use lib.Seq.{length-take-le}
use Rattle.sites.proofs.Unfolds.{unfold_unknown, unfold_long, ends, unfold_short, unfold_done}
use Rattle.sites.proofs.unfold.Goals as goal

pub returns-then-count-s : goal.returns-then-count-s
returns-then-count-s c = unfold_unknown c.args.m.now c.args.count c.args.s c.args.room.now c.if-count-s.true

pub returns-in_default : goal.returns-in_default
returns-in_default c = unfold_long c.args.m.now c.args.count c.args.s c.args.room.now c.if-count-s.false _ c.too_long-over.ensures _ _ refl (rw c.in_default.is at c.unfold_site.ensures)

pub returns-then-room-e : goal.returns-then-room-e
returns-then-room-e c = unfold_short c.args.m.now c.args.count c.args.s c.args.room.now c.if-count-s.false _ c.too_long-over.ensures _ _ refl _ (rw c.in-Some.is at c.unfold_site.ensures) c.if-room-e.true

pub slice_bounds-aside-end : goal.slice_bounds-aside-end
slice_bounds-aside-end c = let z = ends c.args.m.now c.args.count c.args.s c.args.room.now c.if-count-s.false _ c.too_long-over.ensures _ _ refl _ (rw c.in-Some.is at c.unfold_site.ensures) in let k = c.unfold_site.auto.out in omega (arith, z.1)

pub slice_bounds-put_at-end : goal.slice_bounds-put_at-end
slice_bounds-put_at-end c = let z = ends c.args.m.now c.args.count c.args.s c.args.room.now c.if-count-s.false _ c.too_long-over.ensures _ _ refl _ (rw c.in-Some.is at c.unfold_site.ensures) in let k = c.unfold_site.auto.out in sym (length-take-le _ _ (omega (arith, z.1)))

pub put_at-requires : goal.put_at-requires
put_at-requires c = let z = ends c.args.m.now c.args.count c.args.s c.args.room.now c.if-count-s.false _ c.too_long-over.ensures _ _ refl _ (rw c.in-Some.is at c.unfold_site.ensures) in let k = c.unfold_site.auto.out in omega (arith, z.1, length-take-le c.in-Some.e c.unfold_site.new.out (omega (arith, z.1)))

pub returns : goal.returns
returns c = unfold_done c.args.m.now c.args.count c.args.s c.args.room.now c.if-count-s.false _ c.too_long-over.ensures _ _ refl _ (rw c.in-Some.is at c.unfold_site.ensures) _ (omega (arith, c.if-room-e.false)) c.put_at.ensures

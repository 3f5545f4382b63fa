use mathlib.Core.Path.{◌≡◌, refl}
use native.Mathlib.Omega.{arith}
use native.Mathlib.Numerals.{add-one}
use lib.ListN.{length, length-set}
use lib.Seq.{paste-zero, paste-suc, take-length}
use Rattle.sites.specs.Slots.{put}
use Rattle.sites.proofs.put_at.Goals as goal

pub loop-j-init : goal.loop-j-init
loop-j-init c = (omega arith, paste-zero c.args.m.now c.args.at c.args.s.now, refl)

pub bounds-s-j : goal.bounds-s-j
bounds-s-j c = omega arith

pub overflow_add-m : goal.overflow_add-m
overflow_add-m c = omega arith

pub bounds-m-at : goal.bounds-m-at
bounds-m-at c = omega arith

pub overflow_add-j : goal.overflow_add-j
overflow_add-j c = omega arith

pub loop-j-smaller : goal.loop-j-smaller
loop-j-smaller c = omega arith

pub loop-j-preserved : goal.loop-j-preserved
loop-j-preserved c = (omega arith, rw (c.loop-j.invariant.1, paste-suc c.args.m.now c.args.at c.args.s.now c.loop-j.j 0 (omega arith) c.loop-j-test.true, add-one c.loop-j.j), simp length-set c.loop-j.invariant.2)

pub shape_of-m : goal.shape_of-m
shape_of-m c = c.loop-j.invariant.2

pub returns : goal.returns
unfolding put
returns c = let e : c.loop-j.j ≡ length c.args.s.now = omega arith in rw (c.loop-j.invariant.1, e, take-length c.args.s.now)

-- `classes::hang` meets its contract: hanging what is left of the way gives what hanging all of it gives. Assumes nothing.
use Prim.Native.Nat.{◌-◌, ◌+◌, ◌<◌}
use mathlib.Core.Path.{◌≡◌, refl}
use native.Mathlib.Omega.{arith}
use Rattle.paper.specs.Numbers.{max_sites}
use Rattle.classes.proofs.Updating.{hang_in, hang_turn, hang_end}
use Rattle.classes.proofs.hang.Goals as goal

pub loop-init : goal.loop-init
loop-init c = let e : (c.args.n + 1) - 1 ≡ c.args.n = omega arith in rw e (c.requires, refl)

pub offset_bounds-parents-from : goal.offset_bounds-parents-from
offset_bounds-parents-from c = let z : c.from.result < max_sites = hang_in _ _ _ _ c.from.ensures _ c.loop.invariant in omega arith

pub bounds-parents-from : goal.bounds-parents-from
bounds-parents-from c = hang_in _ _ _ _ c.from.ensures _ c.loop.invariant

pub loop-preserved : goal.loop-preserved
loop-preserved c =
    let e : (c.args.n + 1) - (c.loop.counter + 1) ≡ ((c.args.n + 1) - c.loop.counter) - 1 = omega arith in
    rw (e, c.replace-at.ensures.value, c.replace-at.ensures.after) (hang_turn _ _ _ _ c.from.ensures _ (omega arith) c.loop.invariant)

pub returns : goal.returns
returns c = hang_end _ _ _ _ (omega arith) c.loop.invariant

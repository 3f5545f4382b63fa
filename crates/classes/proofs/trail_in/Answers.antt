-- `classes::trail_in` meets its contract: what is left of the turns gives what all of them give. Assumes nothing.
use Prim.Native.Nat.{◌-◌}
use mathlib.Core.Path.{◌≡◌, ◌∙◌, sym, refl}
use Rattle.paper.specs.Numbers.{max_sites}
use Rattle.paper.specs.Classes.{find_in}
use Rattle.classes.proofs.Steps.{seek_none, at_out, at_root, at_step}
use native.Mathlib.Omega.{arith}
use Rattle.classes.proofs.trail_in.Goals as goal

pub loop-links-init : goal.loop-links-init
unfolding find_in
loop-links-init c = refl

pub returns-then-i-ge-SITES : goal.returns-then-i-ge-SITES
returns-then-i-ge-SITES c = at_out _ _ _ _ c.from-i.ensures (omega arith) c.if-i-ge-SITES.true c.loop-links.invariant

pub returns-then-up-at : goal.returns-then-up-at
returns-then-up-at c = at_root _ _ _ _ c.from-i.ensures (omega arith) (omega arith) c.if-up-at.true c.loop-links.invariant

pub loop-links-preserved : goal.loop-links-preserved
loop-links-preserved c = at_step _ _ _ _ c.from-i.ensures (omega arith) (omega arith) c.if-up-at.false c.loop-links.invariant

pub returns : goal.returns
returns c = let z : max_sites - c.loop-links.links ≡ 0 = omega arith in sym (seek_none _ _ _) ∙ (rw z at c.loop-links.invariant)

use mathlib.Core.Path.{sym, ap}
use Prim.Native.Nat.{ℕ, ◌*◌}
use native.Mathlib.Omega.{arith}
use Rattle.sites.proofs.Held.{slot_cut, slot_over}
use Rattle.sites.proofs.Places.{slot_part}
use Rattle.sites.proofs.body.Goals as goal

pub returns-then-m-at : goal.returns-then-m-at
returns-then-m-at c = sym (slot_cut c.args.m.now c.args.i (rw c.from-at.ensures at c.if-m-at.true))

pub returns-then-n-ge-SLOT : goal.returns-then-n-ge-SLOT
returns-then-n-ge-SLOT c = sym (slot_over c.args.m.now c.args.i (rw c.from-at.ensures at c.if-m-at.false) (rw (c.from-n.ensures, c.from-at.ensures) at c.if-n-ge-SLOT.true))

pub returns : goal.returns
returns c = slot_part c.args.m.now c.args.i c.from-n.result (c.from-at.result * 32) (ap (λ (k : ℕ). k * 32) c.from-at.ensures) (omega (arith, c.if-m-at.false)) c.from-n.ensures (omega (arith, c.if-n-ge-SLOT.false))

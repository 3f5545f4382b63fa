use mathlib.Core.Path.{◌∙◌}
use Prim.Native.Nat.{◌*◌}
use native.Mathlib.Omega.{arith}
use Rattle.sites.proofs.Put.{put_cons}
use Rattle.sites.proofs.store.Goals as goal

pub returns : goal.returns
returns c = c.put_at.ensures ∙ put_cons c.args.m.now (c.from-at.result * 32) _ c.args.b.now (omega arith) ∙ rw c.from-at.ensures

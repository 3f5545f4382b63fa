use native.Mathlib.Omega.{arith}
use Rattle.tell_kept.proofs.Laws.{instead, far_site, site_over, site_bytes}
use mathlib.Core.Path.{refl}
use Rattle.tell_kept.proofs.put_site.Goals as goal

pub returns-then-s-gt65535 : goal.returns-then-s-gt65535
returns-then-s-gt65535 c = instead _ _ _ _ (far_site _ _ _ (omega arith) c.if-s-gt65535.true) c.put_text.ensures

pub returns-in_default : goal.returns-in_default
returns-in_default c = instead _ _ _ _ (site_over _ _ _ _ _ refl c.unfold.ensures.0 c.in_default.is) c.put_text-in_default.ensures

pub returns : goal.returns
returns c = instead _ _ _ _ (site_bytes _ _ _ _ _ _ _ refl c.unfold.ensures.0 c.in-Ok.is c.unfold.ensures.1) c.put_first.ensures

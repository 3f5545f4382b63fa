use Rattle.plan_text.proofs.Turns.{first_so}
use mathlib.Core.Path.{refl}
use Rattle.plan_text.proofs.first_bad.Goals as goal

pub returns : goal.returns
returns c = first_so _ _ _ refl c.scan.ensures

-- One answer fits: `Faults`.
use mathlib.Core.Path.{◌≡◌, refl}
use mathlib.Core.Bool.{Bool, true, false}
use Rattle.rule_laid.specs.Laid.{Faults}

pub one_fault : {P : Type 0} (a b : Bool) → Faults a P → Faults b P → a ≡ b
one_fault true true F G = refl
one_fault false false F G = refl
one_fault true false F G = absurd (F.found refl (G.none refl))
one_fault false true F G = absurd (G.found refl (F.none refl))

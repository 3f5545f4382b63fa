-- Choosing between two, for the laws of what a line leaves.
use mathlib.Core.Path.{◌≡◌, sym, ap}
use mathlib.Core.Bool.{Bool, true, false}
use Rattle.std.specs.Prelude.{if◌then◌else◌}

pub if_yes : {A : Type 0} (b : Bool) (x y : A) → b ≡ true → x ≡ (if b then x else y)
if_yes b x y e = ap (λ c. if c then x else y) (sym e)

pub if_no : {A : Type 0} (b : Bool) (x y : A) → b ≡ false → y ≡ (if b then x else y)
if_no b x y e = ap (λ c. if c then x else y) (sym e)

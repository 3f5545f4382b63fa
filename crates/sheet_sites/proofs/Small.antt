-- Empty, or not; one site more.
use mathlib.Core.Path.{◌≡◌, sym, ◌∙◌}
use mathlib.Core.Bool.{Bool, true, false}
use mathlib.Core.List.{List}
use Prim.Native.Nat.{ℕ, ◌+◌, ◌<◌}
use lib.ListN.{length}
use lib.Dec.{eqb}
use borrow.Author.Tests.{eqb-true, eqb-false, lt-ltb}
use Rattle.sheet_sites.specs.Numbers.{next_of}

pub empty_is : (s : List ℕ) (t : Bool) → t ≡ eqb (length s) 0 → t ≡ true → length s ≡ 0
empty_is s t e h = eqb-true _ _ (sym e ∙ h)

pub filled_is : (s : List ℕ) (t : Bool) → t ≡ eqb (length s) 0 → t ≡ false → length s ≡ 0 → ⊥
filled_is s t e h = eqb-false _ _ (sym e ∙ h)

pub next_more : (n : ℕ) → n < 65535 → n + 1 ≡ next_of n
next_more n h = rw (lt-ltb n 65535 h)

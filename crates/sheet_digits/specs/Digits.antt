-- The digits of bytes: a line without its LF, as paper's `hex` has them.
use Rattle.std.specs.Prelude.{List, [], ◌∷◌, ℕ, ◌/◌, ◌%◌}
use Rattle.paper.specs.Layout.{digit_of}

unfoldable pub digits_of : List ℕ → List ℕ
digits_of [] = []
digits_of (b ∷ s) = digit_of (b / 16) ∷ digit_of (b % 16) ∷ digits_of s

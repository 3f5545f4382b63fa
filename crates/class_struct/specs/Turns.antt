-- The four calls in turn on one set of classes, as `class_struct::lent::in_turn` makes them: what they leave and answer, on any state.
use Rattle.std.specs.Prelude.{Bool}
use Rattle.std.specs.Prelude.{List, ℕ}
use Rattle.paper.specs.Classes.{Classes, find}
use Rattle.classes.specs.Called.{Looked}
use Rattle.paper.specs.Answered.{Maybe}
use Rattle.paper.specs.Answered.{Answer}
use Rattle.classes.specs.Called.{Taken}
use Rattle.classes.specs.Answers.{looked, sought, joined, taken}

abbrev pub After : Type 0
After = Classes × List ℕ × Answer Bool × Answer (Maybe ℕ) × Looked × Taken

abbrev pub turns_taken : Answer Bool → Answer (Maybe ℕ) → Looked → Classes × List ℕ × Taken → After
turns_taken j s l (c, m, t) = (c, m, j, s, l, t)

abbrev pub turns_sought : List ℕ → ℕ → Answer Bool → Classes × Answer (Maybe ℕ) → After
turns_sought m x j (c, s) = turns_taken j s (looked (find c x)) (taken c m x)

abbrev pub turns_joined : List ℕ → ℕ → ℕ → Classes × Answer Bool → After
turns_joined m x y (c, j) = turns_sought m x j (sought c y)

abbrev pub turns : Classes → List ℕ → ℕ → ℕ → After
turns c m x y = turns_joined m x y (joined c x y)

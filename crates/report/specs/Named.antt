-- How often lists name a pair: one of the two stands first, the other among its neighbours.
use Rattle.std.specs.Prelude.{List, [], ◌∷◌, ℕ, ◌+◌, length, eqb}
use Rattle.std.specs.Prelude.{if◌then◌else◌}
use Rattle.paper.specs.Words.{keep}
use Rattle.paper.specs.Rules.{Listed, overlap, mask}

unfoldable pub count : ℕ → List ℕ → ℕ
count j xs = length (keep (eqb j) xs)

unfoldable pub named_in : ℕ → ℕ → ℕ × List ℕ → ℕ
named_in i j l = if eqb l.0 i then count j l.1 else (if eqb l.0 j then count i l.1 else 0)

unfoldable pub times : ℕ → ℕ → List (ℕ × List ℕ) → ℕ
times i j [] = 0
times i j (l ∷ ls) = named_in i j l + times i j ls

-- the same of a report, by places: a mask names no edge
abbrev pub named_by : ℕ → ℕ → Listed → ℕ
named_by x y (overlap p ns) = named_in x y (p, ns)
named_by x y (mask p ns) = 0

unfoldable pub times_in : ℕ → ℕ → List Listed → ℕ
times_in x y [] = 0
times_in x y (l ∷ ls) = named_by x y l + times_in x y ls

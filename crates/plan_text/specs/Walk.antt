-- The same, as one walk over the lines does it: what the contracts cite. Walks.antt has that it is the same (`bad_is`, `rows_are`).
use Rattle.std.specs.Prelude.{◌≡◌, Bool, true, false, not, List, [], ◌∷◌, ◌++◌, ℕ, suc, ◌≤◌, ◌<◌, length, get_or, set, drop, eqb}
use Rattle.std.proofs.Math.Option.{Option, none, some}
use Rattle.paper.specs.Layout.{lines}
use Rattle.plan_text.specs.declared.Spoken.{Spoken}
use Rattle.plan_text.specs.declared.Spoken.TheVariants.{Set, Rule, None, Bad}
use Rattle.std.specs.declared.option.Option.TheVariants as option
use Rattle.paper.specs.Answered.{Maybe}
use Rattle.plan_text.specs.Proposal.{spoken, Row}

-- ---- the first bad line: a mark for each term that was named, and whether one was
abbrev pub misplaced_by : List Bool → Bool → Spoken → Bool
misplaced_by marks any (Set term) = get_or marks term false
misplaced_by marks any (Rule place priority) = not any
misplaced_by marks any None = not any
misplaced_by marks any Bad = true

abbrev pub marks_with : List Bool → Spoken → List Bool
marks_with marks (Set term) = set marks term true
marks_with marks (Rule place priority) = marks
marks_with marks None = marks
marks_with marks Bad = marks

unfoldable pub bad_by : List Bool → Bool → ℕ → List Spoken → Option ℕ
bad_by marks any at [] = none
bad_by marks any at (s ∷ ss) = elim (misplaced_by marks any s) [ true ↦ some at | false ↦ bad_by (marks_with marks s) true (suc at) ss ]

-- as the code answers it
abbrev pub laid : Option ℕ → Maybe ℕ
laid none = option.None
laid (some at) = option.Some at

-- ---- the rule lines of one set
abbrev pub row_of : Bool → ℕ → Spoken → List Row
row_of true at (Rule place priority) = record { place = place; priority = priority; line = at } ∷ []
row_of false at (Rule place priority) = []
row_of inside at (Set term) = []
row_of inside at None = []
row_of inside at Bad = []

abbrev pub inside_after : ℕ → Bool → Spoken → Bool
inside_after wanted inside (Set term) = eqb term wanted
inside_after wanted inside (Rule place priority) = inside
inside_after wanted inside None = inside
inside_after wanted inside Bad = inside

unfoldable pub rows_from : ℕ → Bool → ℕ → List Spoken → List Row
rows_from wanted inside at [] = []
rows_from wanted inside at (s ∷ ss) = row_of inside at s ++ rows_from wanted (inside_after wanted inside s) (suc at) ss

-- the rule lines behind `set TERM`, of any text
unfoldable pub rows_of : List ℕ → ℕ → List Row
rows_of text wanted = rows_from wanted false 1 (spoken (lines text))

-- ---- a line of a text, from where it begins to where the next does
pub record Begins (text : List ℕ) (from to : ℕ) (said : Spoken) : Type 0 where
  pub onward : from < to
  pub inside_text : to ≤ length text
  pub says : spoken (lines (drop from text)) ≡ said ∷ spoken (lines (drop to text))

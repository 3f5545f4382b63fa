-- Change request [11], a proposal: "a text of the lines above"; "`none` lines are passed over".
use Rattle.std.specs.Prelude.{Bool, true, false, List, [], ◌∷◌, ◌++◌, ℕ, suc}
use Rattle.std.proofs.Math.Option.{Option, none, some}
use Rattle.paper.specs.Words.{has, look, or_else}
use Rattle.paper.specs.Layout.{Lines, nothing, unended, line, lines}
use Rattle.plan_text.specs.declared.Spoken.{Spoken}
use Rattle.plan_text.specs.declared.Spoken.TheVariants.{Set, Rule, None, Bad}
use Rattle.plan_text.specs.Lines.{line_of}

-- what each line says; "every line ends with LF": a line that is not ended is bad
unfoldable pub spoken : Lines → List Spoken
spoken nothing = []
spoken (unended l) = Bad ∷ []
spoken (line l rest) = line_of (l ++ (10 ∷ [])) ∷ spoken rest

-- "bad LINE: that line is not as laid out (also: no LF; a rule or none line before any set; a set named twice)", behind lines that named these sets
abbrev pub misplaced : List ℕ → Spoken → Bool
misplaced named (Set term) = has named term
misplaced [] (Rule place priority) = true
misplaced (t ∷ named) (Rule place priority) = false
misplaced [] None = true
misplaced (t ∷ named) None = false
misplaced named Bad = true

abbrev pub with_set : List ℕ → Spoken → List ℕ
with_set named (Set term) = term ∷ named
with_set named (Rule place priority) = named
with_set named None = named
with_set named Bad = named

-- the first such line; the first of these lines has the number `at`
unfoldable pub bad_from : List ℕ → ℕ → List Spoken → Option ℕ
bad_from named at [] = none
bad_from named at (s ∷ ss) = elim (misplaced named s) [ true ↦ some at | false ↦ bad_from (with_set named s) (suc at) ss ]

-- "(decimal, from 1)"
unfoldable pub first_bad : List ℕ → Option ℕ
first_bad text = bad_from [] 1 (spoken (lines text))

-- ---- the sets of a text, each with its rule lines
pub record Row : Type 0 where
  pub place : ℕ
  pub priority : ℕ
  pub line : ℕ

-- the rule lines up to the next set
unfoldable pub rows_here : ℕ → List Spoken → List Row
rows_here at [] = []
rows_here at (Set term ∷ ss) = []
rows_here at (Rule place priority ∷ ss) = record { place = place; priority = priority; line = at } ∷ rows_here (suc at) ss
rows_here at (None ∷ ss) = rows_here (suc at) ss
rows_here at (Bad ∷ ss) = rows_here (suc at) ss

unfoldable pub sets_from : ℕ → List Spoken → List (ℕ × List Row)
sets_from at [] = []
sets_from at (Set term ∷ ss) = (term, rows_here (suc at) ss) ∷ sets_from (suc at) ss
sets_from at (Rule place priority ∷ ss) = sets_from (suc at) ss
sets_from at (None ∷ ss) = sets_from (suc at) ss
sets_from at (Bad ∷ ss) = sets_from (suc at) ss

pub data Proposal : Type 0 where
  bad_at : ℕ → Proposal
  sets : List (ℕ × List Row) → Proposal

abbrev pub told : Option ℕ → List (ℕ × List Row) → Proposal
told (some at) ps = bad_at at
told none ps = sets ps

unfoldable pub proposal : List ℕ → Proposal
proposal text = told (first_bad text) (sets_from 1 (spoken (lines text)))

-- "A set that the proposal leaves out, or has only `none` lines for, has length 0."
unfoldable pub rows_in : List (ℕ × List Row) → ℕ → List Row
rows_in ps term = or_else (look ps term) []

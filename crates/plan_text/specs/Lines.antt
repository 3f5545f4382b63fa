-- Change request [11], a line of a proposal: "set TERM", "rule PLACE PRIORITY", "none PLACE PLACE mask|same". "Words are split by one space, hexadecimal is
-- upper case, every line ends with LF. TERM 4 digits, PLACE 8, PRIORITY 16." A line has its LF here.
use Rattle.std.specs.Prelude.{◌≡◌, Bool, List, [], ◌∷◌, ◌++◌, ℕ, ◌+◌, ◌*◌, ◌%◌, ◌<◌, get_or}
use Rattle.std.specs.Prelude.{if◌then◌else◌}
use Rattle.paper.specs.Words.{same_list}
use Rattle.paper.specs.Layout.{digit}
use Rattle.paper.specs.Text.{unended}
use Rattle.plan.specs.Plans.{Obstacle, by_mask, by_sameness}
use Rattle.tell_plan.specs.PlanText.{set_head, rule_line, two_places, why_text}
use Rattle.plan_text.specs.declared.Spoken.{Spoken}
use Rattle.plan_text.specs.declared.Spoken.TheVariants.{Set, Rule, None, Bad}

-- the lines that `plan` writes; tell_plan has a rule's
unfoldable pub set_line : ℕ → List ℕ
set_line term = set_head term ++ (10 ∷ [])

unfoldable pub none_words : ℕ → ℕ → Obstacle → List ℕ
none_words a b why = unended "none " ++ (two_places a b ++ why_text why)

-- how many terms, places and priorities there are: what 4, 8 and 16 digits can say
abbrev pub terms : ℕ
terms = 65536

abbrev pub places : ℕ
places = 4294967296

abbrev pub priorities : ℕ
priorities = 18446744073709551616

-- ---- what a line says: it is the text of that, for some numbers. Every other text is bad.
pub record Nones (l : List ℕ) : Type 0 where
  pub one : ℕ
  pub other : ℕ
  pub why : Obstacle
  pub one_fits : one < places
  pub other_fits : other < places
  pub words : l ≡ none_words one other why

pub record Rules (l : List ℕ) (place priority : ℕ) : Type 0 where
  pub place_fits : place < places
  pub priority_fits : priority < priorities
  pub words : l ≡ rule_line place priority

pub record Sets (l : List ℕ) (term : ℕ) : Type 0 where
  pub fits : term < terms
  pub words : l ≡ set_line term

pub record Others (l : List ℕ) : Type 0 where
  pub no_set : (term : ℕ) → Sets l term → ⊥
  pub no_rule : (place priority : ℕ) → Rules l place priority → ⊥
  pub no_none : Nones l → ⊥

abbrev pub Says : List ℕ → Spoken → Type 0
Says l (Set term) = Sets l term
Says l (Rule place priority) = Rules l place priority
Says l None = Nones l
Says l Bad = Others l

-- ---- how it is read: the line's numbers are taken, the line is written anew, and the two are compared. Laws.antt has that this is `Says` (`says_exactly`).
-- A byte that is no digit counts 0 here; the line that is written anew then differs.
unfoldable pub digit_at : List ℕ → ℕ → ℕ
digit_at l i = digit (get_or l i 0) % 16

-- the digits from i on: 4, 8, 16
unfoldable pub term_at : List ℕ → ℕ → ℕ
term_at l i = digit_at l i * 4096 + digit_at l (i + 1) * 256 + digit_at l (i + 2) * 16 + digit_at l (i + 3)

unfoldable pub place_at : List ℕ → ℕ → ℕ
place_at l i = term_at l i * 65536 + term_at l (i + 4)

unfoldable pub priority_at : List ℕ → ℕ → ℕ
priority_at l i = place_at l i * 4294967296 + place_at l (i + 8)

-- where they stand: "set " has 4 characters; "rule " and "none " have 5, a place and a space 9
abbrev pub term_from : ℕ
term_from = 4

abbrev pub first_from : ℕ
first_from = 5

abbrev pub second_from : ℕ
second_from = 14

abbrev pub is_none : List ℕ → Obstacle → Bool
is_none l why = same_list l (none_words (place_at l first_from) (place_at l second_from) why)

unfoldable pub line_of : List ℕ → Spoken
line_of l =
    if same_list l (rule_line (place_at l first_from) (priority_at l second_from)) then Rule (place_at l first_from) (priority_at l second_from) else
    (if same_list l (set_line (term_at l term_from)) then Set (term_at l term_from) else
    (if is_none l by_mask then None else
    (if is_none l by_sameness then None else Bad)))

-- Change request [11]: the texts of `plan` and of `check-plan`. Words are split by one space, hexadecimal is upper case, every line ends with LF.
use Rattle.std.specs.declared.result.Result.TheVariants.{Err, Ok}
use Rattle.std.specs.Prelude.{List, [], ◌∷◌, ◌++◌, map, ℕ, length, get_or, ltb}
use Rattle.paper.specs.declared.Break.{Break}
use Rattle.paper.specs.declared.Break.TheVariants.{Edge, Mask, Order}
use Rattle.std.specs.Prelude.{if◌then◌else◌}
use Rattle.paper.specs.Words.{below, joined, two, four, eight}
use Rattle.paper.specs.Numbers.{max_rules}
use Rattle.paper.specs.Loading.{Set}
use Rattle.paper.specs.Priorities.{rule, wrong_length}
use Rattle.paper.specs.Text.{unended, text}
use Rattle.sheet_digits.specs.Digits.{digits_of}
use Rattle.tell_text.specs.Decimal.{decimal}
use Rattle.plan.specs.Answered.{Judged}
use Rattle.plan.specs.declared.Fault.TheVariants.{Bad, WrongLength}
use Rattle.plan.specs.Plans.{Obstacle, by_mask, by_sameness, Obstructed, Plan, proposal, no_proposal, plan}

-- "set TERM"
unfoldable pub set_head : ℕ → List ℕ
set_head term = unended "set " ++ digits_of (two term)

-- "rule PLACE PRIORITY": each kept rule in rule order, with the proposed priority
unfoldable pub rule_line : ℕ → ℕ → List ℕ
rule_line place priority = unended "rule " ++ (digits_of (four place) ++ (unended " " ++ (digits_of (eight priority) ++ (10 ∷ []))))

-- "none PLACE PLACE mask|same": instead of the rules, each pair that no proposal can mend, in rule order
abbrev pub why_text : Obstacle → List ℕ
why_text by_mask = text " mask"
why_text by_sameness = text " same"

unfoldable pub two_places : ℕ → ℕ → List ℕ
two_places a b = digits_of (four a) ++ (unended " " ++ digits_of (four b))

unfoldable pub none_line : Set → Obstructed → List ℕ
none_line g o = unended "none " ++ (two_places (rule g o.earlier).place (rule g o.later).place ++ why_text o.why)

unfoldable pub plan_lines : Set → Plan → List ℕ
plan_lines g (proposal p) = joined (below (length g.kept) (λ i. rule_line (rule g i).place (get_or p i 0)))
plan_lines g (no_proposal os) = joined (map (none_line g) os)

-- a set of `plan`; of one with more rules than 01 allows, which no sheet has, the first line alone
unfoldable pub plan_text : ℕ → Set → List ℕ
plan_text term g = set_head term ++ ((10 ∷ []) ++ (if ltb max_rules (length g.kept) then [] else plan_lines g (plan g)))

-- ---- a set of `check-plan`: "set TERM accepted", "set TERM edge|mask|order PLACE PLACE", "set TERM refused 23 LENGTH"
abbrev pub break_text : Break → List ℕ
break_text Edge = unended " edge "
break_text Mask = unended " mask "
break_text Order = unended " order "

abbrev pub judged_rest : Set → Judged → List ℕ
judged_rest g (Ok _) = text " accepted"
judged_rest g (Err (Bad b i j)) = break_text b ++ (two_places (rule g i).place (rule g j).place ++ (10 ∷ []))
judged_rest g (Err (WrongLength n)) = unended " refused " ++ (decimal wrong_length ++ (unended " " ++ (decimal n ++ (10 ∷ []))))

unfoldable pub judged_text : ℕ → Set → Judged → List ℕ
judged_text term g v = set_head term ++ judged_rest g v

-- "set TERM bad LINE", "set TERM unknown", "bad LINE"
unfoldable pub bad_line : ℕ → List ℕ
bad_line line = unended "bad " ++ (decimal line ++ (10 ∷ []))

unfoldable pub set_bad : ℕ → ℕ → List ℕ
set_bad term line = set_head term ++ (unended " " ++ bad_line line)

unfoldable pub set_unknown : ℕ → List ℕ
set_unknown term = set_head term ++ text " unknown"

-- The same lines, of rules where the words hold them: what the contracts cite.
use Rattle.std.specs.declared.result.Result.TheVariants.{Err, Ok}
use Rattle.std.specs.Prelude.{List, [], ◌∷◌, ◌++◌, map, ℕ, get_or}
use Rattle.paper.specs.Words.{joined}
use Rattle.paper.specs.Loading.{Set}
use Rattle.paper.specs.Priorities.{wrong_length}
use Rattle.paper.specs.Text.{unended, text}
use Rattle.rule_words.specs.Stored.{kept_in}
use Rattle.tell_text.specs.Decimal.{decimal}
use Rattle.plan.specs.Answered.{Judged}
use Rattle.plan.specs.declared.Fault.TheVariants.{Bad, WrongLength}
use Rattle.plan.specs.Plans.{obstructed_at}
use Rattle.tell_plan.specs.PlanText.{rule_line, two_places, none_line, break_text}

unfoldable pub rule_at : List ℕ → List ℕ → ℕ → List ℕ
rule_at ws ps i = rule_line (kept_in ws i).place (get_or ps i 0)

unfoldable pub obstructed_words : List ℕ → ℕ → ℕ → List ℕ → List ℕ
obstructed_words ws i j why = unended "none " ++ (two_places (kept_in ws i).place (kept_in ws j).place ++ why)

-- the line of two rules, if no proposal mends them
unfoldable pub none_text : Set → ℕ → ℕ → List ℕ
none_text g i j = joined (map (none_line g) (obstructed_at g i j))

abbrev pub judged_words : List ℕ → Judged → List ℕ
judged_words ws (Ok _) = text " accepted"
judged_words ws (Err (Bad b i j)) = break_text b ++ (two_places (kept_in ws i).place (kept_in ws j).place ++ (10 ∷ []))
judged_words ws (Err (WrongLength n)) = unended " refused " ++ (decimal wrong_length ++ (unended " " ++ (decimal n ++ (10 ∷ []))))

-- The lines that show what the loader made of a sheet, over the definitions of 01.
use Rattle.std.specs.Prelude.{List, [], ◌∷◌, ◌++◌, ℕ, eqb}
use Rattle.paper.specs.declared.Constraint.{Constraint}
use Rattle.paper.specs.declared.Overlap.{Overlap}
use Rattle.paper.specs.declared.Overlap.TheVariants.{No, Yes, Subset}
use Rattle.paper.specs.declared.Refusal.{Refusal}
use Rattle.std.specs.Prelude.{if◌then◌else◌}
use Rattle.paper.specs.Words.{two, four, eight}
use Rattle.paper.specs.Numbers.{Outcome, done, refused, number, told, max_unfolding}
use Rattle.paper.specs.Sites.{Sites, constraint_body, unfold_answer}
use Rattle.paper.specs.Loading.{Kept}
use Rattle.paper.specs.Rules.{may_overlap, total}
use Rattle.paper.specs.Text.{unended, text}
use Rattle.sheet_digits.specs.Digits.{digits_of}
use Rattle.rule_words.specs.Packing.{narrow}
use Rattle.tell_text.specs.Decimal.{decimal}

-- a site by its unfolding; over 4,096 bytes it is OVER
abbrev pub or_over : Outcome (List ℕ) → List ℕ
or_over (done u) = digits_of u
or_over (refused r) = unended "OVER"

unfoldable pub site_text : Sites → ℕ → List ℕ
site_text t s = or_over (unfold_answer t max_unfolding s)

-- a constrained site, then its constraint as in a frame 04
unfoldable pub c_line : Sites → ℕ → Constraint → List ℕ
c_line t s c = unended " c " ++ (site_text t s ++ (unended " " ++ (digits_of (constraint_body (narrow c)) ++ (10 ∷ []))))

unfoldable pub c_lines : Sites → List (ℕ × Constraint) → List ℕ
c_lines t [] = []
c_lines t (e ∷ es) = c_line t e.0 e.1 ++ c_lines t es

-- a class of equal sites: those with the lowest member `low`
unfoldable pub member_text : Sites → ℕ → ℕ → ℕ → List ℕ
member_text t low s l = if eqb l low then unended " " ++ site_text t s else []

unfoldable pub members : Sites → ℕ → List (ℕ × ℕ) → List ℕ
members t low [] = []
members t low (e ∷ es) = member_text t low e.0 e.1 ++ members t low es

-- its line stands where its lowest member does
unfoldable pub class_line : Sites → List (ℕ × ℕ) → ℕ → ℕ → List ℕ
class_line t all s l = if eqb s l then unended " e" ++ (members t l all ++ (10 ∷ [])) else []

unfoldable pub classes : Sites → List (ℕ × ℕ) → List (ℕ × ℕ) → List ℕ
classes t all [] = []
classes t all (e ∷ es) = class_line t all e.0 e.1 ++ classes t all es

-- a rule
unfoldable pub head_text : ℕ → ℕ → List ℕ
head_text place priority = unended "rule " ++ (digits_of (four place) ++ (unended " " ++ digits_of (eight priority)))

unfoldable pub total_line : ℕ → List ℕ
total_line n = unended " total " ++ (decimal n ++ (10 ∷ []))

unfoldable pub kept_lines : Sites → Kept → List ℕ
kept_lines t k =
    head_text k.place k.priority
    ++ (text " kept" ++ (c_lines t k.constraints ++ (classes t k.equals k.equals ++ total_line (total k))))

-- the number and what is told with it
unfoldable pub told_text : List ℕ → List ℕ
told_text [] = []
told_text (n ∷ ns) = unended " " ++ (decimal n ++ told_text ns)

unfoldable pub refused_line : ℕ → ℕ → Refusal → List ℕ
refused_line place priority r = head_text place priority ++ (unended " refused " ++ (decimal (number r) ++ (told_text (told r) ++ (10 ∷ []))))

-- two kept rules
abbrev pub overlap_word : Overlap → List ℕ
overlap_word No = text " no"
overlap_word Yes = text " yes"
overlap_word Subset = text " subset"

unfoldable pub pair_line : Kept → Kept → List ℕ
pair_line a b = unended "pair " ++ (digits_of (four a.place) ++ (unended " " ++ (digits_of (four b.place) ++ overlap_word (may_overlap a b))))

unfoldable pub set_line : ℕ → ℕ → List ℕ
set_line term flags = unended "set " ++ (digits_of (two term) ++ (unended " " ++ (digits_of (flags ∷ []) ++ (10 ∷ []))))

unfoldable pub terms_text : List ℕ → List ℕ
terms_text [] = []
terms_text (t ∷ ts) = (unended " " ++ digits_of (two t)) ++ terms_text ts

unfoldable pub cyclic_line : List ℕ → List ℕ
cyclic_line ts = unended "cyclic" ++ (terms_text ts ++ (10 ∷ []))

-- 01 as it was before [3] "Seven says too little": ten cases had the number 7, and nothing was told with it.
use Rattle.std.specs.Prelude.{◌&&◌, ◌||◌, List, [], ◌∷◌, ◌++◌, map, ℕ, zero, suc, get_or, eqb, leb}
use Rattle.std.proofs.Math.Option.{Option, none, some}
use Rattle.paper.specs.declared.Item.{Item}
use Rattle.paper.specs.declared.Refusal.{Refusal}
use Rattle.paper.specs.declared.Refusal.TheVariants.{Layout, Unknown, Itself, Unreachable, Hanging, Endless, TooManySites, TooManySources, TooManyFields, TooManyRules, TooManyItems, TooManyConstrained, TooManyEqual, TooManySets, TermTooHigh, UnfoldingTooLong, PlaceUsed, Repeated}
use Rattle.std.specs.Prelude.{if◌then◌else◌}
use Rattle.paper.specs.Words.{joined, four}
use Rattle.paper.specs.Numbers.{last_line, Outcome, done, refused, ◌>>=◌, demand}
use Rattle.paper.specs.Loading.{Written, Set, load}
use Rattle.paper.specs.Layout.{Lines, nothing, unended, line, lines, hex, Frame, begin_set, a_site, a_rule, an_item, end_set, frame_of}
use Rattle.paper.specs.Sheets.{Open, outside, at_sites, at_rules, at_items, Ended, Reader, start, Stepped, stepped, with_item, set_begun, site_read_in, set_ended, sheet_ended}

-- "7 | a number above is passed | nothing"
unfoldable pub number_before : Refusal → ℕ
number_before (Layout n) = 1
number_before (Unknown site) = 2
number_before (Itself site) = 3
number_before (Unreachable site other) = 4
number_before (Hanging site) = 5
number_before (Endless site) = 6
number_before (TooManySites asked at) = 7
number_before (TooManySources asked at) = 7
number_before (TooManyFields asked at) = 7
number_before (TooManyRules asked) = 7
number_before (TooManyItems asked) = 7
number_before (TooManyConstrained asked) = 7
number_before (TooManyEqual asked) = 7
number_before (TooManySets asked) = 7
number_before (TermTooHigh asked) = 7
number_before (UnfoldingTooLong asked) = 7
number_before (PlaceUsed place) = 8
number_before (Repeated n) = 9

unfoldable pub told_before : Refusal → List ℕ
told_before (Layout n) = n ∷ []
told_before (Unknown site) = site ∷ []
told_before (Itself site) = site ∷ []
told_before (Unreachable site other) = site ∷ other ∷ []
told_before (Hanging site) = site ∷ []
told_before (Endless site) = site ∷ []
told_before (TooManySites asked at) = []
told_before (TooManySources asked at) = []
told_before (TooManyFields asked at) = []
told_before (TooManyRules asked) = []
told_before (TooManyItems asked) = []
told_before (TooManyConstrained asked) = []
told_before (TooManyEqual asked) = []
told_before (TooManySets asked) = []
told_before (TermTooHigh asked) = []
told_before (UnfoldingTooLong asked) = []
told_before (PlaceUsed place) = place ∷ []
told_before (Repeated n) = n ∷ []

-- "Let `old` send 20 to 29 with what they tell to 7 with nothing, and leave the rest."
unfoldable pub old : ℕ × List ℕ → ℕ × List ℕ
old p = if leb 20 p.0 && leb p.0 29 then (7, []) else p

unfoldable pub old_number : ℕ → ℕ
old_number n = if leb 20 n && leb n 29 then 7 else n

-- "put 07 for 14 to 1D in the last byte of 11 and 1F"
unfoldable pub old_last : List ℕ → List ℕ
old_last [] = []
old_last (b ∷ []) = old_number b ∷ []
old_last (b ∷ c ∷ s) = b ∷ old_last (c ∷ s)

unfoldable pub old_frame : List ℕ → List ℕ
old_frame f = if eqb (get_or f 0 0) 17 || eqb (get_or f 0 0) 31 then old_last f else f

-- ---- the reader of paper's Sheets, with another number for each refusal

unfoldable pub refusal_by : (Refusal → ℕ) → ℕ → Refusal → List ℕ
refusal_by num place r = 17 ∷ (four place ++ (num r ∷ []))

unfoldable pub stop_by : (Refusal → ℕ) → ℕ → Refusal → List ℕ
stop_by num at r = 31 ∷ (four at ++ (num r ∷ []))

unfoldable pub rule_read_by : (Refusal → ℕ) → Ended → Set → Written → Outcome Stepped
rule_read_by num e g r = elim (load g r) [
  | done g' ↦ done (stepped e (at_rules g') [])
  | refused x ↦ done (stepped e (at_rules g) (refusal_by num r.place x ∷ []))
]

unfoldable pub items_left_by : (Refusal → ℕ) → Ended → Set → Written → ℕ → Outcome Stepped
items_left_by num e g r zero = rule_read_by num e g r
items_left_by num e g r (suc n) = done (stepped e (at_items g r (suc n)) [])

unfoldable pub rule_begun_by : (Refusal → ℕ) → Ended → Set → ℕ → ℕ → ℕ → Outcome Stepped
rule_begun_by num e g p q n = items_left_by num e g (record { place = p; priority = q; count = n; items = [] }) n

unfoldable pub item_read_by : (Refusal → ℕ) → Ended → Set → Written → ℕ → Item → Outcome Stepped
item_read_by num e g r zero i = items_left_by num e g r zero
item_read_by num e g r (suc n) i = items_left_by num e g (with_item r i) n

unfoldable pub act_by : (Refusal → ℕ) → Ended → ℕ → Open → Frame → Outcome Stepped
act_by num e at outside (begin_set t f) = set_begun e at t f
act_by num e at outside (a_site s) = refused (Layout at)
act_by num e at outside (a_rule p q n) = refused (Layout at)
act_by num e at outside (an_item i) = refused (Layout at)
act_by num e at outside end_set = refused (Layout at)
act_by num e at (at_sites g) (begin_set t f) = refused (Layout at)
act_by num e at (at_sites g) (a_site s) = site_read_in e at g s
act_by num e at (at_sites g) (a_rule p q n) = rule_begun_by num e g p q n
act_by num e at (at_sites g) (an_item i) = refused (Layout at)
act_by num e at (at_sites g) end_set = set_ended e g
act_by num e at (at_rules g) (begin_set t f) = refused (Layout at)
act_by num e at (at_rules g) (a_site s) = refused (Layout at)
act_by num e at (at_rules g) (a_rule p q n) = rule_begun_by num e g p q n
act_by num e at (at_rules g) (an_item i) = refused (Layout at)
act_by num e at (at_rules g) end_set = set_ended e g
act_by num e at (at_items g r n) (begin_set t f) = refused (Layout at)
act_by num e at (at_items g r n) (a_site s) = refused (Layout at)
act_by num e at (at_items g r n) (a_rule p q m) = refused (Layout at)
act_by num e at (at_items g r n) (an_item i) = item_read_by num e g r n i
act_by num e at (at_items g r n) end_set = refused (Layout at)

abbrev pub act_on_by : (Refusal → ℕ) → Reader → ℕ → Option Frame → Outcome Stepped
act_on_by num d at none = refused (Layout at)
act_on_by num d at (some f) = act_by num d.ended at d.stands f

unfoldable pub step_by : (Refusal → ℕ) → Reader → ℕ → List ℕ → Outcome Stepped
step_by num d at l = demand (leb at last_line) (Layout at) >>= λ _. act_on_by num d at (frame_of l)

abbrev pub sheet_ended_by : (Refusal → ℕ) → Ended → ℕ → Open → List (List ℕ)
sheet_ended_by num e at outside = sheet_ended e at outside
sheet_ended_by num e at (at_sites g) = stop_by num at (Layout at) ∷ []
sheet_ended_by num e at (at_rules g) = stop_by num at (Layout at) ∷ []
sheet_ended_by num e at (at_items g r n) = stop_by num at (Layout at) ∷ []

unfoldable pub read_by : (Refusal → ℕ) → Reader → ℕ → Lines → List (List ℕ)
read_by num d at nothing = sheet_ended_by num d.ended at d.stands
read_by num d at (unended l) = stop_by num at (Layout at) ∷ []
read_by num d at (line l rest) = elim (step_by num d at l) [
  | done s ↦ s.found ++ read_by num s.after (suc at) rest
  | refused x ↦ stop_by num at x ∷ []
]

-- the findings of a sheet before [3]
unfoldable pub findings_before : List ℕ → List ℕ
findings_before s = joined (map hex (read_by number_before start 1 (lines s)))

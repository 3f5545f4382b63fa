-- What a line of a sheet, and a sheet's end, are answered by `check`, `explain` and `kept`: the bytes.
use Rattle.std.specs.declared.result.Result.TheVariants.{Err, Ok}
use Rattle.std.specs.Prelude.{Bool, true, false, List, [], ◌∷◌, ◌++◌, ℕ, ◌+◌, ◌*◌, ◌%◌, length, take, ltb, leb}
use Rattle.paper.specs.declared.Refusal.{Refusal}
use Rattle.paper.specs.declared.Refusal.TheVariants.{Layout, Unknown, Itself, Unreachable, Hanging, Endless, TooManySites, TooManySources, TooManyFields, TooManyRules, TooManyItems, TooManyConstrained, TooManyEqual, TooManySets, TermTooHigh, UnfoldingTooLong, PlaceUsed, Repeated}
use Rattle.paper.specs.Answered.{Verdict}
use Rattle.paper.specs.Numbers.{number}
use Rattle.std.specs.Prelude.{if◌then◌else◌}
use Rattle.paper.specs.Words.{same_list, four}
use Rattle.paper.specs.Text as text
use Rattle.paper.specs.Loading.{Kept}
use Rattle.paper.specs.Layout.{Lines, nothing, unended, line, lines, digit}
use Rattle.sites.specs.Slots.{sites_in}
use Rattle.rule_words.specs.Stored.{kept_in, kept_first}
use Rattle.term_table.specs.Table.{Square, cyclic_terms}
use Rattle.sheet_reader.specs.declared.OpenSet.{OpenSet}
use Rattle.sheet_reader.specs.declared.Stands.{Stands}
use Rattle.sheet_reader.specs.declared.Stands.TheVariants.{Outside, Sites, Rules, Items}
use Rattle.sheet_reader.specs.declared.Event.{Event}
use Rattle.sheet_reader.specs.declared.Event.TheVariants as event
use Rattle.tell_english.specs.Said.{said}
use Rattle.tell_kept.specs.Listed.{set_line, kept_lines, refused_line, pair_line, cyclic_line}
use Rattle.run_answers.specs.declared.How.{How}
use Rattle.run_answers.specs.declared.How.TheVariants as how

-- ---- `explain`: each line of the findings in words

-- what is told with a limit: the number that was asked for; the item or the line, where it is told
abbrev pub asked_for : Refusal → ℕ
asked_for (Layout n) = 0
asked_for (Unknown site) = 0
asked_for (Itself site) = 0
asked_for (Unreachable site other) = 0
asked_for (Hanging site) = 0
asked_for (Endless site) = 0
asked_for (TooManySites asked at) = asked
asked_for (TooManySources asked at) = asked
asked_for (TooManyFields asked at) = asked
asked_for (TooManyRules asked) = asked
asked_for (TooManyItems asked) = asked
asked_for (TooManyConstrained asked) = asked
asked_for (TooManyEqual asked) = asked
asked_for (TooManySets asked) = asked
asked_for (TermTooHigh asked) = asked
asked_for (UnfoldingTooLong asked) = asked
asked_for (PlaceUsed place) = 0
asked_for (Repeated n) = 0

abbrev pub asker : Refusal → ℕ
asker (Layout n) = 0
asker (Unknown site) = 0
asker (Itself site) = 0
asker (Unreachable site other) = 0
asker (Hanging site) = 0
asker (Endless site) = 0
asker (TooManySites asked at) = at
asker (TooManySources asked at) = at
asker (TooManyFields asked at) = at
asker (TooManyRules asked) = 0
asker (TooManyItems asked) = 0
asker (TooManyConstrained asked) = 0
asker (TooManyEqual asked) = 0
asker (TooManySets asked) = 0
asker (TermTooHigh asked) = 0
asker (UnfoldingTooLong asked) = 0
asker (PlaceUsed place) = 0
asker (Repeated n) = 0

abbrev pub byte_of : ℕ → ℕ → ℕ
byte_of h l = digit h % 16 * 16 + digit l % 16

-- the bytes that digits write, two to a byte
unfoldable pub bytes_in : List ℕ → List ℕ
bytes_in [] = []
bytes_in (h ∷ []) = []
bytes_in (h ∷ l ∷ s) = byte_of h l ∷ bytes_in s

-- a finding as bytes: a mask names at most 63 others
abbrev pub finding_room : ℕ
finding_room = 512

unfoldable pub finding_in : List ℕ → List ℕ
finding_in l = take finding_room (bytes_in l)

abbrev pub lines_said : Bool → Lines → List ℕ
lines_said clean nothing = []
lines_said clean (unended l) = []
lines_said clean (line l rest) = said clean (finding_in l) ++ lines_said clean rest

unfoldable pub in_words : Bool → List ℕ → List ℕ
in_words clean found = lines_said clean (lines found)

-- A rule that is refused, or a line that stops the sheet: the one finding, and where a limit is passed the number that was asked for and who asked
-- behind it, four bytes each.
abbrev pub why_of : Event → Verdict
why_of event.Begun = Ok tt
why_of event.Site = Ok tt
why_of event.Item = Ok tt
why_of (event.Kept p q) = Ok tt
why_of (event.Refused p q x) = Err x
why_of event.Ended = Ok tt
why_of (event.Stopped x) = Err x
why_of event.NoRoom = Ok tt

-- the numbers of the limits are the highest
abbrev pub first_limit : ℕ
first_limit = 20

unfoldable pub told_bytes : Refusal → List ℕ
told_bytes x = if ltb (number x) first_limit then [] else four (asked_for x) ++ four (asker x)

unfoldable pub why_said : Refusal → List ℕ → List ℕ
why_said x found = said false (take finding_room (bytes_in found ++ told_bytes x))

abbrev pub said_by : Verdict → List ℕ → List ℕ
said_by (Ok _) found = in_words false found
said_by (Err x) found = why_said x found

-- ---- `kept`: what the line was
-- "each pair of kept rules of the set, in rule order, the earlier first"
unfoldable pub pairs_with : Kept → List Kept → List ℕ
pairs_with k [] = []
pairs_with k (x ∷ xs) = pair_line k x ++ pairs_with k xs

unfoldable pub pair_lines : List Kept → List ℕ
pair_lines [] = []
pair_lines (x ∷ xs) = pairs_with x xs ++ pair_lines xs

-- the open set; nothing in it where there is none
abbrev pub set_of : Stands → OpenSet
set_of Outside = record { term = 0; flags = 0; sites = 0; rules = 0 }
set_of (Sites s) = s
set_of (Rules s) = s
set_of (Items s r n) = s

-- from the set before the line and after it, the lent sites and words after it, and what the line found: "after the set's last rule" the pairs,
-- "the report's frames as `check` writes them, after the pairs"
unfoldable pub event_text : Event → OpenSet → OpenSet → List ℕ → List ℕ → List ℕ → List ℕ
event_text event.Begun b a m w found = set_line a.term a.flags
event_text event.Site b a m w found = []
event_text event.Item b a m w found = []
event_text (event.Kept p q) b a m w found = kept_lines (sites_in m a.sites) (kept_in w b.rules)
event_text (event.Refused p q x) b a m w found = refused_line p q x
event_text event.Ended b a m w found = pair_lines (kept_first w b.rules) ++ found
event_text (event.Stopped x) b a m w found = found
event_text event.NoRoom b a m w found = []

-- ---- a line
unfoldable pub answer : How → Event → Stands → Stands → List ℕ → List ℕ → List ℕ → List ℕ
answer how.Check e s t m w found = found
answer how.Explain e s t m w found = said_by (why_of e) found
answer how.Kept e s t m w found = event_text e (set_of s) (set_of t) m w found

-- ---- the end of a sheet
-- a 15 frame, as a line
abbrev pub last_room : ℕ
last_room = 11

-- no finding before the end, and there the 15 alone
abbrev pub is_clean : Bool → List ℕ → Bool
is_clean true found = false
is_clean false found = leb (length found) last_room

unfoldable pub is_stop : List ℕ → Bool
is_stop found = same_list (take 2 found) (text.unended "1F")

-- "after the last set: every cyclic term ascending, with rec or without"; "a sheet that stops ends with its 1F line, and has no `cyclic` line"
unfoldable pub last_text : Square → List ℕ → List ℕ
last_text t found = if is_stop found then found else cyclic_line (cyclic_terms t)

unfoldable pub last_answer : How → Bool → Square → List ℕ → List ℕ
last_answer how.Check before t found = found
last_answer how.Explain before t found = in_words (is_clean before found) found
last_answer how.Kept before t found = last_text t found

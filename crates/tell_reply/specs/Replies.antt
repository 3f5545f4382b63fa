-- What a call of a script is answered, without the LF that ends the line:
--     merge X Y      ok · refused 3 X · refused 2 N              same X Y       true · false · refused 2 N
--     find X         SITE LINKS · none · refused 2 N             remove X       the members ascending, with a space between two · none · refused 2 N
--     findmut X      SITE · none · refused 2 N                   len            a number
--     any other line bad LINE                                    empty          true · false
use Rattle.std.specs.declared.result.Result.TheVariants.{Err, Ok}
use Rattle.std.specs.declared.option.Option.TheVariants.{None, Some}
use Rattle.std.specs.Prelude.{Bool, true, false, List, [], ◌∷◌, ◌++◌, ℕ, zero, suc, min, length, get_or}
use Rattle.paper.specs.Answered.{Maybe}
use Rattle.paper.specs.declared.Refusal.{Refusal}
use Rattle.paper.specs.declared.Refusal.TheVariants.{Layout, Unknown, Itself, Unreachable, Hanging, Endless, TooManySites, TooManySources, TooManyFields, TooManyRules, TooManyItems, TooManyConstrained, TooManyEqual, TooManySets, TermTooHigh, UnfoldingTooLong, PlaceUsed, Repeated}
use Rattle.paper.specs.Text.{unended}
use Rattle.classes.specs.declared.Trail.{Trail}
use Rattle.classes.specs.Called.{Looked}
use Rattle.paper.specs.Answered.{Answer}
use Rattle.classes.specs.Called.{Taken}
use Rattle.classes.specs.declared.Untaken.{Untaken}
use Rattle.classes.specs.declared.Untaken.TheVariants as taken
use Rattle.class_script.specs.declared.Reply.{Reply}
use Rattle.class_script.specs.declared.Reply.TheVariants as reply
use Rattle.tell_text.specs.Decimal.{decimal}

abbrev pub bool_text : Bool → List ℕ
bool_text true = unended "true"
bool_text false = unended "false"

-- a class call is refused with 2 or 3, and no other number
abbrev pub refusal_text : Refusal → List ℕ
refusal_text (Unknown x) = unended "refused 2 " ++ decimal x
refusal_text (Itself x) = unended "refused 3 " ++ decimal x
refusal_text (Layout a) = []
refusal_text (Unreachable a b) = []
refusal_text (Hanging a) = []
refusal_text (Endless a) = []
refusal_text (TooManySites a b) = []
refusal_text (TooManySources a b) = []
refusal_text (TooManyFields a b) = []
refusal_text (TooManyRules a) = []
refusal_text (TooManyItems a) = []
refusal_text (TooManyConstrained a) = []
refusal_text (TooManyEqual a) = []
refusal_text (TooManySets a) = []
refusal_text (TermTooHigh a) = []
refusal_text (UnfoldingTooLong a) = []
refusal_text (PlaceUsed a) = []
refusal_text (Repeated a) = []

abbrev pub joined_text : Answer Bool → List ℕ
joined_text (Ok b) = unended "ok"
joined_text (Err e) = refusal_text e

abbrev pub found_text : Maybe ℕ → List ℕ
found_text (Some s) = decimal s
found_text None = unended "none"

abbrev pub linked : Maybe ℕ → ℕ → List ℕ
linked (Some s) n = (decimal s ++ (32 ∷ [])) ++ decimal n
linked None n = unended "none"

abbrev pub trail_text : Trail → List ℕ
trail_text t = linked t.found t.links

abbrev pub looked_text : Looked → List ℕ
looked_text (Ok t) = trail_text t
looked_text (Err e) = refusal_text e

abbrev pub sought_text : Answer (Maybe ℕ) → List ℕ
sought_text (Ok f) = found_text f
sought_text (Err e) = refusal_text e

abbrev pub same_text : Answer Bool → List ℕ
same_text (Ok b) = bool_text b
same_text (Err e) = refusal_text e

-- the member at the place i
abbrev pub member_text : ℕ → ℕ → List ℕ
member_text zero x = decimal x
member_text (suc i) x = (32 ∷ []) ++ decimal x

unfoldable pub members_text : List ℕ → ℕ → List ℕ
members_text ms zero = []
members_text ms (suc k) = members_text ms k ++ member_text k (get_or ms k 0)

abbrev pub listed_text : List ℕ → ℕ → List ℕ
listed_text ms zero = unended "none"
listed_text ms (suc k) = members_text ms (min (suc k) (length ms))

-- a script lends room for every site, so that no removal finds its list short
abbrev pub untaken_text : Untaken → List ℕ
untaken_text (taken.Refused e) = refusal_text e
untaken_text taken.Short = []

abbrev pub taken_text : List ℕ → Taken → List ℕ
taken_text ms (Ok k) = listed_text ms k
taken_text ms (Err u) = untaken_text u

abbrev pub reply_text : List ℕ → ℕ → Reply → List ℕ
reply_text ms line (reply.Merged j) = joined_text j
reply_text ms line (reply.Found l) = looked_text l
reply_text ms line (reply.FoundMut s) = sought_text s
reply_text ms line (reply.Compared s) = same_text s
reply_text ms line (reply.Removed t) = taken_text ms t
reply_text ms line (reply.Length k) = decimal k
reply_text ms line (reply.Emptiness b) = bool_text b
reply_text ms line reply.Bad = unended "bad " ++ decimal line

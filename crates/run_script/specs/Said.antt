-- How a script is read and answered: lines, bytes, chunks. (What a line is answered: tell_reply's Replies.)
use Rattle.std.specs.declared.result.Result.TheVariants.{Err, Ok}
use Rattle.std.specs.declared.option.Option.TheVariants.{None, Some}
use Rattle.std.specs.Prelude.{◌≡◌, ℕ, zero, suc, ◌+◌, ◌%◌, ◌<◌, ◌≤◌, Bool, true, false, not, List, [], ◌∷◌, ◌++◌, length, take, ◌≢◌, nat_lt, slice_index, slice_set}
use Rattle.std.specs.Prelude.{if◌then◌else◌}
use Rattle.paper.specs.Text.{unended}
use Rattle.paper.specs.Answered.{Maybe}
use Rattle.paper.specs.declared.Refusal.{Refusal}
use Rattle.paper.specs.declared.Refusal.TheVariants.{Layout, Unknown, Itself, Unreachable, Hanging, Endless, TooManySites, TooManySources, TooManyFields, TooManyRules, TooManyItems, TooManyConstrained, TooManyEqual, TooManySets, TermTooHigh, UnfoldingTooLong, PlaceUsed, Repeated}
use Rattle.paper.specs.Classes.{Classes, no_classes}
use Rattle.classes.specs.declared.Untaken.TheVariants as taken
use Rattle.class_script.specs.declared.Reply.{Reply}
use Rattle.class_script.specs.declared.Reply.TheVariants as reply
use Rattle.class_script.specs.Script.{stepped, call_in}
use Rattle.tell_text.specs.Decimal.{decimal}
use Rattle.tell_text.specs.Written.{wrote}
use Rattle.tell_reply.specs.Replies.{reply_text}
use Rattle.run_script.specs.declared.Place.{Place}

abbrev pub is_bad : Reply → Bool
is_bad (reply.Merged j) = false
is_bad (reply.Found l) = false
is_bad (reply.FoundMut s) = false
is_bad (reply.Compared s) = false
is_bad (reply.Removed t) = false
is_bad (reply.Length k) = false
is_bad (reply.Emptiness b) = false
is_bad reply.Bad = true

-- ---- a line
-- the byte that ends one
abbrev pub lf : ℕ
lf = 10

-- a line of more bytes than are held is no call
unfoldable pub replied : Classes → List ℕ → List ℕ → ℕ → Classes × List ℕ × Reply
replied c ms line used = if nat_lt (length line) used then (c, ms, reply.Bad) else stepped c ms (call_in (take used line))

-- ---- the room for answers
-- "Removing returns the members ascending": one answer has at most 1,024 numbers of four digits, a space before each, and its LF (proofs/Fitting.antt)
abbrev pub most : ℕ
most = 5121

-- the buffer, and how much of it may be filled before an answer: what is left is enough for the longest
abbrev pub room : ℕ
room = 65536

-- where the buffer is written out the next answer goes to its start
abbrev pub full : ℕ
full = 32768

abbrev pub spared : ℕ → ℕ
spared n = if nat_lt full n then 0 else n

-- what the types of the code allow: the numbers that a reply tells
abbrev pub InRefusal : Refusal → Type 0
InRefusal (Unknown x) = x < 65536
InRefusal (Itself x) = x < 65536
InRefusal (Layout a) = Unit {0}
InRefusal (Unreachable a b) = Unit {0}
InRefusal (Hanging a) = Unit {0}
InRefusal (Endless a) = Unit {0}
InRefusal (TooManySites a b) = Unit {0}
InRefusal (TooManySources a b) = Unit {0}
InRefusal (TooManyFields a b) = Unit {0}
InRefusal (TooManyRules a) = Unit {0}
InRefusal (TooManyItems a) = Unit {0}
InRefusal (TooManyConstrained a) = Unit {0}
InRefusal (TooManyEqual a) = Unit {0}
InRefusal (TooManySets a) = Unit {0}
InRefusal (TermTooHigh a) = Unit {0}
InRefusal (UnfoldingTooLong a) = Unit {0}
InRefusal (PlaceUsed a) = Unit {0}
InRefusal (Repeated a) = Unit {0}

abbrev pub InFound : Maybe ℕ → Type 0
InFound (Some s) = s < 65536
InFound None = Unit {0}

abbrev pub InRange : Reply → Type 0
InRange (reply.Merged (Ok b)) = Unit {0}
InRange (reply.Merged (Err e)) = InRefusal e
InRange (reply.Found (Ok t)) = InFound t.found × (t.links < 65536)
InRange (reply.Found (Err e)) = InRefusal e
InRange (reply.FoundMut (Ok f)) = InFound f
InRange (reply.FoundMut (Err e)) = InRefusal e
InRange (reply.Compared (Ok b)) = Unit {0}
InRange (reply.Compared (Err e)) = InRefusal e
InRange (reply.Removed (Ok k)) = Unit {0}
InRange (reply.Removed (Err taken.Short)) = Unit {0}
InRange (reply.Removed (Err (taken.Refused e))) = InRefusal e
InRange (reply.Length k) = k < 65536
InRange (reply.Emptiness b) = Unit {0}
InRange reply.Bad = Unit {0}

-- the answer with its LF
abbrev pub line_text : List ℕ → ℕ → Reply → List ℕ
line_text ms line r = reply_text ms line r ++ (lf ∷ [])

-- a line has ended: the call is done, and its answer with an LF stands behind what the buffer had; in a buffer of `room` bytes all of it
pub record Answered (c c' : Classes) (ms ms' line out out' : List ℕ) (p q : Place) : Type 0 where
  pub answer : Reply
  pub end : ℕ
  pub replies : (c', ms', answer) ≡ replied c ms line p.used
  pub answers : (out', end) ≡ wrote (out, p.filled) (line_text ms' p.line answer)
  pub whole : p.filled ≤ full → room ≤ length out → p.filled + length (line_text ms' p.line answer) ≤ length out
  pub filled : q.filled ≡ spared end
  pub used : q.used ≡ 0
  pub goes : q.goes ≡ not (is_bad answer)
  pub number : q.line ≡ (p.line + 1) % 18446744073709551616

-- a byte of the open line; what passes the room for a line is not kept, and makes the line no call
abbrev pub line_room : ℕ
line_room = 256

abbrev pub kept_line : List ℕ → ℕ → ℕ → List ℕ
kept_line line used b = if nat_lt used (length line) then slice_set line used b else line

abbrev pub kept_used : List ℕ → ℕ → ℕ
kept_used line used = if nat_lt used (length line) then used + 1 else suc line_room

pub record Held (line line' : List ℕ) (b : ℕ) (p q : Place) : Type 0 where
  pub kept : line' ≡ kept_line line p.used b
  pub used : q.used ≡ kept_used line p.used
  pub filled : q.filled ≡ p.filled
  pub goes : q.goes ≡ true
  pub number : q.line ≡ p.line

-- what stands between two bytes
pub record Standing : Type 0 where
  pub classes : Classes
  pub members : List ℕ
  pub line : List ℕ
  pub out : List ℕ
  pub place : Place

abbrev pub stand : Classes → List ℕ → List ℕ → List ℕ → Place → Standing
stand c ms line out p = record { classes = c; members = ms; line = line; out = out; place = p }

-- an LF ends the line, any other byte is held
pub record Took (b : ℕ) (s u : Standing) : Type 0 where
  pub ended : b ≡ lf → Answered s.classes u.classes s.members u.members s.line s.out u.out s.place u.place × (u.line ≡ s.line)
  pub held : (b ≢ lf) → Held s.line u.line b s.place u.place × (u ≡ stand s.classes s.members u.line s.out u.place)

-- an LF whose answer filled the buffer past `full`, so that it was to be written out, and could not be
pub record Unwritten (b : ℕ) (s u : Standing) : Type 0 where
  pub took : Took b s u
  pub ends : b ≡ lf
  pub past : full < (took.ended ends).0.end

-- the first i bytes one after the other, while the script goes on
unfoldable pub IsFedTo : List ℕ → ℕ → Standing → Standing → Type 0
IsFedTo bytes zero s u = u ≡ s
IsFedTo bytes (suc i) s u = (t : Standing) × IsFedTo bytes i s t × (t.place.goes ≡ true) × Took (slice_index bytes i) t u

-- all of them, or up to a line that is no call
pub record Fed (bytes : List ℕ) (s u : Standing) : Type 0 where
  pub many : ℕ
  pub to : IsFedTo bytes many s u
  pub all : u.place.goes ≡ true → many ≡ length bytes

-- the first of them, up to a write that failed
pub record FedSome (bytes : List ℕ) (s u : Standing) : Type 0 where
  pub many : ℕ
  pub within : many ≤ length bytes
  pub to : IsFedTo bytes many s u

-- all before an LF whose answer could not be written out, and it
pub record FedCut (bytes : List ℕ) (s u : Standing) : Type 0 where
  pub many : ℕ
  pub before : Standing
  pub within : many < length bytes
  pub to : IsFedTo bytes many s before
  pub goes : before.place.goes ≡ true
  pub last : Unwritten (slice_index bytes many) before u

-- ---- chunks
-- at the end of the input the script ends
abbrev pub at_end : Place → Place
at_end p = record { used = p.used; line = p.line; filled = p.filled; goes = false }

pub data Read (s u : Standing) : Type 0 where
  ended : u ≡ stand s.classes s.members s.line s.out (at_end s.place) → Read s u
  fed : (chunk : List ℕ) → Fed chunk s u → Read s u

-- turns that no run uses up
abbrev pub turns_all : ℕ
turns_all = 18446744073709551615

-- one read after the other, while the script goes on
unfoldable pub ReadTo : ℕ → Standing → Standing → Type 0
ReadTo zero s u = u ≡ s
ReadTo (suc k) s u = (t : Standing) × ReadTo k s t × (t.place.goes ≡ true) × Read t u

-- until it ends, or the turns are used up
pub record Ran (s u : Standing) : Type 0 where
  pub many : ℕ
  pub to : ReadTo many s u
  pub all : u.place.goes ≡ true → many ≡ turns_all

-- up to a read or a write that failed: whole chunks, and the first bytes of the next one, if it came
pub record Stopped (s u : Standing) : Type 0 where
  pub many : ℕ
  pub last : Standing
  pub to : ReadTo many s last
  pub goes : last.place.goes ≡ true
  pub chunk : List ℕ
  pub fed : FedSome chunk last u

-- a last line without LF is answered `bad` with its number
unfoldable pub unended_text : ℕ → ℕ → List ℕ
unended_text zero line = []
unended_text (suc n) line = (unended "bad " ++ decimal line) ++ (lf ∷ [])

-- ---- a script, from the first byte to the last answer
abbrev pub first_place : Place
first_place = record { used = 0; line = 1; filled = 0; goes = true }

-- the memory at exit is that after the last call; of the buffer the first `filled` bytes are still to be written out
pub record Whole (ms line out : List ℕ) (c' : Classes) (ms' line' out' : List ℕ) : Type 0 where
  pub last : Standing
  pub filled : ℕ
  pub ran : Ran (stand no_classes ms line out first_place) last
  pub answers : (out', filled) ≡ wrote (last.out, last.place.filled) (unended_text last.place.used last.place.line)
  pub whole : room ≤ length out → last.place.filled + length (unended_text last.place.used last.place.line) ≤ length last.out
  pub classes : c' ≡ last.classes
  pub members : ms' ≡ last.members
  pub held : line' ≡ last.line

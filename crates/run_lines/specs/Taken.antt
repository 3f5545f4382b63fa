-- A line and the end of a sheet in the program's buffers: what the reader answers goes, as `run_answers` says it, behind what the buffer has.
use Rattle.std.specs.Prelude.{◌≡◌, Bool, true, false, ◌&&◌, ◌||◌, List, [], ℕ, ◌+◌, length, ltb}
use Rattle.std.specs.Prelude.{if◌then◌else◌}
use Rattle.paper.specs.Words.{same_list}
use Rattle.paper.specs.Text.{text, unended}
use Rattle.paper.specs.Answered.{Maybe}
use Rattle.std.specs.Option.{unwrap_or}
use Rattle.sheet_lines.specs.declared.Held.{Held}
use Rattle.sheet_lines.specs.Held.{no_line}
use Rattle.sheet_lines.specs.Cut.{part_of}
use Rattle.term_table.specs.Table.{Square, no_edges}
use Rattle.sheet_reader.specs.declared.Reader.{Reader}
use Rattle.sheet_reader.specs.declared.Stepped.{Stepped}
use Rattle.sheet_reader.specs.declared.Event.{Event}
use Rattle.sheet_reader.specs.declared.Event.TheVariants as event
use Rattle.sheet_reader.specs.State.{Lent, lent}
use Rattle.sheet_reader.specs.Answers.{Stepping}
use Rattle.sheet_read.specs.declared.State.{State}
use Rattle.sheet_read.specs.Whole.{first_state, Ends}
use Rattle.tell_text.specs.Written.{Room, wrote}
use Rattle.run_answers.specs.declared.How.{How}
use Rattle.run_answers.specs.Told.{answer, last_answer}
use Rattle.run_lines.specs.declared.Marks.{Marks}
use Rattle.run_lines.specs.declared.Flow.{Flow}

-- the line between two sheets
unfoldable pub is_border : List ℕ → Bool
is_border l = same_list l (unended "----")

-- after a line the sheet goes on
abbrev pub goes_on : Event → Bool
goes_on event.Begun = true
goes_on event.Site = true
goes_on event.Item = true
goes_on (event.Kept p q) = true
goes_on (event.Refused p q x) = true
goes_on event.Ended = true
goes_on (event.Stopped x) = false
goes_on event.NoRoom = false

-- ---- the room for answers
-- one answer needs at most so much
abbrev pub need : ℕ
need = 655360

-- where less is left the buffer is written out, and the next answer goes to its start
unfoldable pub spared : ℕ → ℕ → ℕ
spared n filled = if ltb (filled + need) n then filled else 0

-- what is written out then
unfoldable pub written_out : List ℕ → ℕ → List ℕ
written_out out filled = if ltb (filled + need) (length out) then [] else part_of out 0 filled

-- less than `need` is left: the buffer is written out before the next answer, and that alone can fail
abbrev pub Overfull : List ℕ → ℕ → Type 0
Overfull out filled = ltb (filled + need) (length out) ≡ false

-- where the next answer goes
abbrev pub free_in : List ℕ → Marks → Room
free_in out k = (out, spared (length out) k.filled)

-- ---- a line
-- what is told of a step, with the memory and the room after it
abbrev pub told_of : How → Reader → Stepped → Lent → List ℕ → List ℕ
told_of how r s k room = answer how s.event r.stands s.reader.stands k.sites k.words (part_of room 0 s.to)

-- a line of the open sheet: `sheet_step::step` is asked, and what it answers is told
pub record Took (how : How) (r : Reader) (k : Marks) (l : List ℕ) (before after : Lent) (room room' out out' : List ℕ) (f : Flow) : Type 0 where
  pub step : Stepped
  pub steps : Stepping r before after room room' 0 l step
  pub reader : f.reader ≡ step.reader
  pub answers : (out', f.marks.filled) ≡ wrote (free_in out k) (told_of how r step after room')
  pub goes : f.marks.goes ≡ goes_on step.event
  pub found : f.marks.found ≡ (k.found || ltb 0 step.to)

-- ---- the end of a sheet
-- `sheet_read::end` is asked; a sheet that stopped has been answered
abbrev pub state_of : Reader → Held → State
state_of r h = record { reader = r; held = h; stopped = false }

pub record ToldLast (how : How) (r : Reader) (k : Marks) (h : Held) (t : Square) (room room' out out' : List ℕ) (n : ℕ) : Type 0 where
  pub said : Maybe ℕ
  pub ends : (m ws i : List ℕ) → Ends (state_of r h) (lent m ws i t) room room' 0 said
  pub same : length room' ≡ length room
  pub answers : (out', n) ≡ wrote (free_in out k) (last_answer how k.found t (part_of room' 0 (unwrap_or said 0)))

pub record Closed (how : How) (r : Reader) (k : Marks) (h : Held) (t : Square) (room room' out out' : List ℕ) (n : ℕ) : Type 0 where
  pub last : k.goes ≡ true → ToldLast how r k h t room room' out out' n
  pub stopped : k.goes ≡ false → ((out', n) ≡ free_in out k) × (room' ≡ room)

-- before a sheet
unfoldable pub fresh_flow : ℕ → Flow
fresh_flow n = record { reader = first_state.reader; marks = record { filled = n; goes = true; found = false } }

-- a border: the sheet before it ends, the border is answered, and the next sheet begins
pub record Bordered (how : How) (r : Reader) (k : Marks) (t t' : Square) (room room' out out' : List ℕ) (f : Flow) : Type 0 where
  pub between : Room
  pub closed : Closed how r k no_line t room room' out between.0 between.1
  pub border : (out', f.marks.filled) ≡ wrote between (text "----")
  pub fresh : f ≡ fresh_flow f.marks.filled
  pub table : t' ≡ no_edges

-- a whole line, of one sheet or of many
abbrev pub flow_of : Reader → Marks → Flow
flow_of r k = record { reader = r; marks = k }

-- a line that is answered: a border, or a line of a sheet that goes on
abbrev pub is_told : Bool → List ℕ → Marks → Bool
is_told many l k = (many && is_border l) || k.goes

pub record Passed (r : Reader) (k : Marks) (before after : Lent) (room room' out out' : List ℕ) (f : Flow) : Type 0 where
  pub flow : f ≡ flow_of r k
  pub memory : after ≡ before
  pub room_same : room' ≡ room
  pub out_same : out' ≡ out

-- of the memory the table alone is another
abbrev pub OnlyTable : Lent → Lent → Type 0
OnlyTable before after = after ≡ lent before.sites before.words before.items after.table

pub record Taken (how : How) (many : Bool) (r : Reader) (k : Marks) (l : List ℕ) (before after : Lent) (room room' out out' : List ℕ) (f : Flow) : Type 0 where
  pub border : (many && is_border l) ≡ true → Bordered how r k before.table after.table room room' out out' f × OnlyTable before after
  pub line : (many && is_border l) ≡ false → k.goes ≡ true → Took how r k l before after room room' out out' f
  pub passed : (many && is_border l) ≡ false → k.goes ≡ false → Passed r k before after room room' out out' f

-- what a line leaves whose answer had no room, where the buffer could not be written out: all as it was
pub record Unchanged (before after : Lent) (room room' out out' : List ℕ) : Type 0 where
  pub memory : after ≡ before
  pub room_same : room' ≡ room
  pub out_same : out' ≡ out

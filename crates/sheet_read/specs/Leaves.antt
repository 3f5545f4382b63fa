-- What feed, end and check leave, whatever the state and the lent memory hold: `feed_in`, `end_in`, `check_in`.
use Rattle.std.specs.declared.result.Result.TheVariants.{Err, Ok}
use Rattle.std.specs.declared.option.Option.TheVariants.{None, Some}
use Rattle.std.specs.Prelude.{Bool, false, ◌&&◌, ◌||◌, not, List, ℕ, zero, suc, ◌+◌, length, ltb, leb}
use Rattle.paper.specs.declared.Refusal.TheVariants.{Layout}
use Rattle.std.specs.Prelude.{if◌then◌else◌}
use Rattle.paper.specs.Layout.{hex}
use Rattle.paper.specs.Sheets.{stop_found}
use Rattle.term_table.specs.Table.{Square, no_edges}
use Rattle.sheet_findings.specs.Written.{room_said, room_after}
use Rattle.paper.specs.Answered.{Maybe}
use Rattle.sheet_lines.specs.Held.{no_line}
use Rattle.sheet_lines.specs.Cut.{part_of, line_from, cut_at}
use Rattle.sheet_lines.specs.declared.Cut.{Cut}
use Rattle.sheet_ended.specs.Sets.{end_room, found_text, said_at, written_after}
use Rattle.sheet_reader.specs.State.{Lent, lent, step_room, sites_room, kept_room, items_room}
use Rattle.sheet_reader.specs.Answers.{is_outside}
use Rattle.sheet_reader.specs.Leaves.{After}
use Rattle.sheet_reader.specs.declared.Stepped.{Stepped}
use Rattle.sheet_step.specs.Leaves.{step_in}
use Rattle.sheet_read.specs.declared.State.{State}
use Rattle.sheet_read.specs.declared.Fed.{Fed}
use Rattle.sheet_read.specs.Checked.{Checked}
use Rattle.sheet_read.specs.declared.Unchecked.TheVariants as checked
use Rattle.sheet_read.specs.Whole.{first_state, is_stopped}

-- an answer, with the lent memory and the room as they are then
pub record Leaves (A : Type 0) : Type 0 where
  pub answer : A
  pub memory : Lent
  pub room : List ℕ

abbrev pub leaves : {A : Type 0} → A → Lent → List ℕ → Leaves A
leaves a k room = record { answer = a; memory = k; room = room }

-- ---- a line of a piece, from `from` on
abbrev pub fed_to : State → ℕ → ℕ → Fed
fed_to s read to = record { state = s; read = read; to = to }

-- it ends in the piece: with what was held of it, it is a step
abbrev pub line_text : Cut → List ℕ → ℕ → List ℕ
line_text c piece from = line_from (part_of c.held.bytes 0 c.held.length) (part_of piece from c.to)

abbrev pub stepped_state : Stepped → State
stepped_state a = record { reader = a.reader; held = no_line; stopped = is_stopped a.event }

abbrev pub line_stepped : ℕ → After → Leaves Fed
line_stepped end o = leaves (fed_to (stepped_state o.answer) (end + 1) o.answer.to) o.memory o.room

-- else it is held
abbrev pub line_cut : State → Lent → List ℕ → ℕ → List ℕ → ℕ → Cut → Leaves Fed
line_cut s k room at piece from c =
    if c.unended then leaves (fed_to (record { reader = s.reader; held = c.held; stopped = false }) (length piece) at) k room
    else line_stepped c.to (step_in s.reader k room at (line_text c piece from))

unfoldable pub feed_line_in : State → Lent → List ℕ → ℕ → List ℕ → ℕ → Leaves Fed
feed_line_in s k room at piece from = line_cut s k room at piece from (cut_at s.held piece from)

-- ---- a piece: line after line, until the piece ends, the sheet stops, or the room left is too short for whatever a line finds
abbrev pub pauses_at : Bool → ℕ → ℕ → Bool
pauses_at halted room at = halted || ltb room (at + step_room)

unfoldable pub goes_on : List ℕ → Leaves Fed → Bool
goes_on piece x = ltb x.answer.read (length piece) && not (pauses_at x.answer.state.stopped (length x.room) x.answer.to)

-- n lines at the most
unfoldable pub feed_from : ℕ → List ℕ → Leaves Fed → Leaves Fed
feed_from zero piece x = x
feed_from (suc n) piece x =
    if goes_on piece x then feed_from n piece (feed_line_in x.answer.state x.memory x.room x.answer.to piece x.answer.read) else x

-- a piece has no more lines than bytes
unfoldable pub feed_in : State → Lent → List ℕ → ℕ → List ℕ → Leaves Fed
feed_in s k room at piece = feed_from (length piece) piece (leaves (fed_to s 0 at) k room)

-- ---- the end: "at the end the 14s ascending, then 15"; a line that is not ended, or a set that is open, is 1
pub record Said : Type 0 where
  pub answer : Maybe ℕ
  pub room : List ℕ

abbrev pub said : Maybe ℕ → List ℕ → Said
said w room = record { answer = w; room = room }

abbrev pub stop_said : ℕ → List ℕ → ℕ → Said
stop_said line room at = let text = hex (stop_found line (Layout line)) in said (room_said room at text) (room_after room at text)

abbrev pub found_said : State → Square → List ℕ → ℕ → Said
found_said s t room at = let text = found_text t s.reader.ended in said (said_at room at text) (written_after room at text)

abbrev pub end_said : State → Square → List ℕ → ℕ → Said
end_said s t room at =
    if ltb 0 s.held.length then stop_said s.reader.line room at
    else (if is_outside s.reader.stands then found_said s t room at else stop_said s.reader.line room at)

-- after a stop nothing more is found; less room than END_ROOM is left as it was
unfoldable pub end_in : State → Square → List ℕ → ℕ → Said
end_in s t room at =
    if leb (at + end_room) (length room) then (if s.stopped then said (Some at) room else end_said s t room at) else said None room

-- ---- a sheet that is there whole: begin, feed, end. NoRoom where feed pauses before the sheet's end, or the end has less room than END_ROOM.
abbrev pub is_enough : Lent → Bool
is_enough k = leb sites_room (length k.sites) && (leb kept_room (length k.words) && leb items_room (length k.items))

abbrev pub is_left_in : ℕ → ℕ → Bool → Bool
is_left_in read all halted = ltb read all && not halted

abbrev pub checked_as : Maybe ℕ → Checked
checked_as (Some e) = Ok e
checked_as None = Err checked.NoRoom

abbrev pub check_ended : Lent → Said → Leaves Checked
check_ended k o = leaves (checked_as o.answer) k o.room

abbrev pub check_fed : ℕ → Leaves Fed → Leaves Checked
check_fed all x =
    if is_left_in x.answer.read all x.answer.state.stopped then leaves (Err checked.NoRoom) x.memory x.room
    else check_ended x.memory (end_in x.answer.state x.memory.table x.room x.answer.to)

abbrev pub cleared : Lent → Lent
cleared k = lent k.sites k.words k.items no_edges

unfoldable pub check_in : List ℕ → Lent → List ℕ → Leaves Checked
check_in sheet k room = if is_enough k then check_fed (length sheet) (feed_in first_state (cleared k) room 0 sheet) else leaves (Err checked.NoMemory) k room

-- The code's state tells where the reading of `sheet_lines` stands; feeding is `fed_all`.
use Rattle.std.specs.declared.result.Result.TheVariants.{Err, Ok}
use Rattle.std.specs.declared.option.Option.TheVariants.{None, Some}
use Rattle.std.specs.Prelude.{◌≡◌, Bool, true, false, List, ℕ, ◌+◌, ◌≤◌, ◌<◌, length, leb, ◌⊎◌}
use Rattle.paper.specs.Sheets as paper
use Rattle.paper.specs.Sheets.{findings}
use Rattle.sheet_findings.specs.Written.{written_at}
use Rattle.paper.specs.Answered.{Maybe}
use Rattle.sheet_lines.specs.Fed.{Reading, going, stopped, fed_all, ended, max_held}
use Rattle.sheet_lines.specs.Pieces.{as_lines}
use Rattle.sheet_lines.specs.Held.{held_in, no_line}
use Rattle.sheet_ended.specs.Sets.{no_sets, end_room}
use Rattle.sheet_reader.specs.State.{Lent, Tells, stands_in, step_room, sites_room, kept_room, items_room}
use Rattle.sheet_reader.specs.declared.Event.{Event}
use Rattle.sheet_reader.specs.declared.Event.TheVariants as event
use Rattle.sheet_reader.specs.declared.Stands.TheVariants.{Outside}
use Rattle.sheet_read.specs.declared.State.{State}
use Rattle.sheet_read.specs.Checked.{Checked}
use Rattle.sheet_read.specs.declared.Unchecked.TheVariants as checked

unfoldable pub first_state : State
first_state = record { reader = record { line = 1; stands = Outside; ended = no_sets }; held = no_line; stopped = false }

abbrev pub is_stopped : Event → Bool
is_stopped event.Begun = false
is_stopped event.Site = false
is_stopped event.Item = false
is_stopped (event.Kept p q) = false
is_stopped (event.Refused p q x) = false
is_stopped event.Ended = false
is_stopped (event.Stopped x) = true
is_stopped event.NoRoom = false

-- before the end of line `at`, of which h is held
pub record Going (s : State) (k : Lent) (d : paper.Reader) (at : ℕ) (h : List ℕ) : Type 0 where
  pub tells : Tells s.reader k d.ended
  pub stands : d.stands ≡ stands_in k s.reader.stands
  pub line : s.reader.line ≡ at
  pub held : held_in s.held ≡ h
  pub short : s.held.length ≤ max_held
  pub whole : length s.held.bytes ≡ max_held
  pub goes : s.stopped ≡ false

abbrev pub Shows : State → Lent → Reading → Type 0
Shows s k (going d at h) = Going s k d at h
Shows s k stopped = s.stopped ≡ true

-- the bytes x are fed: where the reading then stands, and what is written from `at` on
pub record Fedding (M : Reading) (k' : Lent) (room room' : List ℕ) (at : ℕ) (x : List ℕ) (s' : State) (to : ℕ) : Type 0 where
  pub shows : Shows s' k' (fed_all M x).reading
  pub ends : to ≡ at + length (as_lines (fed_all M x).found)
  pub into : room' ≡ written_at room at (as_lines (fed_all M x).found)
  pub inside : at + length (as_lines (fed_all M x).found) ≤ length room

abbrev pub Feeds : State → Lent → Lent → List ℕ → List ℕ → ℕ → List ℕ → State → ℕ → Type 0
Feeds s k k' room room' at x s' to = (M : Reading) → Shows s k M → Fedding M k' room room' at x s' to

-- where the sheet ends here
abbrev pub small_at : ℕ → List ℕ → Bool
small_at at room = leb (at + end_room) (length room)

pub record Ending (M : Reading) (room room' : List ℕ) (at : ℕ) (w : Maybe ℕ) : Type 0 where
  pub is : w ≡ Some (at + length (as_lines (ended M)))
  pub into : room' ≡ written_at room at (as_lines (ended M))

abbrev pub Ends : State → Lent → List ℕ → List ℕ → ℕ → Maybe ℕ → Type 0
Ends s k room room' at w =
    (at + end_room ≤ length room → (M : Reading) → Shows s k M → Ending M room room' at w)
    × (length room < at + end_room → (w ≡ None) × (room' ≡ room))

-- a piece was not read to its end: the sheet stopped, or the room left is too short for a line
abbrev pub Pauses : State → List ℕ → ℕ → List ℕ → ℕ → Type 0
Pauses s room to piece read = read < length piece → (s.stopped ≡ true) ⊎ (length room < to + step_room)

-- ---- a sheet that is there whole
pub record Enough (m ws i : List ℕ) : Type 0 where
  pub sites : sites_room ≤ length m
  pub words : kept_room ≤ length ws
  pub items : items_room ≤ length i

abbrev pub Checks : List ℕ → List ℕ → List ℕ → List ℕ → List ℕ → List ℕ → Checked → Type 0
Checks sheet m ws i room room' (Ok n) = (n ≡ length (findings sheet)) × (room' ≡ written_at room 0 (findings sheet))
Checks sheet m ws i room room' (Err checked.NoRoom) = length room < length (findings sheet) + step_room
Checks sheet m ws i room room' (Err checked.NoMemory) = (Enough m ws i → ⊥) × (room' ≡ room)

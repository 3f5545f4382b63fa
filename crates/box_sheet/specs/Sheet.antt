-- What the sheet calls answer and leave, over the words and bytes that are lent. The state that they say is `state_in`.
use Rattle.std.specs.declared.result.Result.TheVariants.{Err, Ok}
use Rattle.std.specs.declared.option.Option.TheVariants.{None, Some}
use Rattle.std.specs.Prelude.{◌≡◌, Bool, true, false, List, [], ◌∷◌, ◌⊎◌, ℕ, ◌+◌, ◌≤◌, ◌<◌, length, get_or, take}
use Rattle.std.specs.Prelude.{if◌then◌else◌}
use Rattle.paper.specs.Sheets.{findings}
use Rattle.sheet_findings.specs.Written.{written_at}
use Rattle.paper.specs.Answered.{Maybe}
use Rattle.term_table.specs.Table.{Square}
use Rattle.sheet_lines.specs.Fed.{Reading, ended}
use Rattle.sheet_lines.specs.Pieces.{as_lines}
use Rattle.sheet_reader.specs.State.{Lent, lent, step_room, sites_room, kept_room, items_room}
use Rattle.sheet_state.specs.State.{state_in, state_put, held_put}
use Rattle.sheet_read.specs.Whole.{Shows, Feeds}
use Rattle.sheet_read.specs.Checked.{Checked}
use Rattle.sheet_read.specs.declared.Unchecked.TheVariants as checked
use Rattle.box_answers.specs.declared.Said.{Said}
use Rattle.box_answers.specs.Border.{short, answer_words, said, has_room, both, answered}

-- ---- what is lent is long enough (for the state: `sheet_state` has `keeps`)

-- for the open set and the items of its open rule
unfoldable pub lends : List ℕ → List ℕ → List ℕ → Bool
lends m ws i = both (has_room m sites_room) (both (has_room ws kept_room) (has_room i items_room))

-- for n bytes of findings, and the answer
unfoldable pub writes : List ℕ → ℕ → List ℕ → Bool
writes room n a = both (has_room room n) (has_room a answer_words)

-- ---- begin

abbrev pub begun_number : Bool → ℕ
begun_number b = if b then 0 else short

-- ---- feed: `read` bytes of the piece were read, and what they find stands in the first `to` bytes of the room
pub record Fed (w h : List ℕ) (k : Lent) (piece room w' h' : List ℕ) (k' : Lent) (room' : List ℕ) (read to : ℕ) : Type 0 where
  pub within : read ≤ length piece
  pub feeds : Feeds (state_in w h) k k' room room' 0 (take read piece) (state_in w' h') to
  -- a piece is read to its end, unless the room left is too short for a line
  pub pauses : read < length piece → length room < to + step_room
  -- a byte at least, so that a loop over the rest of a piece ends
  pub moves : (M : Reading) → Shows (state_in w h) k M → 0 < length piece → 0 < read
  -- behind the state what is lent is as it was
  pub words : w' ≡ state_put w (state_in w' h')
  pub bytes : h' ≡ held_put h (state_in w' h')

pub record Unfed (w h : List ℕ) (k : Lent) (room a w' h' : List ℕ) (k' : Lent) (room' a' : List ℕ) (r : ℕ) : Type 0 where
  pub words : w' ≡ w
  pub bytes : h' ≡ h
  pub memory : k' ≡ k
  pub found : room' ≡ room
  pub answer : a' ≡ a
  pub number : r ≡ short

unfoldable pub FeedSays : Bool → List ℕ → List ℕ → Lent → List ℕ → List ℕ → List ℕ → List ℕ → List ℕ → Lent → List ℕ → List ℕ → ℕ → Type 0
FeedSays true w h k piece room a w' h' k' room' a' r =
    Fed w h k piece room w' h' k' room' (get_or a' 0 0) (get_or a' 1 0) × ((a', r) ≡ answered true a (said 0 (get_or a' 0 0 ∷ get_or a' 1 0 ∷ [])))
FeedSays false w h k piece room a w' h' k' room' a' r = Unfed w h k room a w' h' k' room' a' r

-- ---- end

-- room that is too short, which is said of states that no call made alone
unfoldable pub ended_said : Maybe ℕ → Said
ended_said (Some n) = said 0 (n ∷ [])
ended_said None = said short []

-- all that is found where the sheet ends here
pub record Closed (M : Reading) (room a room' a' : List ℕ) (r : ℕ) : Type 0 where
  pub answer : (a', r) ≡ answered true a (said 0 (length (as_lines (ended M)) ∷ []))
  pub into : room' ≡ written_at room 0 (as_lines (ended M))

unfoldable pub EndSays : Bool → List ℕ → List ℕ → Square → List ℕ → List ℕ → List ℕ → List ℕ → ℕ → Type 0
EndSays true w h t room a room' a' r =
    ((m ws i : List ℕ) (M : Reading) → Shows (state_in w h) (lent m ws i t) M → Closed M room a room' a' r) × ((r ≡ 0) ⊎ (r ≡ short))
EndSays false w h t room a room' a' r = (room' ≡ room) × (a' ≡ a) × (r ≡ short)

-- ---- check

-- NoMemory is never met: `lends` is asked first
unfoldable pub checked_said : Checked → Said
checked_said (Ok n) = said 0 (n ∷ [])
checked_said (Err checked.NoRoom) = said short []
checked_said (Err checked.NoMemory) = said short []

pub record Found (sheet room a room' a' : List ℕ) (r : ℕ) : Type 0 where
  pub answer : (a', r) ≡ answered true a (said 0 (length (findings sheet) ∷ []))
  pub into : room' ≡ written_at room 0 (findings sheet)

pub record Crowded (sheet room a a' : List ℕ) (r : ℕ) : Type 0 where
  pub answer : (a', r) ≡ answered true a (said short [])
  pub short : length room < length (findings sheet) + step_room

pub record Unread (k : Lent) (room a : List ℕ) (k' : Lent) (room' a' : List ℕ) (r : ℕ) : Type 0 where
  pub memory : k' ≡ k
  pub found : room' ≡ room
  pub answer : a' ≡ a
  pub number : r ≡ short

unfoldable pub CheckSays : Bool → List ℕ → Lent → List ℕ → List ℕ → Lent → List ℕ → List ℕ → ℕ → Type 0
CheckSays true sheet k room a k' room' a' r = Found sheet room a room' a' r ⊎ Crowded sheet room a a' r
CheckSays false sheet k room a k' room' a' r = Unread k room a k' room' a' r

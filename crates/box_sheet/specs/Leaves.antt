-- What the sheet calls answer and leave, whatever the words and bytes that are lent hold: `piece_in`, `ending_in`, `sheet_in`.
use Rattle.std.specs.Prelude.{Bool, List, [], ◌∷◌, ℕ, length}
use Rattle.std.specs.Prelude.{if◌then◌else◌}
use Rattle.term_table.specs.Table.{Square}
use Rattle.sheet_ended.specs.Sets.{end_room}
use Rattle.sheet_reader.specs.State.{Lent, step_room}
use Rattle.sheet_state.specs.State.{keeps, state_in, state_put, held_put}
use Rattle.sheet_read.specs.Leaves as read
use Rattle.sheet_read.specs.Leaves.{Leaves, feed_in, end_in, check_in}
use Rattle.sheet_read.specs.declared.Fed.{Fed}
use Rattle.sheet_read.specs.Checked.{Checked}
use Rattle.box_answers.specs.Border.{short, said, both, answered}
use Rattle.box_sheet.specs.Sheet.{lends, writes, ended_said, checked_said}

-- ---- feed: the state's words and bytes, the working memory, the room; the answer's words, with the number
pub record PieceLeft : Type 0 where
  pub words : List ℕ
  pub bytes : List ℕ
  pub memory : Lent
  pub room : List ℕ
  pub answer : List ℕ × ℕ

abbrev pub piece_left : List ℕ → List ℕ → Lent → List ℕ → List ℕ × ℕ → PieceLeft
piece_left w h k room x = record { words = w; bytes = h; memory = k; room = room; answer = x }

-- once the sheet stopped, every byte counts as read
abbrev pub counted_in : ℕ → Fed → ℕ
counted_in all f = if f.state.stopped then all else f.read

abbrev pub piece_fed : List ℕ → List ℕ → ℕ → List ℕ → Leaves Fed → PieceLeft
piece_fed w h all a x =
    piece_left (state_put w x.answer.state) (held_put h x.answer.state) x.memory x.room
    (answered Bool.true a (said 0 (counted_in all x.answer ∷ x.answer.to ∷ [])))

-- where a slice is too short nothing changes
abbrev pub piece_fits : List ℕ → List ℕ → Lent → List ℕ → List ℕ → Bool
piece_fits w h k room a = both (keeps w h) (both (lends k.sites k.words k.items) (writes room step_room a))

unfoldable pub piece_in : List ℕ → List ℕ → Lent → List ℕ → List ℕ → List ℕ → PieceLeft
piece_in w h k piece room a =
    if piece_fits w h k room a then piece_fed w h (length piece) a (feed_in (state_in w h) k room 0 piece) else piece_left w h k room (a, short)

-- ---- end: the room; the answer's words, with the number
pub record EndingLeft : Type 0 where
  pub room : List ℕ
  pub answer : List ℕ × ℕ

abbrev pub ending_left : List ℕ → List ℕ × ℕ → EndingLeft
ending_left room x = record { room = room; answer = x }

abbrev pub ending_said : List ℕ → read.Said → EndingLeft
ending_said a o = ending_left o.room (answered Bool.true a (ended_said o.answer))

abbrev pub ending_fits : List ℕ → List ℕ → List ℕ → List ℕ → Bool
ending_fits w h room a = both (keeps w h) (writes room end_room a)

unfoldable pub ending_in : List ℕ → List ℕ → Square → List ℕ → List ℕ → EndingLeft
ending_in w h t room a = if ending_fits w h room a then ending_said a (end_in (state_in w h) t room 0) else ending_left room (a, short)

-- ---- check: the working memory, the room; the answer's words, with the number
pub record SheetLeft : Type 0 where
  pub memory : Lent
  pub room : List ℕ
  pub answer : List ℕ × ℕ

abbrev pub sheet_left : Lent → List ℕ → List ℕ × ℕ → SheetLeft
sheet_left k room x = record { memory = k; room = room; answer = x }

abbrev pub sheet_said : List ℕ → Leaves Checked → SheetLeft
sheet_said a o = sheet_left o.memory o.room (answered Bool.true a (checked_said o.answer))

abbrev pub sheet_fits : Lent → List ℕ → List ℕ → Bool
sheet_fits k room a = both (lends k.sites k.words k.items) (writes room step_room a)

unfoldable pub sheet_in : List ℕ → Lent → List ℕ → List ℕ → SheetLeft
sheet_in sheet k room a = if sheet_fits k room a then sheet_said a (check_in sheet k room) else sheet_left k room (a, short)

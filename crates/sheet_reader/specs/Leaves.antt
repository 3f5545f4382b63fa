-- What a line leaves, whatever the reader and the lent memory hold: the answer, the lent memory and the room. Here the two ways to answer.
use Rattle.std.specs.Prelude.{List, ℕ, ◌+◌, ltb}
use Rattle.paper.specs.declared.Refusal.{Refusal}
use Rattle.std.specs.Prelude.{if◌then◌else◌}
use Rattle.paper.specs.Numbers.{last_line}
use Rattle.paper.specs.Layout.{hex}
use Rattle.paper.specs.Sheets.{stop_found}
use Rattle.sheet_findings.specs.Written.{room_said, room_after}
use Rattle.sheet_ended.specs.Sets.{to_or}
use Rattle.sheet_reader.specs.State.{Lent}
use Rattle.sheet_reader.specs.declared.Reader.{Reader}
use Rattle.sheet_reader.specs.declared.Event.{Event}
use Rattle.sheet_reader.specs.declared.Event.TheVariants as event
use Rattle.sheet_reader.specs.declared.Stands.{Stands}
use Rattle.sheet_reader.specs.declared.Stepped.{Stepped}

pub record After : Type 0 where
  pub answer : Stepped
  pub memory : Lent
  pub room : List ℕ

abbrev pub after : Stepped → Lent → List ℕ → After
after a k room = record { answer = a; memory = k; room = room }

-- "Line 4,294,967,295 and later are 1": there is no number past it
abbrev pub next_line : ℕ → ℕ
next_line n = if ltb last_line n then n else n + 1

-- the sheet goes on: the reader before the next line
unfoldable pub gone_on : Reader → Stands → Event → ℕ → Stepped
gone_on r s e to = record { reader = record { line = next_line r.line; stands = s; ended = r.ended }; event = e; to = to }

-- "a last frame 1F line (4, from 1), number": the sheet stops. Where it has no room the line is not written.
abbrev pub stop_line : Reader → Refusal → List ℕ
stop_line r why = hex (stop_found r.line why)

unfoldable pub stop_answer : Reader → Refusal → List ℕ → ℕ → Stepped
stop_answer r why room at = record { reader = r; event = event.Stopped why; to = to_or (room_said room at (stop_line r why)) at }

unfoldable pub stop_in : Reader → Lent → List ℕ → ℕ → Refusal → After
stop_in r k room at why = after (stop_answer r why room at) k (room_after room at (stop_line r why))

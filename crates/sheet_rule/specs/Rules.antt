-- A rule of a sheet, as the code reads it.
use Rattle.std.specs.Prelude.{List, ℕ, ◌+◌, ◌-◌, ltb, leb}
use Rattle.paper.specs.declared.Item.{Item}
use Rattle.std.specs.Prelude.{if◌then◌else◌}
use Rattle.paper.specs.Numbers.{max_items, max_rules}
use Rattle.paper.specs.Sheets as paper
use Rattle.paper.specs.Sheets.{rule_read}
use Rattle.sheet_ended.specs.Holds.{Holds, Endable}
use Rattle.item_words.specs.Items.{put_item}
use Rattle.sheet_reader.specs.State.{Lent, Roomy, set_in, rule_in}
use Rattle.sheet_reader.specs.Answers.{Answers, rule_event}
use Rattle.sheet_reader.specs.declared.Reader.{Reader}
use Rattle.sheet_reader.specs.declared.Stepped.{Stepped}
use Rattle.sheet_reader.specs.declared.OpenSet.{OpenSet}
use Rattle.sheet_reader.specs.declared.Awaited.{Awaited}

abbrev pub next_rule_of : ℕ → ℕ
next_rule_of n = if ltb n max_rules then n + 1 else n

abbrev pub minus_of : ℕ → ℕ → ℕ
minus_of a b = if leb b a then a - b else 0

-- an item past the 32nd is not kept
abbrev pub item_kept : List ℕ → ℕ → Item → List ℕ
item_kept ws k i = if ltb k max_items then put_item ws k i else ws

-- a rule is read into an open set, wherever the reader stood
abbrev pub Reads : Reader → Lent → Lent → List ℕ → List ℕ → ℕ → paper.Ended → OpenSet → Awaited → Stepped → Type 0
Reads r k k' room room' at p s w a =
    Holds r.ended k.table p → Endable p (set_in k s) → Roomy k
    → Answers r k k' room room' at (rule_read p (set_in k s) (rule_in k w w.count)) (rule_event (set_in k s) (rule_in k w w.count)) a

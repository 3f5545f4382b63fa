-- What a line leaves, whatever the reader and the lent memory hold: `step_in`.
use Rattle.std.specs.declared.option.Option.TheVariants.{None, Some}
use Rattle.std.specs.Prelude.{List, ℕ, ◌+◌, length, take, leb}
use Rattle.paper.specs.declared.Refusal.TheVariants.{Layout}
use Rattle.std.specs.Prelude.{if◌then◌else◌}
use Rattle.paper.specs.Numbers.{last_line}
use Rattle.term_table.specs.Table.{with_edges}
use Rattle.sites.specs.Slots.{sites_in}
use Rattle.sheet_ended.specs.Sets.{edges_from, with_set}
use Rattle.sheet_frames.specs.Said.{reading_of}
use Rattle.sheet_frames.specs.declared.Frame.{Frame}
use Rattle.sheet_frames.specs.declared.Frame.TheVariants as said
use Rattle.sheet_frames.specs.declared.Read.{Read}
use Rattle.sheet_reader.specs.State.{Lent, lent, step_room}
use Rattle.sheet_reader.specs.Answers.{rule_set, unread}
use Rattle.sheet_reader.specs.Leaves.{After, after, stop_in}
use Rattle.sheet_reader.specs.declared.OpenSet.{OpenSet}
use Rattle.sheet_reader.specs.declared.Reader.{Reader}
use Rattle.sheet_reader.specs.declared.Event.TheVariants as event
use Rattle.sheet_reader.specs.declared.Stands.TheVariants.{Outside}
use Rattle.sheet_reader.specs.declared.Stepped.{Stepped}
use Rattle.paper.specs.Answered.{Maybe}
use Rattle.sheet_sites.specs.Leaves.{begin_in, site_line_in}
use Rattle.sheet_rule.specs.Leaves.{rule_in, item_in}
use Rattle.sheet_step.specs.Parts.{report_end, report_after}

-- ---- "06 ends the set": 1 where no set is open or items are to come; the report, and the set's edges go to the term table
abbrev pub set_closed : Reader → Lent → List ℕ → ℕ → OpenSet → Stepped
set_closed r k room at s =
    record {
      reader = record { line = r.line + 1; stands = Outside; ended = with_set r.ended s.term s.flags s.rules };
      event = event.Ended;
      to = report_end k.words s.rules s.flags room at;
    }

abbrev pub with_its_edges : Lent → OpenSet → Lent
with_its_edges k s = lent k.sites k.words k.items (with_edges k.table (edges_from s.term (sites_in k.sites s.sites)))

abbrev pub end_where : Reader → Lent → List ℕ → ℕ → Maybe OpenSet → After
end_where r k room at None = stop_in r k room at (Layout r.line)
end_where r k room at (Some s) = after (set_closed r k room at s) (with_its_edges k s) (report_after k.words s.rules s.flags room at)

unfoldable pub end_in : Reader → Lent → List ℕ → ℕ → After
end_in r k room at = end_where r k room at (rule_set r.stands)

-- ---- a line
abbrev pub frame_in : Reader → Lent → List ℕ → ℕ → List ℕ → Frame → After
frame_in r k room at bytes (said.Begin t f) = begin_in r k room at t f
frame_in r k room at bytes said.Site = site_line_in r k room at bytes
frame_in r k room at bytes (said.Rule p q n) = rule_in r k room at (record { place = p; priority = q; count = n })
frame_in r k room at bytes (said.Item i) = item_in r k room at i
frame_in r k room at bytes said.End = end_in r k room at
frame_in r k room at bytes said.Wrong = stop_in r k room at (Layout r.line)

abbrev pub line_in : Reader → Lent → List ℕ → ℕ → Read → After
line_in r k room at got = frame_in r k room at (take got.length got.bytes) got.frame

-- a line with a number, then one without
unfoldable pub numbered_in : Reader → Lent → List ℕ → ℕ → List ℕ → After
numbered_in r k room at l = if leb r.line last_line then line_in r k room at (reading_of l) else stop_in r k room at (Layout r.line)

-- a line is read where the room is enough for whatever it finds; else nothing changes
unfoldable pub step_in : Reader → Lent → List ℕ → ℕ → List ℕ → After
step_in r k room at l = if leb (at + step_room) (length room) then numbered_in r k room at l else after (unread r at) k room

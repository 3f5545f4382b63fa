-- A line: what each return leaves.
use mathlib.Core.Path.{◌≡◌, sym, ap, ◌∙◌}
use mathlib.Core.List.{List}
use Prim.Native.Nat.{ℕ, ◌+◌, ◌<◌, ◌≤◌}
use lib.ListN.{length, take}
use lib.Dec.{leb}
use borrow.Author.Tests.{le-leb, lt-leb}
use Rattle.std.specs.declared.option.Option.TheVariants.{None, Some}
use Rattle.paper.specs.declared.Refusal.TheVariants.{Layout}
use Rattle.paper.specs.Numbers.{last_line}
use Rattle.term_table.specs.Table.{Square, with_edges}
use Rattle.sites.specs.Slots.{sites_in}
use Rattle.sheet_ended.specs.Sets.{edges_from, with_set}
use Rattle.sheet_ended.specs.declared.EndedSets.{EndedSets}
use Rattle.sheet_frames.specs.Said.{reading_of}
use Rattle.sheet_frames.specs.declared.Frame.{Frame}
use Rattle.sheet_frames.specs.declared.Read.{Read}
use Rattle.sheet_reader.specs.State.{Lent, lent, step_room}
use Rattle.sheet_reader.specs.Answers.{rule_set, unread}
use Rattle.sheet_reader.specs.Leaves.{after, stop_in}
use Rattle.sheet_reader.specs.declared.OpenSet.{OpenSet}
use Rattle.sheet_reader.specs.declared.Reader.{Reader}
use Rattle.sheet_reader.specs.declared.Event.TheVariants as event
use Rattle.sheet_reader.specs.declared.Stands.TheVariants.{Outside}
use Rattle.sheet_reader.specs.declared.Stepped.{Stepped}
use Rattle.paper.specs.Answered.{Maybe}
use Rattle.sheet_reader.proofs.Leaving.{if_yes, if_no}
use Rattle.sheet_step.specs.Parts.{report_end, report_after}
use Rattle.sheet_step.specs.Leaves.{set_closed, with_its_edges, end_where, end_in, frame_in, line_in, numbered_in, step_in}

-- ---- 06
module _ (r : Reader) (m ws : List ℕ) (t : Square) (room : List ℕ) (at : ℕ) (a : Stepped) (v : Maybe OpenSet) (ev : v ≡ rule_set r.stands) where
  pub ends_not : (room' : List ℕ) → v ≡ None → ((k : Lent) → after a k room' ≡ stop_in r k room at (Layout r.line)) → (i : List ℕ) → after a (lent m ws i t) room' ≡ end_in r (lent m ws i t) room at
  unfolding end_in
  ends_not room' e S i = S (lent m ws i t) ∙ ap (end_where r (lent m ws i t) room at) (sym e ∙ ev)

  pub ends_ended : (g : OpenSet) (room' : List ℕ) (t' : Square) (to : ℕ) (E : EndedSets) → v ≡ Some g → (to ≡ report_end ws g.rules g.flags room at) × (room' ≡ report_after ws g.rules g.flags room at) → t' ≡ with_edges t (edges_from g.term (sites_in m g.sites)) → E ≡ with_set r.ended g.term g.flags g.rules → a ≡ record { reader = record { line = r.line + 1; stands = Outside; ended = E }; event = event.Ended; to = to } → (i : List ℕ) → after a (lent m ws i t') room' ≡ end_in r (lent m ws i t) room at
  unfolding end_in
  ends_ended g room' t' to E eg er et ee ea i =
      let k = lent m ws i t in
      let there : a ≡ set_closed r k room at g =
      ea ∙ (ap (λ x. record { reader = record { line = r.line + 1; stands = Outside; ended = x }; event = event.Ended; to = to }) ee
      ∙ ap (λ x. record { reader = record { line = r.line + 1; stands = Outside; ended = with_set r.ended g.term g.flags g.rules }; event = event.Ended; to = x }) er.0) in
      ap (λ x. after x (lent m ws i t') room') there
      ∙ (ap (λ x. after (set_closed r k room at g) (lent m ws i x) room') et
      ∙ (ap (after (set_closed r k room at g) (with_its_edges k g)) er.1
      ∙ ap (end_where r k room at) (sym eg ∙ ev)))

-- ---- a line
module _ (r : Reader) (k k' : Lent) (room room' : List ℕ) (at : ℕ) (l : List ℕ) (a : Stepped) where
  pub leaves_unread : length room < at + step_room → a ≡ unread r at → k' ≡ k → room' ≡ room → after a k' room' ≡ step_in r k room at l
  unfolding step_in
  leaves_unread h e x y =
      ap (λ z. after z k' room') e
      ∙ (ap (λ z. after (unread r at) z room') x
      ∙ (ap (after (unread r at) k) y
      ∙ if_no (leb (at + step_room) (length room)) (numbered_in r k room at l) (after (unread r at) k room) (lt-leb (at + step_room) (length room) h)))

  pub leaves_read : at + step_room ≤ length room → after a k' room' ≡ numbered_in r k room at l → after a k' room' ≡ step_in r k room at l
  unfolding step_in
  leaves_read h e = e ∙ if_yes (leb (at + step_room) (length room)) (numbered_in r k room at l) (after (unread r at) k room) (le-leb (at + step_room) (length room) h)

  pub leaves_late : last_line < r.line → after a k' room' ≡ stop_in r k room at (Layout r.line) → after a k' room' ≡ numbered_in r k room at l
  unfolding numbered_in
  leaves_late h e = e ∙ if_no (leb r.line last_line) (line_in r k room at (reading_of l)) (stop_in r k room at (Layout r.line)) (lt-leb r.line last_line h)

  module _ (h : r.line ≤ last_line) (got : Read) (eg : got ≡ reading_of l) where
    lines : line_in r k room at got ≡ numbered_in r k room at l
    unfolding numbered_in
    lines = ap (line_in r k room at) eg ∙ if_yes (leb r.line last_line) (line_in r k room at (reading_of l)) (stop_in r k room at (Layout r.line)) (le-leb r.line last_line h)

    pub leaves_frame : (f : Frame) → got.frame ≡ f → after a k' room' ≡ frame_in r k room at (take got.length got.bytes) f → after a k' room' ≡ numbered_in r k room at l
    leaves_frame f e S = S ∙ (ap (frame_in r k room at (take got.length got.bytes)) (sym e) ∙ lines)

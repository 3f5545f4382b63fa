-- What a line's answer says: the paper's step, whole.
use Rattle.std.specs.declared.option.Option.TheVariants.{None, Some}
use Rattle.std.specs.Prelude.{◌≡◌, Bool, true, false, List, [], ℕ, zero, suc, ◌+◌, ◌≤◌, ◌<◌, length}
use Rattle.paper.specs.declared.Item.{Item}
use Rattle.paper.specs.declared.Refusal.{Refusal}
use Rattle.paper.specs.Numbers.{Outcome, done, refused}
use Rattle.paper.specs.Loading.{Set, Written, load}
use Rattle.paper.specs.Layout as layout
use Rattle.paper.specs.Layout.{hex, begin_set, a_site, a_rule, an_item, end_set, frame_of}
use Rattle.std.proofs.Math.Option.{Option, none, some}
use Rattle.paper.specs.Sheets as paper
use Rattle.paper.specs.Sheets.{Open, outside, at_sites, at_rules, at_items, act, step, with_item, stop_found}
use Rattle.sheet_findings.specs.Written.{written_at}
use Rattle.sheet_lines.specs.Fed.{after_line}
use Rattle.sheet_lines.specs.Pieces.{as_lines}
use Rattle.sheet_reader.specs.State.{Lent, Tells, reader_of, stands_in, step_room}
use Rattle.sheet_reader.specs.declared.Reader.{Reader}
use Rattle.sheet_reader.specs.declared.Event.{Event}
use Rattle.sheet_reader.specs.declared.Event.TheVariants as event
use Rattle.sheet_reader.specs.declared.Stepped.{Stepped}
use Rattle.sheet_reader.specs.declared.Stands.{Stands}
use Rattle.sheet_reader.specs.declared.Stands.TheVariants.{Outside, Sites, Rules, Items}
use Rattle.paper.specs.Answered.{Maybe}
use Rattle.sheet_reader.specs.declared.OpenSet.{OpenSet}
use Rattle.sheet_reader.specs.declared.Awaited.{Awaited}

-- ---- where a frame may stand
abbrev pub is_outside : Stands → Bool
is_outside Outside = true
is_outside (Sites s) = false
is_outside (Rules s) = false
is_outside (Items s r n) = false

abbrev pub site_set : Stands → Maybe OpenSet
site_set Outside = None
site_set (Sites s) = Some s
site_set (Rules s) = None
site_set (Items s r n) = None

abbrev pub rule_set : Stands → Maybe OpenSet
rule_set Outside = None
rule_set (Sites s) = Some s
rule_set (Rules s) = Some s
rule_set (Items s r n) = None

-- the rule whose items are to come, if there is one
abbrev pub Awaits : Type 0
Awaits = Maybe (OpenSet × Awaited × ℕ)

abbrev pub open_rule : Stands → Awaits
open_rule Outside = None
open_rule (Sites s) = None
open_rule (Rules s) = None
open_rule (Items s r n) = Some (s, r, n)

-- ---- what a line was, where the sheet goes on
unfoldable pub rule_event : Set → Written → Event
rule_event g r = elim (load g r) [ done h ↦ event.Kept r.place r.priority | refused x ↦ event.Refused r.place r.priority x ]

unfoldable pub items_event : Set → Written → ℕ → Event
items_event g r zero = rule_event g r
items_event g r (suc n) = event.Item

unfoldable pub item_event : Set → Written → ℕ → Item → Event
item_event g r zero i = items_event g r zero
item_event g r (suc n) i = items_event g (with_item r i) n

abbrev pub frame_event : Set → layout.Frame → Event
frame_event g (begin_set t f) = event.Begun
frame_event g (a_site s) = event.Site
frame_event g (a_rule p q n) = items_event g (record { place = p; priority = q; count = n; items = [] }) n
frame_event g (an_item i) = event.Item
frame_event g end_set = event.Ended

abbrev pub act_event : Open → layout.Frame → Event
act_event outside f = event.Begun
act_event (at_sites g) f = frame_event g f
act_event (at_rules g) f = frame_event g f
act_event (at_items g r n) (begin_set t f) = event.Begun
act_event (at_items g r n) (a_site s) = event.Site
act_event (at_items g r n) (a_rule p q m) = event.Item
act_event (at_items g r n) (an_item i) = item_event g r n i
act_event (at_items g r n) end_set = event.Ended

-- ---- the answer. A refusal stops the sheet: the reader and the lent memory are as they were.
abbrev pub text_of : ℕ → Outcome paper.Stepped → List ℕ
text_of at o = as_lines (after_line at o).found

abbrev pub told : Outcome paper.Stepped → Event → Event
told (done s) e = e
told (refused x) e = event.Stopped x

abbrev pub Goes : Reader → Lent → Lent → Stepped → Outcome paper.Stepped → Type 0
Goes r k k' a (done s) = (s.after.stands ≡ stands_in k' a.reader.stands) × Tells a.reader k' s.after.ended × (a.reader.line ≡ r.line + 1)
Goes r k k' a (refused x) = (k' ≡ k) × (a.reader ≡ r)

pub record Answers (r : Reader) (k k' : Lent) (room room' : List ℕ) (at : ℕ) (o : Outcome paper.Stepped) (e : Event) (a : Stepped) : Type 0 where
  pub event : a.event ≡ told o e
  pub to : a.to ≡ at + length (text_of r.line o)
  pub into : room' ≡ written_at room at (text_of r.line o)
  pub goes : Goes r k k' a o
  pub fits : length (text_of r.line o) ≤ step_room

-- of a frame
abbrev pub Acts : Reader → Lent → Lent → List ℕ → List ℕ → ℕ → paper.Ended → layout.Frame → Stepped → Type 0
Acts r k k' room room' at p f a = Answers r k k' room room' at (act p r.line (stands_in k r.stands) f) (act_event (stands_in k r.stands) f) a

-- ---- how an answer is made
abbrev pub went : Reader → Stands → Event → ℕ → Stepped
went r s e to = record { reader = record { line = r.line + 1; stands = s; ended = r.ended }; event = e; to = to }

abbrev pub unread : Reader → ℕ → Stepped
unread r at = record { reader = r; event = event.NoRoom; to = at }

pub record Stops (r : Reader) (why : Refusal) (room room' : List ℕ) (at : ℕ) (a : Stepped) : Type 0 where
  pub is : a ≡ record { reader = r; event = event.Stopped why; to = at + length (hex (stop_found r.line why)) }
  pub into : room' ≡ written_at room at (hex (stop_found r.line why))

-- ---- a line
abbrev pub line_event : Open → Option layout.Frame → Event
line_event o none = event.NoRoom
line_event o (some f) = act_event o f

abbrev pub Steps : Reader → Lent → Lent → List ℕ → List ℕ → ℕ → paper.Ended → List ℕ → Stepped → Type 0
Steps r k k' room room' at p l a = Answers r k k' room room' at (step (reader_of r k p) r.line l) (line_event (stands_in k r.stands) (frame_of l)) a

-- one line: where there is room, the paper's step; else nothing is read and nothing changes
abbrev pub Stepping : Reader → Lent → Lent → List ℕ → List ℕ → ℕ → List ℕ → Stepped → Type 0
Stepping r k k' room room' at l a =
    (at + step_room ≤ length room → (p : paper.Ended) → Tells r k p → Steps r k k' room room' at p l a)
    × (length room < at + step_room → (a ≡ unread r at) × (k' ≡ k) × (room' ≡ room))

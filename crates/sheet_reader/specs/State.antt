-- The paper's reader, out of the code's reader and the lent memory.
use Rattle.std.specs.Prelude.{List, ℕ, ◌+◌, ◌-◌, ◌*◌, ◌≤◌, ◌<◌, min, length}
use Rattle.paper.specs.Numbers.{max_items, max_sites, max_rules, last_line}
use Rattle.paper.specs.Loading.{Set, Written}
use Rattle.paper.specs.Sheets as paper
use Rattle.paper.specs.Sheets.{Open, outside, at_sites, at_rules, at_items}
use Rattle.sites.specs.Slots.{slot, sites_in}
use Rattle.rule_words.specs.Stored.{stride, kept_first}
use Rattle.term_table.specs.Table.{Square}
use Rattle.report.specs.Lines.{report_room}
use Rattle.item_words.specs.Items.{items_in}
use Rattle.sheet_ended.specs.Holds.{Holds, Endable}
use Rattle.sheet_reader.specs.declared.OpenSet.{OpenSet}
use Rattle.sheet_reader.specs.declared.Awaited.{Awaited}
use Rattle.sheet_reader.specs.declared.Stands.{Stands}
use Rattle.sheet_reader.specs.declared.Stands.TheVariants.{Outside, Sites, Rules, Items}
use Rattle.sheet_reader.specs.declared.Reader.{Reader}

-- what is lent: the sites of the open set, its kept rules, the items of its open rule, the term table
pub record Lent : Type 0 where
  pub sites : List ℕ
  pub words : List ℕ
  pub items : List ℕ
  pub table : Square

abbrev pub lent : List ℕ → List ℕ → List ℕ → Square → Lent
lent m w i t = record { sites = m; words = w; items = i; table = t }

-- the sizes
abbrev pub sites_room : ℕ
sites_room = max_sites * slot

abbrev pub kept_room : ℕ
kept_room = stride * max_rules

abbrev pub items_room : ℕ
items_room = 4 * max_items

abbrev pub step_room : ℕ
step_room = report_room

pub record Roomy (k : Lent) : Type 0 where
  pub sites : sites_room ≤ length k.sites
  pub words : kept_room ≤ length k.words
  pub items : items_room ≤ length k.items

-- the open set; its open rule, of which n items were read
abbrev pub set_in : Lent → OpenSet → Set
set_in k s = record { term = s.term; flags = s.flags; sites = sites_in k.sites s.sites; kept = kept_first k.words s.rules }

abbrev pub rule_in : Lent → Awaited → ℕ → Written
rule_in k r n = record { place = r.place; priority = r.priority; count = r.count; items = items_in k.items (min n max_items) }

abbrev pub stands_in : Lent → Stands → Open
stands_in k Outside = outside
stands_in k (Sites s) = at_sites (set_in k s)
stands_in k (Rules s) = at_rules (set_in k s)
stands_in k (Items s r left) = at_items (set_in k s) (rule_in k r (r.count - left)) left

-- what holds of an open set that lines made
abbrev pub Fine : Lent → paper.Ended → Stands → Type 0
Fine k p Outside = Unit {0}
Fine k p (Sites s) = Endable p (set_in k s)
Fine k p (Rules s) = Endable p (set_in k s)
Fine k p (Items s r left) = Endable p (set_in k s) × (0 < left) × (left ≤ r.count)

-- the code's reader with the lent memory tells the paper's, whose ended sets are p
pub record Tells (r : Reader) (k : Lent) (p : paper.Ended) : Type 0 where
  pub holds : Holds r.ended k.table p
  pub fine : Fine k p r.stands
  pub roomy : Roomy k

abbrev pub reader_of : Reader → Lent → paper.Ended → paper.Reader
reader_of r k p = record { ended = p; stands = stands_in k r.stands }

-- a line can be read: the room is enough for whatever it finds, and it has a number
abbrev pub Ready : Reader → List ℕ → ℕ → Type 0
Ready r room at = (at + step_room ≤ length room) × (r.line ≤ last_line)

-- What the lent lists show of a rule on its way. Row i belongs to item i: its constraint in three words from 3 * i, its children from 8 * i.
use Rattle.std.specs.declared.result.Result.TheVariants.{Err, Ok}
use Rattle.std.specs.Prelude.{◌≡◌, Bool, ◌&&◌, List, ℕ, ◌+◌, ◌*◌, ◌<◌, ◌≤◌, length, get_or, take, leb}
use Rattle.paper.specs.declared.Item.{Item}
use Rattle.paper.specs.declared.Refusal.TheVariants.{TooManySites, TooManyItems}
use Rattle.paper.specs.Numbers.{max_sites, max_fields, max_items, Outcome, done, refused, demand, ◌>>=◌}
use Rattle.paper.specs.Sites.{child_count, child_number}
use Rattle.paper.specs.Loading.{Loading, load_items, hanging, no_hanging, no_items}
use Rattle.rule_words.specs.Packing.{InRange}
use Rattle.sites.specs.Slots.{sites_in}
use Rattle.rule_children.specs.Tail.{table}
use Rattle.rule_rows.specs.Holding.{shape_in, kid_in, eqs_in}
use Rattle.rule_hanging.specs.Seen.{shown}
use Rattle.rule_items.specs.declared.Progress.{Progress}

-- Holder i: its row is one of the items', its constraint in range, with few enough children, whose numbers the row has.
pub record Row (l : Loading) (sites rows words kids : List ℕ) (i : ℕ) : Type 0 where
  pub item : get_or rows i 0 < max_items
  pub range : InRange (shape_in words (get_or rows i 0))
  pub few : child_count (shape_in words (get_or rows i 0)) ≤ max_fields
  pub known : get_or sites i 0 < length l.sites
  pub child : (f : ℕ) → f < child_count (shape_in words (get_or rows i 0))
      → kid_in kids (get_or rows i 0) f ≡ child_number l.sites (get_or sites i 0) (shape_in words (get_or rows i 0)) f
  pub below : (f : ℕ) → f < child_count (shape_in words (get_or rows i 0)) → kid_in kids (get_or rows i 0) f < length l.sites

-- the lists tell l: t words of the tail, `held` constrained sites, `equal` numbers of equalities
pub record Shown (m : List ℕ) (n : ℕ) (tail : List ℕ) (t : ℕ) (sites rows words kids : List ℕ) (held : ℕ) (eqs : List ℕ) (equal : ℕ) (l : Loading)
    : Type 0 where
  pub sites_are : table m n tail t ≡ l.sites
  pub fits : n + t ≤ max_sites
  pub constraints_are : shown sites rows words held ≡ l.constraints
  pub row : (i : ℕ) → i < held → Row l sites rows words kids i
  pub equalities_are : eqs_in (take equal eqs) ≡ l.equalities
  pub even : equal ≡ 2 * length l.equalities
  pub equal_fits : equal ≤ length eqs
  pub equal_known : (i : ℕ) → i < equal → get_or eqs i 0 < length l.sites

-- Lent lists of these lengths are never too short: an item adds eight children at the most.
unfoldable pub roomy : List ℕ → List ℕ → List ℕ → List ℕ → List ℕ → List ℕ → Bool
roomy tail sites rows words kids eqs =
    leb (8 * max_items) (length tail) && (leb max_items (length sites) && (leb max_items (length rows)
    && (leb (3 * max_items) (length words) && (leb (8 * max_items) (length kids) && leb (2 * max_items) (length eqs)))))

-- "items as written .. Then 5": a table that passes the numbers, or lists that are too short, are refused first
unfoldable pub items_in : Bool → List ℕ → ℕ → ℕ → List Item → Outcome Loading
items_in room m n count items = do
  _ ← demand (leb n max_sites) (TooManySites n count)
  _ ← demand (room && leb count max_items) (TooManyItems count)
  l ← load_items (no_items (sites_in m n)) 0 items
  _ ← no_hanging (hanging l)
  done l

-- What load_items answers, and what it leaves in the lists; of a refused rule they say nothing.
abbrev pub Told : List ℕ → ℕ → List ℕ → List ℕ → List ℕ → List ℕ → List ℕ → List ℕ → Progress → Outcome Loading → Type 0
Told m n tail sites rows words kids eqs r (done l) = (r.answer ≡ Ok tt) × Shown m n tail r.tail sites rows words kids r.held eqs r.equal l
Told m n tail sites rows words kids eqs r (refused e) = r.answer ≡ Err e

-- where the answer is fine, the row of each constrained site is that of one of `count` items
pub record Rowed (rows : List ℕ) (count : ℕ) (r : Progress) : Type 0 where
  pub low : r.answer ≡ Ok tt → (i : ℕ) → i < r.held → get_or rows i 0 < count

-- the lent lists are as long as before
pub record AsLong (tail sites rows words kids eqs tail' sites' rows' words' kids' eqs' : List ℕ) : Type 0 where
  pub tail_long : length tail' ≡ length tail
  pub sites_long : length sites' ≡ length sites
  pub rows_long : length rows' ≡ length rows
  pub words_long : length words' ≡ length words
  pub kids_long : length kids' ≡ length kids
  pub eqs_long : length eqs' ≡ length eqs

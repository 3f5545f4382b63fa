-- A rule on its way through its items: what holds after each, and of each step.
use Rattle.std.specs.declared.result.Result.TheVariants.{Err, Ok}
use Rattle.std.specs.Prelude.{◌≡◌, ◌⊎◌, ℕ, ◌+◌, ◌*◌, ◌<◌, ◌≤◌, length, get_or}
use Rattle.std.proofs.Math.Option.{some}
use mathlib.Core.List.{List, [], Memᴰ}
use Rattle.paper.specs.declared.Item.{Item}
use Rattle.paper.specs.Numbers.{max_sites, max_fields, max_items, Outcome, done, refused}
use Rattle.paper.specs.Sites.{child_count, child, number_of}
use Rattle.paper.specs.Loading.{Loading}
use Rattle.rule_rows.specs.Holding.{shape_in, kid_in}
use Rattle.rule_items.specs.Shown.{Shown}
use Rattle.rule_hanging.specs.Seen.{names}
use Rattle.rule_items.specs.declared.Progress.{Progress}

-- after i items the lists tell l; rows from i on are free
pub record Way (m : List ℕ) (n : ℕ) (tail : List ℕ) (t : ℕ) (sites rows words kids : List ℕ) (held : ℕ) (eqs : List ℕ) (equal i : ℕ) (l : Loading)
    : Type 0 where
  pub shown : Shown m n tail t sites rows words kids held eqs equal l
  pub few : held ≤ i
  pub twice : equal ≤ 2 * i
  pub short : t ≤ max_fields * i
  pub older : (k : ℕ) → k < held → get_or rows k 0 < i
  pub numbered : (k : ℕ) → k < held → (f : ℕ) → f < child_count (shape_in words (get_or rows k 0))
      → number_of l.sites (child (get_or sites k 0) (shape_in words (get_or rows k 0)) f) ≡ some (kid_in kids (get_or rows k 0) f)
  pub named : (x : ℕ) → Memᴰ x l.named → x < length l.sites

-- there is room for item i
pub record Room (n t held i : ℕ) (tail sites rows words kids : List ℕ) : Type 0 where
  pub item : i < max_items
  pub few : held ≤ i
  pub fits : n + t ≤ max_sites
  pub short : t ≤ max_fields * i
  pub tail_long : 8 * max_items ≤ length tail
  pub sites_long : max_items ≤ length sites
  pub rows_long : max_items ≤ length rows
  pub words_long : 3 * max_items ≤ length words
  pub kids_long : 8 * max_items ≤ length kids

-- and for its numbers, if it is an equality
pub record Space (equal i : ℕ) (eqs : List ℕ) : Type 0 where
  pub item : i < max_items
  pub twice : equal ≤ 2 * i
  pub eqs_long : 2 * max_items ≤ length eqs

-- item i was taken, or refused
abbrev pub Turn : List ℕ → ℕ → List ℕ → List ℕ → List ℕ → List ℕ → List ℕ → List ℕ → Progress → ℕ → Outcome Loading → Type 0
Turn m n tail sites rows words kids eqs r i (done l) =
    (r.answer ≡ Ok tt) × Way m n tail r.tail sites rows words kids r.held eqs r.equal (i + 1) l
Turn m n tail sites rows words kids eqs r i (refused e) = r.answer ≡ Err e

-- all `count` items were taken, and l names what they name; or one was refused
abbrev pub Walk : List ℕ → ℕ → List ℕ → List ℕ → List ℕ → List ℕ → List ℕ → List ℕ → Progress → ℕ → List Item → Outcome Loading → Type 0
Walk m n tail sites rows words kids eqs r count items (done l) =
    (r.answer ≡ Ok tt) × (Way m n tail r.tail sites rows words kids r.held eqs r.equal count l × (l.named ≡ names items []))
Walk m n tail sites rows words kids eqs r count items (refused e) = r.answer ≡ Err e

-- ---- a row

-- the three words of row i
pub record Worded (words : List ℕ) (i a b c : ℕ) (words' : List ℕ) : Type 0 where
  pub long : length words' ≡ length words
  pub one : get_or words' (3 * i) 0 ≡ a
  pub two : get_or words' (3 * i + 1) 0 ≡ b
  pub three : get_or words' (3 * i + 2) 0 ≡ c
  pub other : (k : ℕ) → k < 3 * i → get_or words' k 0 ≡ get_or words k 0

-- the first f of the numbers `of` in row i
pub record Filled (kids : List ℕ) (i : ℕ) (of : List ℕ) (f : ℕ) (kids' : List ℕ) : Type 0 where
  pub long : length kids' ≡ length kids
  pub each : (k : ℕ) → k < f → get_or kids' (max_fields * i + k) 0 ≡ get_or of k 0
  pub before : (k : ℕ) → k < max_fields * i → get_or kids' k 0 ≡ get_or kids k 0
  pub any : (k : ℕ) → (get_or kids' k 0 ≡ get_or kids k 0) ⊎ ((j : ℕ) × (get_or kids' k 0 ≡ get_or of j 0))

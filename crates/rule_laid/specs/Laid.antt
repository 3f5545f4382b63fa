-- How constrained sites are laid out in lent lists.
use Rattle.std.specs.Prelude.{◌≡◌, Bool, true, false, List, ℕ, suc, ◌<◌, ◌≤◌, get_or}
use Rattle.paper.specs.Numbers.{max_items, max_fields}
use Rattle.paper.specs.Sites.{child_count}
use Rattle.rule_words.specs.Packing.{InRange}
use Rattle.rule_rows.specs.Holding.{shape_in}

-- the constraint of row i: one that the code's types hold, with few enough fields
pub record GoodRow (words : List ℕ) (i : ℕ) : Type 0 where
  pub item : i < max_items
  pub range : InRange (shape_in words i)
  pub few : child_count (shape_in words i) ≤ max_fields

-- entry i of the constrained sites: above the one before, known, with a good row
pub record Entry (sites rows words : List ℕ) (total i : ℕ) : Type 0 where
  pub up : (j : ℕ) → suc j ≡ i → get_or sites j 0 < get_or sites i 0
  pub inside : get_or sites i 0 < total
  pub good : GoodRow words (get_or rows i 0)

abbrev pub Entries : List ℕ → List ℕ → List ℕ → ℕ → ℕ → Type 0
Entries sites rows words total held = (i : ℕ) → i < held → Entry sites rows words total i

-- the first `many` numbers are known
abbrev pub Known : List ℕ → ℕ → ℕ → Type 0
Known xs total many = (i : ℕ) → i < many → get_or xs i 0 < total

-- b tells whether P fails
pub record Faults (b : Bool) (P : Type 0) : Type 0 where
  pub found : b ≡ true → P → ⊥
  pub none : b ≡ false → P

-- What check 5 reads, and the sites that it is asked of.
use Rattle.std.specs.Prelude.{◌≡◌, ℕ, ◌<◌, length, get_or}
use mathlib.Core.List.{List, [], ◌∷◌, Memᴰ}
use Rattle.paper.specs.declared.Item.{Item}
use Rattle.paper.specs.Words.{below}
use Rattle.paper.specs.Sites.{site_at}
use Rattle.paper.specs.Loading.{Constraints, Loading}
use Rattle.rule_words.specs.Packing.{InRange}
use Rattle.rule_children.specs.Tail.{site_there}
use Rattle.rule_rows.specs.Holding.{shape_in}
use Rattle.paper.specs.declared.Item.TheVariants.{Is, Equal}

-- the constrained sites with their constraints
unfoldable pub shown : List ℕ → List ℕ → List ℕ → ℕ → Constraints
shown sites rows words held = below held (λ i. (get_or sites i 0, shape_in words (get_or rows i 0)))

-- the sites that items name, after those of `before`, last first
abbrev pub names : List Item → List ℕ → List ℕ
names [] before = before
names (Is s c ∷ rest) before = names rest (s ∷ before)
names (Equal a b ∷ rest) before = names rest (a ∷ b ∷ before)

-- what check 5 reads
pub record Sees (m : List ℕ) (n : ℕ) (tail sites rows words : List ℕ) (held : ℕ) (l : Loading) : Type 0 where
  pub site : (x : ℕ) → x < length l.sites → site_at l.sites x ≡ site_there m n tail x
  pub constraints_are : shown sites rows words held ≡ l.constraints
  pub range : (i : ℕ) → i < held → InRange (shape_in words (get_or rows i 0))
  pub small : (i : ℕ) → i < held → get_or sites i 0 < 65536

-- all of them are sites of l
abbrev pub Known : Loading → List ℕ → Type 0
Known l ns = (x : ℕ) → Memᴰ x ns → x < length l.sites

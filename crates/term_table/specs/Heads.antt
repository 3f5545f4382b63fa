-- The sets of a sheet as the term table knows them: of each only its term and whether it has rec.
use Rattle.std.specs.Prelude.{◌≡◌, Bool, ℕ, ◌<◌}
use mathlib.Core.List.{List, map, Memᴰ}
use Rattle.paper.specs.Words.{keep, Edges}
use Rattle.term_table.specs.Table.{terms, no_marks, with_terms}

-- edges between terms
unfoldable pub Between : Edges → Type 0
Between es = (a b : ℕ) → Memᴰ (a, b) es → (a < terms) × (b < terms)

-- the row after one call for each set that has rec
abbrev pub rec_marks : {H : Type 0} → (H → ℕ) → (H → Bool) → List H → List ℕ
rec_marks term rec hs = with_terms no_marks (map term (keep rec hs))

-- sets as a sheet gives them: terms to 255, each used once, and an edge starts at a set's term
pub record Sheeted {H : Type 0} (term : H → ℕ) (rec : H → Bool) (hs : List H) (es : Edges) : Type 0 where
  pub fits : (h : H) → Memᴰ h hs → term h < terms
  pub once : (h k : H) → Memᴰ h hs → Memᴰ k hs → term h ≡ term k → rec h ≡ rec k
  pub between : Between es
  pub starts : (a b : ℕ) → Memᴰ (a, b) es → Memᴰ a (map term hs)

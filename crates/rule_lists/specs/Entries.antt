-- The constrained sites of a rule on its way, ascending, each with the row that has its constraint: two lent lists, of which the first `held` count.
use Rattle.std.specs.declared.option.Option.TheVariants.{None, Some}
use Rattle.std.specs.Prelude.{◌≡◌, Bool, true, false, List, ℕ, ◌+◌, ◌<◌, ◌≤◌, length, get_or}
use Rattle.std.proofs.Math.Option.{Option, none, some}
use Rattle.paper.specs.Answered.{Maybe}
use Rattle.paper.specs.Words.{Table, below, put}

unfoldable pub entries : List ℕ → List ℕ → ℕ → Table ℕ
entries sites rows held = below held (λ i. (get_or sites i 0, get_or rows i 0))

-- The lists after s was put with its row: paper's `put`, the lists as long as before, and past the r that count now as they were.
pub record Puts (sites rows : List ℕ) (held s row : ℕ) (sites' rows' : List ℕ) (r : ℕ) : Type 0 where
  pub table : entries sites' rows' r ≡ put s row (entries sites rows held)
  pub number : r ≡ length (put s row (entries sites rows held))
  pub long_sites : length sites' ≡ length sites
  pub long_rows : length rows' ≡ length rows
  pub past_sites : (i : ℕ) → r ≤ i → get_or sites' i 0 ≡ get_or sites i 0
  pub past_rows : (i : ℕ) → r ≤ i → get_or rows' i 0 ≡ get_or rows i 0

abbrev pub found_as : Option ℕ → Maybe ℕ
found_as none = None
found_as (some row) = Some row

-- ---- on the way to that

-- r is where s goes among the first `held` of xs: all before it are lower, and the one there is not
pub record Spot (xs : List ℕ) (held s r : ℕ) : Type 0 where
  pub within : r ≤ held
  pub lower : (k : ℕ) → k < r → get_or xs k 0 < s
  pub stop : r < held → s ≤ get_or xs r 0

-- whether s stands at i already
pub record Stands (xs : List ℕ) (i held s : ℕ) (r : Bool) : Type 0 where
  pub there : r ≡ true → (i < held) × (get_or xs i 0 ≡ s)
  pub other : r ≡ false → i < held → get_or xs i 0 ≡ s → ⊥

-- ys is xs with x put at i, and what stood from there to `held` one further
pub record Inserted (xs : List ℕ) (i held x : ℕ) (ys : List ℕ) : Type 0 where
  pub long : length ys ≡ length xs
  pub front : (k : ℕ) → k < i → get_or ys k 0 ≡ get_or xs k 0
  pub here : get_or ys i 0 ≡ x
  pub moved : (k : ℕ) → i ≤ k → k < held → get_or ys (k + 1) 0 ≡ get_or xs k 0
  pub past : (k : ℕ) → held < k → get_or ys k 0 ≡ get_or xs k 0

-- Numbers that ascend, every fourth of the words from `from` up to `end`, none below `low`.
use Rattle.std.specs.Prelude.{ℕ, ◌+◌, ◌*◌, ◌≤◌, ◌<◌, List, get_or}

pub record Rising (ws : List ℕ) (from end low : ℕ) : Type 0 where
  pub over : (k : ℕ) → from + 4 * k < end → low ≤ get_or ws (from + 4 * k) 0
  pub rises : (j k : ℕ) → j ≤ k → from + 4 * k < end → get_or ws (from + 4 * j) 0 ≤ get_or ws (from + 4 * k) 0

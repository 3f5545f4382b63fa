use mathlib.Core.Path.{◌≡◌}
use Prim.Native.Nat.{ℕ, ◌<◌}
use lib.ListN.{get_or}
use Rattle.classes.specs.Answers.{rep}
use Rattle.rule_rows.specs.Holding.{chart}
use Rattle.rule_check.specs.Search.{Safe}
use Rattle.rule_check.proofs.settled.Given as goal

abbrev pub invariant-loop-left : goal.invariant-loop-left
invariant-loop-left l = Safe (chart l.rows l.words l.kids) l.p l.boss l.turned × (l.left ≡ 0 → (g : ℕ) → g < l.m → get_or l.turned (rep l.p (get_or l.sites g 0)) 0 ≡ 0 → ⊥)

abbrev pub decreases-loop-left : goal.decreases-loop-left
decreases-loop-left l = l.left

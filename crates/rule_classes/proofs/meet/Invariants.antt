use mathlib.Core.Path.{◌≡◌}
use mathlib.Core.Bool.{false}
use Prim.Native.Nat.{ℕ, ◌≤◌, ◌<◌}
use Rattle.classes.specs.Well.{Well}
use Rattle.rule_rows.specs.Holding.{held}
use Rattle.rule_classes.specs.Growing.{mate}
use Rattle.rule_classes.proofs.meet.Given as goal

abbrev pub invariant-loop-g : goal.invariant-loop-g
invariant-loop-g l = (l.g ≤ l.h) × ((l.p ≡ l.initial.p) × (Well l.p l.r l.n × ((f : ℕ) → f < l.g → mate (held l.sites l.rows l.words l.kids) l.p f l.h ≡ false)))

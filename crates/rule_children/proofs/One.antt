-- One answer fits: `Spelt`.
use mathlib.Core.Path.{◌≡◌, sym, ◌∙◌}
use Prim.Native.Nat.{ℕ}
use Rattle.paper.specs.Sites.{Site}
use Rattle.rule_children.specs.Tail.{Spelt}

pub one_word : (s : Site) (v w : ℕ) → Spelt s v → Spelt s w → v ≡ w
one_word s v w P Q = P.is ∙ sym Q.is

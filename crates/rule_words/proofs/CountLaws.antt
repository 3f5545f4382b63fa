-- A count, and a priority, read and stored.
use mathlib.Core.Path.{◌≡◌}
use Prim.Native.Nat.{ℕ, ◌<◌}
use native.Mathlib.Omega.{arith}
use Rattle.paper.specs.Rules.{rank}

-- stored and read back
pub rank_rank : (p : ℕ) → p < 18446744073709551616 → rank (rank p) ≡ p
unfolding rank
rank_rank p h = omega arith

pub rank_one : (p q : ℕ) → p < 18446744073709551616 → q < 18446744073709551616 → rank p ≡ rank q → p ≡ q
unfolding rank
rank_one p q h k e = omega arith

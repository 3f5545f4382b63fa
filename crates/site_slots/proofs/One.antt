-- One answer fits: `Finds` and `Seeks`.
use mathlib.Core.Path.{◌≡◌, sym, ◌∙◌}
use Prim.Native.Nat.{ℕ, ◌≤◌, ◌<◌}
use native.Mathlib.Omega.{arith}
use native.Mathlib.Decide.{dec_lt}
use mathlib.Core.List.{List}
use Rattle.site_slots.specs.Seeking.{Finds, Seeks}

pub one_found : (m : List ℕ) (count : ℕ) (b : List ℕ) (r s : ℕ) → Finds m count b r → Finds m count b s → r ≡ s
one_found m count b r s F G = go (dec_lt r s) (dec_lt s r)
  where
    f : r ≤ count
    f = F.high

    g : s ≤ count
    g = G.high

    go : Dec (r < s) → Dec (s < r) → r ≡ s
    go (yes l) d = absurd (G.none r l (F.is (omega arith)))
    go (no n) (yes l) = absurd (F.none s l (G.is (omega arith)))
    go (no n) (no k) = omega arith

pub one_sought : (m : List ℕ) (off from to key r s : ℕ) → Seeks m off from to key r → Seeks m off from to key s → r ≡ s
one_sought m off from to key r s F G = go (dec_lt to from) (dec_lt r s) (dec_lt s r)
  where
    f : r ≤ to
    f = F.high

    g : s ≤ to
    g = G.high

    go : Dec (to < from) → Dec (r < s) → Dec (s < r) → r ≡ s
    go (yes o) d e = F.over o ∙ sym (G.over o)
    go (no u) (yes l) d = let h : r < to = omega arith in absurd (G.none r (F.low (omega arith)) l (F.inside h) (F.is h))
    go (no u) (no n) (yes l) = let h : s < to = omega arith in absurd (F.none s (G.low (omega arith)) l (G.inside h) (G.is h))
    go (no u) (no n) (no k) = omega arith

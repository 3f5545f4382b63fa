-- What a slot holds, byte by byte, and how a search by four bytes goes with it.
use mathlib.Core.Path.{◌≡◌, refl, ap, ◌∙◌}
use mathlib.Core.List.{List, ◌∷◌}
use Prim.Native.Nat.{ℕ, zero, suc, ◌+◌, ◌-◌, ◌*◌, ◌≤◌, ◌<◌}
use native.Mathlib.Omega.{arith}
use lib.ListN.{length, get_or}
use Rattle.site_slots.specs.Seeking.{slot, quad, four_at, Seeks, Held, Skips}

-- ---- by the last four bytes
-- the length byte and the body
held_at : (m : List ℕ) (i : ℕ) (b : List ℕ) → Held m i b → (at k : ℕ) → at ≡ i * slot + k → k ≤ length b → get_or m at 0 ≡ get_or (length b ∷ b) k 0
held_at m i b h at zero q l = let z : at ≡ i * slot = omega arith in ap (λ j. get_or m j 0) z ∙ h.size
held_at m i b h at (suc k) q l = let z : at ≡ i * slot + 1 + k = omega arith in ap (λ j. get_or m j 0) z ∙ h.each k (omega arith)

pub held_four : (m : List ℕ) (i : ℕ) (b : List ℕ) → Held m i b → (o : ℕ) → o + 3 ≤ length b → four_at m (i * slot + o) ≡ four_at (length b ∷ b) o
unfolding four_at
held_four m i b h o l =
    let a0 = held_at m i b h (i * slot + o) o refl (omega arith) in
    let a1 = held_at m i b h (i * slot + o + 1) (o + 1) (omega arith) (omega arith) in
    let a2 = held_at m i b h (i * slot + o + 2) (o + 2) (omega arith) (omega arith) in
    let a3 = held_at m i b h (i * slot + o + 3) (o + 3) (omega arith) (omega arith) in
    rw (a0, a1, a2, a3)

ending_at : (b : List ℕ) (x k j : ℕ) → k ≡ suc j → get_or b j 0 ≡ get_or (x ∷ b) k 0
ending_at b x k j e = rw e

pub ending_short : (b : List ℕ) (r : ℕ) → length b ≡ 3 → r ≡ quad 3 (get_or b 0 0) (get_or b 1 0) (get_or b 2 0) → r ≡ four_at (length b ∷ b) (length b - 3)
unfolding four_at
ending_short b r e q = rw e q

pub ending_long : (b : List ℕ) (r : ℕ) → 3 < length b → r ≡ quad (get_or b (length b - 4) 0) (get_or b (length b - 3) 0) (get_or b (length b - 2) 0) (get_or b (length b - 1) 0) → r ≡ four_at (length b ∷ b) (length b - 3)
unfolding four_at
ending_long b r h q =
    let a0 = ending_at b (length b) (length b - 3) (length b - 4) (omega arith) in
    let a1 = ending_at b (length b) (length b - 3 + 1) (length b - 3) (omega arith) in
    let a2 = ending_at b (length b) (length b - 3 + 2) (length b - 2) (omega arith) in
    let a3 = ending_at b (length b) (length b - 3 + 3) (length b - 1) (omega arith) in
    q ∙ rw (a0, a1, a2, a3)

-- ---- from one slot to a later one
module _ (m b : List ℕ) (from n : ℕ) (l : from ≤ n) where
  pub skip_to : (o key r : ℕ) → 3 ≤ length b → o ≡ length b - 3 → key ≡ four_at (length b ∷ b) (length b - 3) → Seeks m o from n key r → Skips m from n b r
  skip_to o key r k q e w = record { low = w.low l; high = w.high; none = not_there }
    where
      not_there : (i : ℕ) → from ≤ i → i < r → Held m i b → ⊥
      not_there i x y v =
          let z = held_four m i b v (length b - 3) (omega arith) in
          let a = v.inside in
          let d = v.short in
          w.none i x y (omega arith) (rw (q, e) z)

-- A table of slots of 32 bytes, a length byte and then a body, and the first of them that holds a body, or has four bytes at one place. Definitions only.
use Rattle.std.specs.Prelude.{◌≡◌, Bool, true, false, List, ℕ, ◌+◌, ◌*◌, ◌≤◌, ◌<◌, length, get_or}

abbrev pub slot : ℕ
slot = 32

-- four bytes as one number
unfoldable pub quad : ℕ → ℕ → ℕ → ℕ → ℕ
quad a b c d = a + 256 * b + 65536 * c + 16777216 * d

-- the four that stand at a place
unfoldable pub four_at : List ℕ → ℕ → ℕ
four_at m at = quad (get_or m at 0) (get_or m (at + 1) 0) (get_or m (at + 2) 0) (get_or m (at + 3) 0)

-- r is the first slot, of those from `from` on and below `to`, that has the key at its byte `off`; or it is `to`, and none has. Of a stretch that ends
-- before it begins it is `to`.
pub record Seeks (m : List ℕ) (off from to key r : ℕ) : Type 0 where
  pub low : from ≤ to → from ≤ r
  pub over : to < from → r ≡ to
  pub high : r ≤ to
  pub none : (i : ℕ) → from ≤ i → i < r → i * slot + off + 4 ≤ length m → four_at m (i * slot + off) ≡ key → ⊥
  pub inside : r < to → r * slot + off + 4 ≤ length m
  pub is : r < to → four_at m (r * slot + off) ≡ key

-- slot i is wholly there, and has the length and the bytes of b
pub record Held (m : List ℕ) (i : ℕ) (b : List ℕ) : Type 0 where
  pub inside : i * slot + slot ≤ length m
  pub short : length b < slot
  pub size : get_or m (i * slot) 0 ≡ length b
  pub each : (j : ℕ) → j < length b → get_or m (i * slot + 1 + j) 0 ≡ get_or b j 0

-- r is the first slot, of so many, that holds b; or it is their count, and none does
pub record Finds (m : List ℕ) (count : ℕ) (b : List ℕ) (r : ℕ) : Type 0 where
  pub high : r ≤ count
  pub none : (i : ℕ) → i < r → Held m i b → ⊥
  pub is : r < count → Held m r b

-- ---- on the way

-- of `many` slots whose places begin at `at`, the first r have not the key
pub record Passed (m : List ℕ) (at key many r : ℕ) : Type 0 where
  pub few : r ≤ many
  pub none : (j : ℕ) → j < r → four_at m (at + j * slot) ≡ key → ⊥

-- the first r slots, of `to`, have their place inside the bytes, and no others
pub record Reach (m : List ℕ) (off to r : ℕ) : Type 0 where
  pub few : r ≤ to
  pub inside : (i : ℕ) → i < r → i * slot + off + 4 ≤ length m
  pub outside : (i : ℕ) → r ≤ i → i < to → length m < i * slot + off + 4

-- those from `from` on and below r have not the key
pub record Onward (m : List ℕ) (off from to key r : ℕ) : Type 0 where
  pub low : from ≤ r
  pub high : from ≤ to → r ≤ to
  pub none : (i : ℕ) → from ≤ i → i < r → four_at m (i * slot + off) ≡ key → ⊥

-- whether the bytes of b stand at `at`
pub record Same (m : List ℕ) (at : ℕ) (b : List ℕ) (r : Bool) : Type 0 where
  pub yes : r ≡ true → (j : ℕ) → j < length b → get_or m (at + j) 0 ≡ get_or b j 0
  pub no : r ≡ false → ((j : ℕ) → j < length b → get_or m (at + j) 0 ≡ get_or b j 0) → ⊥

-- whether slot i holds b
pub record Tells (m : List ℕ) (i : ℕ) (b : List ℕ) (r : Bool) : Type 0 where
  pub yes : r ≡ true → Held m i b
  pub no : r ≡ false → Held m i b → ⊥

-- no slot from `from` on and below r, of those below `to`, holds b
pub record Skips (m : List ℕ) (from to : ℕ) (b : List ℕ) (r : ℕ) : Type 0 where
  pub low : from ≤ r
  pub high : r ≤ to
  pub none : (i : ℕ) → from ≤ i → i < r → Held m i b → ⊥

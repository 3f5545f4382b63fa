-- A parameter `[[u64; 4]; 256]` by value is stored: from what a function is told of it on entry, `c.good`.
use mathlib.Core.Path.{◌≡◌}
use mathlib.Core.List.{List, [], ◌∷◌}
use Prim.Native.Nat.{ℕ, zero, suc, ◌^◌, ◌<◌}
use native.Mathlib.Omega.{arith}
use lib.ListN.{length, get_or}
use mir.Syntax.{w64}
use mir.Val.{Val}
use denote.Plain.{UInt}
use denote.Array.{Array, each}
use denote.Laws.{Is}
use denote.Shadow.{shadow}
use Rattle.term_table.specs.Table.{terms, words, Square, row}
use Rattle.term_table.proofs.Marks.{Stored}

each_words : (xs : Square) (us : List Val) → shadow (each (List ℕ) (Array (UInt w64) words).own_val xs us) → (i : ℕ) → i < length xs → length (row xs i) ≡ words
each_words [] us s i h = absurd (omega arith)
each_words (x ∷ xs) [] s i h = absurd s
each_words (x ∷ xs) (u ∷ us) s zero h = s.0.1.0.1
each_words (x ∷ xs) (u ∷ us) s (suc i) h = each_words xs us s.1 i (omega arith)

word_fits : (xs : List ℕ) (us : List Val) → shadow (each ℕ (UInt w64).own_val xs us) → (q : ℕ) → q < length xs → get_or xs q 0 < 2 ^ 64
word_fits [] us s q h = absurd (omega arith)
word_fits (x ∷ xs) [] s q h = absurd s
word_fits (x ∷ xs) (u ∷ us) s zero h = s.0.1
word_fits (x ∷ xs) (u ∷ us) s (suc q) h = word_fits xs us s.1 q (omega arith)

each_fits : (xs : Square) (us : List Val) → shadow (each (List ℕ) (Array (UInt w64) words).own_val xs us) → (i q : ℕ) → i < length xs → q < words → get_or (row xs i) q 0 < 2 ^ 64
each_fits [] us s i q h k = absurd (omega arith)
each_fits (x ∷ xs) [] s i q h k = absurd s
each_fits (x ∷ xs) (u ∷ us) s zero q h k = let l : length x ≡ words = s.0.1.0.1 in word_fits x s.0.0 s.0.1.1 q (omega arith)
each_fits (x ∷ xs) (u ∷ us) s (suc i) q h k = each_fits xs us s.1 i q (omega arith) k

pub stored_of : (t : Square) (vs : List Val) → Is (Array (Array (UInt w64) words) terms) t vs → Stored t
stored_of t vs p =
    let l : length t ≡ terms = p.1.0.1 in
    record {
      whole = record { rows = l; words = λ i h. each_words t p.0 p.1.1 i (omega arith) };
      fits = λ i q h k. each_fits t p.0 p.1.1 i q (omega arith) k;
    }

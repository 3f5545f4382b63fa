-- Lines in lent memory.
use Rattle.std.specs.declared.option.Option.TheVariants.{None, Some}
use Rattle.std.specs.Prelude.{◌≡◌, refl, List, [], ◌∷◌, ◌++◌, ℕ, ◌+◌, length, take, drop, leb}
use Rattle.std.specs.Prelude.{if◌then◌else◌}
use Rattle.paper.specs.Words.{two, four}
use Rattle.paper.specs.Sheets.{Ended, end_found}
-- a line without its LF
unfoldable pub use Rattle.sheet_digits.specs.Digits.{digits_of}
use Rattle.paper.specs.Answered.{Maybe}

-- memory with s from `at` on
unfoldable pub written_at : List ℕ → ℕ → List ℕ → List ℕ
written_at m at s = take at m ++ s ++ drop (at + length s) m

-- the answer, and the memory: a room that is too short is left as it was
unfoldable pub room_said : List ℕ → ℕ → List ℕ → Maybe ℕ
room_said m at s = if leb (at + length s) (length m) then Some (at + length s) else None

unfoldable pub room_after : List ℕ → ℕ → List ℕ → List ℕ
room_after m at s = if leb (at + length s) (length m) then written_at m at s else m

-- 11 and 1F alike: the kind, four bytes, a number
unfoldable pub five_found : ℕ → ℕ → ℕ → List ℕ
five_found kind n number = kind ∷ (four n ++ (number ∷ []))

-- "15 sets (2), kept rules (2)"
unfoldable pub ended_found : ℕ → ℕ → List ℕ
ended_found sets kept = 21 ∷ (two sets ++ two kept)

-- the paper's, of what it holds of the sets that were ended
pub end_found_is : (e : Ended) → end_found e ≡ ended_found (length e.heads) e.kept
unfolding end_found ended_found
end_found_is e = refl

-- What the code says of a line: the paper's bytes and the paper's frame.
use Rattle.std.specs.declared.option.Option.TheVariants.{None, Some}
use Rattle.std.specs.Prelude.{◌≡◌, true, false, ◌&&◌, List, [], ◌∷◌, ◌++◌, ℕ, zero, suc, ◌+◌, ◌-◌, ◌*◌, ◌/◌, ◌≤◌, length, get_or, replicate, ltb}
use Rattle.std.proofs.Math.Option.{Option, none, some}
use Rattle.paper.specs.declared.Constraint.{Constraint}
use Rattle.std.specs.Prelude.{if◌then◌else◌}
use Rattle.paper.specs.Words.{or_else}
use Rattle.paper.specs.Numbers.{max_digits}
use Rattle.paper.specs.Layout as paper
use Rattle.paper.specs.Layout.{digit, line_bytes, whole, constraint_read, frame_read, frame_of, begin_set, a_site, a_rule, an_item, end_set}
use Rattle.sheet_frames.specs.declared.Bytes.{Bytes}
use Rattle.sheet_frames.specs.declared.Read.{Read}
use Rattle.sheet_frames.specs.declared.Frame.{Frame}
use Rattle.sheet_frames.specs.declared.Frame.TheVariants as said
use Rattle.paper.specs.Answered.{Maybe}

-- the values of the bytes from 48 to 70 as digits
abbrev pub values_said : List ℕ
values_said = 0 ∷ 1 ∷ 2 ∷ 3 ∷ 4 ∷ 5 ∷ 6 ∷ 7 ∷ 8 ∷ 9 ∷ 16 ∷ 16 ∷ 16 ∷ 16 ∷ 16 ∷ 16 ∷ 16 ∷ 10 ∷ 11 ∷ 12 ∷ 13 ∷ 14 ∷ 15 ∷ []

-- what two digits write; 256 where one is none
unfoldable pub pair_value : ℕ → ℕ → ℕ
pair_value h l = if ltb (digit h) 16 && ltb (digit l) 16 then digit h * 16 + digit l else 256

-- "at most 64 digits": so many bytes
abbrev pub max_bytes : ℕ
max_bytes = max_digits / 2

-- bytes, and 0 from there on
unfoldable pub padded : List ℕ → List ℕ
padded s = s ++ replicate (max_bytes - length s) 0

unfoldable pub bytes_said : Option (List ℕ) → Bytes
bytes_said none = record { right = false; length = 0; bytes = padded [] }
bytes_said (some s) = record { right = true; length = length s; bytes = padded s }

-- the bytes of the line l were taken into `out`; or it writes none
pub record Takes (l out : List ℕ) (t : Maybe ℕ) : Type 0 where
  pub wrong : t ≡ None → line_bytes l ≡ none
  pub right : (n : ℕ) → t ≡ Some n → (record { right = true; length = n; bytes = out } ≡ bytes_said (line_bytes l)) × (n ≤ max_bytes)

-- a frame: of a site only that it is one
unfoldable pub code : Option paper.Frame → Frame
code none = said.Wrong
code (some (begin_set t f)) = said.Begin t f
code (some (a_site s)) = said.Site
code (some (a_rule p q n)) = said.Rule p q n
code (some (an_item i)) = said.Item i
code (some end_set) = said.End

-- a line
unfoldable pub reading_of : List ℕ → Read
reading_of l =
    let b = or_else (line_bytes l) [] in
    record { frame = code (frame_of l); length = length b; bytes = padded b }

-- ---- bytes: a constraint, a frame

unfoldable pub shape_code : Option Constraint → Maybe Constraint
shape_code none = None
shape_code (some c) = Some c

unfoldable pub shape_in : List ℕ → Maybe Constraint
shape_in s = shape_code (whole (constraint_read s))

unfoldable pub frame_in : List ℕ → Frame
frame_in s = code (whole (frame_read s))

-- "high byte first": the number of k bytes at i, behind n
unfoldable pub number_at : List ℕ → ℕ → ℕ → ℕ → ℕ
number_at s n zero i = n
number_at s n (suc k) i = number_at s (n * 256 + get_or s i 0) k (suc i)

-- What the loops make, by count. The private functions' contracts cite these; the public ones say what they mean.
use Rattle.std.specs.Prelude.{◌≡◌, Bool, false, ◌&&◌, not, List, [], ◌∷◌, ℕ, zero, suc, ◌+◌, ◌*◌, ◌<◌, get_or, set, eqb}
use Rattle.std.specs.Int.Bits.{bit_or}
use Rattle.std.specs.Prelude.{if◌then◌else◌}
use Rattle.paper.specs.Words.{keep, below}
use Rattle.term_table.specs.Table.{terms, Square, row, in_row, marked}

-- two rows together, word by word
unfoldable pub both_of : List ℕ → List ℕ → List ℕ
both_of a b =
    bit_or (get_or a 0 0) (get_or b 0 0) ∷ bit_or (get_or a 1 0) (get_or b 1 0) ∷ bit_or (get_or a 2 0) (get_or b 2 0) ∷ bit_or (get_or a 3 0) (get_or b 3 0) ∷ []

unfoldable pub has_some : List ℕ → Bool
has_some r = not (eqb (bit_or (bit_or (bit_or (get_or r 0 0) (get_or r 1 0)) (get_or r 2 0)) (get_or r 3 0)) 0)

-- no row has a mark; of the first n rows
unfoldable pub UnmarkedTo : ℕ → Square → Type 0
UnmarkedTo n t = (a : ℕ) → a < n → has_some (row t a) ≡ false

abbrev pub Unmarked : Square → Type 0
Unmarked t = UnmarkedTo terms t

-- r joins row i
unfoldable pub join_at : Square → ℕ → List ℕ → Square
join_at t i r = set t i (both_of (row t i) r)

-- by the marks k and k + 1 of row i
unfoldable pub join_by : Square → ℕ → ℕ → List ℕ → List ℕ → List ℕ → Square
join_by t i k one other two =
    if marked t i k then (if marked t i (k + 1) then join_at t i two else join_at t i one) else (if marked t i (k + 1) then join_at t i other else t)

-- the same of the first n rows
unfoldable pub join_to : ℕ → Square → ℕ → List ℕ → List ℕ → List ℕ → Square
join_to zero t k one other two = t
join_to (suc n) t k one other two = join_by (join_to n t k one other two) n k one other two

unfoldable pub widen : List ℕ → ℕ → List ℕ → List ℕ
widen a j two = if in_row a j then two else a

-- rows k and k + 1 join each row that has their marks; two rows without marks are passed over
unfoldable pub pass : Square → ℕ → Square
pass t k =
    if has_some (both_of (row t k) (row t (k + 1)))
    then
    join_to terms t k
    (widen (row t k) (k + 1) (both_of (row t k) (row t (k + 1))))
    (widen (row t (k + 1)) k (both_of (row t k) (row t (k + 1))))
    (both_of (row t k) (row t (k + 1)))
    else t

unfoldable pub reach_to : ℕ → Square → Square
reach_to zero t = t
reach_to (suc n) t = pass (reach_to n t) (n * 2)

-- the terms below n on the diagonal that are not among the others
unfoldable pub on_diagonal : Square → List ℕ → ℕ → Bool
on_diagonal t but a = marked t a a && not (in_row but a)

unfoldable pub list_to : ℕ → Square → List ℕ → List ℕ
list_to n t but = keep (on_diagonal t but) (below n (λ a. a))

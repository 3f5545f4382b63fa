-- 01, "Terms": "the term table is a square of 256 rows by 256 marks", 64 marks to a word, and what is asked of it.
use Rattle.std.specs.declared.result.Result.TheVariants.{Err, Ok}
use Rattle.std.specs.Prelude.{◌≡◌, Bool, true, ◌&&◌, not, ◌↔◌, List, [], ◌∷◌, ◌++◌, map, ℕ, ◌+◌, ◌-◌, ◌/◌, ◌%◌, ◌^◌, ◌<◌, length, get_or, set, replicate, eqb, ltb, leb}
use Rattle.std.specs.Int.Bits.{bit_or}
use Rattle.paper.specs.Words.{keep, below, joined, Edges, Walk, returns}
use Rattle.paper.specs.Numbers.{max_term, Outcome, done, refused, ◌>>=◌, demand}
use Rattle.paper.specs.declared.Refusal.TheVariants.{TermTooHigh}
use Rattle.paper.specs.Answered.{Verdict}
use Rattle.paper.specs.Answered.{Answer}
use Rattle.term_table.specs.declared.Listed.{Listed}

-- "term numbers to 255"
abbrev pub terms : ℕ
terms = max_term + 1

abbrev pub words : ℕ
words = terms / 64

abbrev pub Square : Type 0
Square = List (List ℕ)

abbrev pub row : Square → ℕ → List ℕ
row t a = get_or t a []

-- mark b of a row is bit b % 64 of its word b / 64
unfoldable pub in_row : List ℕ → ℕ → Bool
in_row r b = eqb (get_or r (b / 64) 0 / 2 ^ (b % 64) % 2) 1

-- the same of any number: a term that is too high has no mark
unfoldable pub has_term : List ℕ → ℕ → Bool
has_term r t = ltb t terms && in_row r t

unfoldable pub marked : Square → ℕ → ℕ → Bool
marked t a b = in_row (row t a) b

unfoldable pub row_with : List ℕ → ℕ → List ℕ
row_with r b = set r (b / 64) (bit_or (get_or r (b / 64) 0) (2 ^ (b % 64)))

unfoldable pub with_mark : Square → ℕ → ℕ → Square
with_mark t a b = set t a (row_with (row t a) b)

unfoldable pub no_marks : List ℕ
no_marks = replicate words 0

unfoldable pub no_edges : Square
no_edges = replicate terms no_marks

-- the edges that a table holds, as a list
unfoldable pub numbers : List ℕ
numbers = below terms (λ a. a)

unfoldable pub edges_in : Square → Edges
edges_in t = joined (below terms (λ a. map (λ b. (a, b)) (keep (marked t a) numbers)))

-- "term numbers to 255", else 28
unfoldable pub if_term : {A : Type 0} → ℕ → Outcome A → Outcome A
if_term a o = demand (leb a max_term) (TermTooHigh a) >>= (λ _. o)

-- an edge added; asked for; whether a term is cyclic
unfoldable pub with_edge : Square → ℕ → ℕ → Outcome Square
with_edge t a b = if_term a (if_term b (done (with_mark t a b)))

unfoldable pub with_term : List ℕ → ℕ → Outcome (List ℕ)
with_term r a = if_term a (done (row_with r a))

unfoldable pub has_edge : Square → ℕ → ℕ → Outcome Bool
has_edge t a b = if_term a (if_term b (done (marked t a b)))

unfoldable pub is_cyclic : Square → ℕ → Outcome Bool
is_cyclic t a = if_term a (done (returns (edges_in t) a))

-- what is left in memory: "Every refusal leaves .. all lent memory unchanged"
abbrev pub left : {A : Type 0} → A → Outcome A → A
left old (done new) = new
left old (refused r) = old

-- what is left after one call for each edge; for each term
unfoldable pub with_edges : Square → Edges → Square
with_edges t [] = t
with_edges t (e ∷ es) = with_edges (left t (with_edge t e.0 e.1)) es

unfoldable pub with_terms : List ℕ → List ℕ → List ℕ
with_terms r [] = r
with_terms r (a ∷ ts) = with_terms (left r (with_term r a)) ts

-- an outcome without what it holds
abbrev pub bare : {A : Type 0} → Outcome A → Outcome (Unit {0})
bare (done a) = done tt
bare (refused r) = refused r

-- who reaches whom: a mark for each walk of one or more edges
unfoldable pub Closure : Square → Square → Type 0
Closure t u = (a b : ℕ) → a < terms → b < terms → (marked u a b ≡ true) ↔ Walk (edges_in t) a b

-- the cyclic terms ascending; "Cyclic terms without rec are findings"
unfoldable pub cyclic_terms : Square → List ℕ
cyclic_terms t = keep (returns (edges_in t)) numbers

unfoldable pub unflagged : Square → List ℕ → List ℕ
unflagged t recs = keep (λ a. returns (edges_in t) a && not (in_row recs a)) numbers

-- ---- what the answers mean, in paper's words (its `number` and `told` give 01's)
unfoldable pub added : Verdict → Outcome (Unit {0})
added (Ok _) = done tt
added (Err r) = refused r

unfoldable pub asked : Answer Bool → Outcome Bool
asked (Ok b) = done b
asked (Err r) = refused r

unfoldable pub listed : List ℕ → Listed
listed xs = record { count = length xs; terms = xs ++ replicate (terms - length xs) 0 }

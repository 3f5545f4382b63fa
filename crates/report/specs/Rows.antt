-- Words of bits, a bit a rule; and the taking of places over them.
use Rattle.std.specs.Prelude.{Bool, true, false, ◌&&◌, List, ℕ, zero, suc, ◌+◌, ◌-◌, ◌/◌, ◌%◌, ◌^◌, get_or, set, replicate, eqb, ltb, leb}
use Rattle.std.specs.Int.Bits.{bit_and}
use Rattle.std.specs.Int.Count.{ones}
use Rattle.paper.specs.Numbers.{max_rules}
use Rattle.std.specs.Prelude.{if◌then◌else◌}
use Rattle.paper.specs.Rules.{edge}
use Rattle.rule_words.specs.Stored.{base, place_at, kept_in}

-- the word whose bit j is there where f j, of the first n
unfoldable pub bits : (ℕ → Bool) → ℕ → ℕ
bits f zero = 0
bits f (suc j) = bits f j + (if f j then 2 ^ j else 0)

unfoldable pub bit_at : ℕ → ℕ → Bool
bit_at w j = ltb j 64 && eqb (w / 2 ^ j % 2) 1

-- f 0 .. f (n - 1) in an array of max-rules, zeros after
unfoldable pub filled : (ℕ → ℕ) → ℕ → List ℕ
filled f zero = replicate max_rules 0
filled f (suc k) = set (filled f k) k (f k)

-- the same of any numbers or words, with what stands after
unfoldable pub filled_with : {A : Type 0} → A → (ℕ → A) → ℕ → List A
filled_with z f zero = replicate max_rules z
filled_with z f (suc k) = set (filled_with z f k) k (f k)

unfoldable pub place_in : List ℕ → ℕ → ℕ
place_in ws i = place_at ws (base i)

-- the place of rule q of the order os
unfoldable pub named : List ℕ → List ℕ → ℕ → ℕ
named ws os q = place_in ws (get_or os q 0)

-- whether rule p of the order has an edge with rule q, which stands before it; and the word of these
unfoldable pub earlier : List ℕ → List ℕ → ℕ → ℕ → Bool
earlier ws os p q = edge (kept_in ws (get_or os q 0)) (kept_in ws (get_or os p 0))

unfoldable pub lower_word : List ℕ → List ℕ → ℕ → ℕ
lower_word ws os p = bits (earlier ws os p) p

-- the edge of p and q, by the word of the later one
unfoldable pub either : List ℕ → ℕ → ℕ → Bool
either low p q = if ltb q p then bit_at (get_or low p 0) q else (if ltb p q then bit_at (get_or low q 0) p else false)

unfoldable pub row_word : List ℕ → ℕ → ℕ → ℕ
row_word low n p = bits (either low p) n

unfoldable pub degree_of : List ℕ → ℕ → ℕ → ℕ
degree_of rows left p = ones (bit_and (get_or rows p 0) left)

unfoldable pub better_of : List ℕ → ℕ → ℕ → ℕ → ℕ
better_of rows left a b = if leb (degree_of rows left a) (degree_of rows left b) then b else a

unfoldable pub busiest_of : List ℕ → ℕ → ℕ → ℕ
busiest_of rows left zero = 0
busiest_of rows left (suc k) = better_of rows left (busiest_of rows left k) k

-- a word without bit b
unfoldable pub cleared : ℕ → ℕ → ℕ
cleared w b = if bit_at w b then w - 2 ^ b else w

-- what is taken in k turns: at the number of each rule taken the word of its remaining neighbours
unfoldable pub take_from : ℕ → ℕ → List ℕ → ℕ → List ℕ → List ℕ
take_from zero n rows left taken = taken
take_from (suc k) n rows left taken =
    let b = busiest_of rows left n in
    let near = bit_and (get_or rows b 0) left in
    elim (eqb near 0) [ true ↦ taken | false ↦ take_from k n (set rows b 0) (cleared left b) (set taken b near) ]

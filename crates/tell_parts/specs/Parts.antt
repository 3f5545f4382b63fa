-- Words with parts of a frame put in, numbers in decimal. In the words stand for a part of the frame:
--     # the number of four bytes after the kind: a place, or a line
--     % the first place of a list of overlaps      * the places from byte 7 on, with commas and `and`
--     @ the number of two bytes after the kind     $ the number of two bytes after that
--     { an s, but where @ is 1                     } an s, but where $ is 1
--     ^ the number of a refusal                    ~ the first byte
--     & the number that was asked for              ! the item or the line that asked: four bytes each, behind those of a refusal
use Rattle.std.specs.Prelude.{List, [], ◌∷◌, ◌++◌, ℕ, zero, suc, ◌+◌, ◌-◌, ◌*◌, ◌/◌, length, get_or, eqb}
use Rattle.std.specs.Prelude.{if◌then◌else◌}
use Rattle.paper.specs.Text.{unended}
use Rattle.tell_text.specs.Decimal.{decimal}

-- numbers of a frame, high byte first
unfoldable pub two_at : List ℕ → ℕ → ℕ
two_at f i = get_or f i 0 * 256 + get_or f (i + 1) 0

unfoldable pub four_at : List ℕ → ℕ → ℕ
four_at f i = two_at f i * 65536 + two_at f (i + 2)

-- a list of places: "30, 10 and 20"
unfoldable pub separator : ℕ → List ℕ
separator zero = unended " and "
separator (suc left) = unended ", "

unfoldable pub rest : List ℕ → ℕ → ℕ → List ℕ
rest f i zero = []
rest f i (suc left) = (separator left ++ decimal (four_at f i)) ++ rest f (i + 4) left

unfoldable pub places : List ℕ → List ℕ
places f = decimal (four_at f 7) ++ rest f 11 ((length f - 11) / 4)

unfoldable pub plural : ℕ → List ℕ
plural n = if eqb n 1 then [] else unended "s"

-- what a byte of the words stands for: # % * @ $ { } ^ ~ & !
unfoldable pub part : List ℕ → ℕ → List ℕ
part f b =
    if eqb b 35 then decimal (four_at f 1) else
    (if eqb b 37 then decimal (four_at f 3) else
    (if eqb b 42 then places f else
    (if eqb b 64 then decimal (two_at f 1) else
    (if eqb b 36 then decimal (two_at f 3) else
    (if eqb b 123 then plural (two_at f 1) else
    (if eqb b 125 then plural (two_at f 3) else
    (if eqb b 94 then decimal (get_or f 5 0) else
    (if eqb b 126 then decimal (get_or f 0 0) else
    (if eqb b 38 then decimal (four_at f 6) else
    (if eqb b 33 then decimal (four_at f 10) else b ∷ []))))))))))

unfoldable pub filled : List ℕ → List ℕ → List ℕ
filled f [] = []
filled f (b ∷ words) = part f b ++ filled f words

-- What a frame of findings is, by its kind and its length (01, "Sheets").
use Rattle.std.specs.Prelude.{Bool, true, false, List, ℕ, ◌+◌, ◌*◌, length, get_or, eqb, ltb}
use Rattle.std.specs.Prelude.{if◌then◌else◌}
use Rattle.tell_english.specs.declared.Shape.{Shape}
use Rattle.tell_english.specs.declared.Shape.TheVariants.{Refused, OverlapTwo, OverlapMore, MaskOne, MaskMore, Term, End, Stop, Empty, Unknown, Limit, StopLimit}
use Rattle.tell_parts.specs.Parts.{two_at}

abbrev pub when : Bool → Shape → Shape
when true s = s
when false s = Unknown

-- n bytes of a refusal: the frame's six, or with the number that was asked for and who asked behind them, four bytes each
unfoldable pub refusal : ℕ → Shape → Shape → Shape
refusal n plain limit = if eqb n 14 then limit else when (eqb n 6) plain

-- n bytes, of which `head` stand before the list: with `few` places, or with more
unfoldable pub listed : ℕ → ℕ → ℕ → ℕ → Shape → Shape → Shape
listed n head count few one more = if eqb n (head + 4 * count) then (if eqb count few then one else when (ltb few count) more) else Unknown

-- "11 place, number (1); 12 count (2), places; 13 mask, count (2), places; 14 term; 15 sets (2), kept rules (2)"; "1F line (4, from 1), number". An
-- overlap has two places or more, a mask one masked place or more.
unfoldable pub shape_of : List ℕ → Shape
shape_of f =
    if eqb (length f) 0 then Empty else
    (if eqb (get_or f 0 0) 17 then refusal (length f) Refused Limit else
    (if eqb (get_or f 0 0) 18 then listed (length f) 3 (two_at f 1) 2 OverlapTwo OverlapMore else
    (if eqb (get_or f 0 0) 19 then listed (length f) 7 (two_at f 5) 1 MaskOne MaskMore else
    (if eqb (get_or f 0 0) 20 then when (eqb (length f) 3) Term else
    (if eqb (get_or f 0 0) 21 then when (eqb (length f) 5) End else
    when (eqb (get_or f 0 0) 31) (refusal (length f) Stop StopLimit))))))

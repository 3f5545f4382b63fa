-- A finding in English.
use Rattle.std.specs.declared.option.Option.TheVariants.{None, Some}
use Rattle.std.specs.Prelude.{Bool, true, false, List, [], ◌∷◌, ◌++◌, ℕ, ◌+◌, length, get_or, eqb, ltb}
use Rattle.std.specs.Prelude.{if◌then◌else◌}
use Rattle.tell_text.specs.Written.{Room, with_byte}
use Rattle.paper.specs.Answered.{Maybe}
use Rattle.tell_english.specs.declared.Shape.{Shape}
use Rattle.tell_english.specs.declared.Shape.TheVariants.{Refused, OverlapTwo, OverlapMore, MaskOne, MaskMore, Term, End, Stop, Empty, Unknown, Limit, StopLimit}
use Rattle.tell_parts.specs.Parts.{filled}
use Rattle.tell_english.specs.Shapes.{shape_of}
use Rattle.tell_english.specs.Words.{unknown_site, unreachable, hanging_site, self_containing, place_used, other_refusal, overlap_two, overlap_more, mask_one, mask_more, calls_itself, read_to_end, clean_sheet, bad_line, source_unknown, repeated, other_stop, not_known, empty_line, too_many_sites, too_many_fields, too_many_rules, too_many_items, too_many_constrained, too_many_equal, full_set, too_many_sources, too_many_sets, term_too_high}

-- a refused rule, by its number: 01 refuses a rule with 2, 4, 5, 6 or 8, or with a limit
unfoldable pub refused_words : ℕ → List ℕ
refused_words n =
    if eqb n 2 then unknown_site else
    (if eqb n 4 then unreachable else
    (if eqb n 5 then hanging_site else
    (if eqb n 6 then self_containing else
    (if eqb n 8 then place_used else other_refusal))))

-- a sheet that stops: 1, 2 or 9, or a limit
unfoldable pub stopped_words : ℕ → List ℕ
stopped_words n =
    if eqb n 1 then bad_line else
    (if eqb n 2 then source_unknown else
    (if eqb n 9 then repeated else other_stop))

-- a limit that a rule passes, by its number
unfoldable pub limit_words : ℕ → List ℕ
limit_words n =
    if eqb n 20 then too_many_sites else
    (if eqb n 22 then too_many_fields else
    (if eqb n 23 then too_many_rules else
    (if eqb n 24 then too_many_items else
    (if eqb n 25 then too_many_constrained else
    (if eqb n 26 then too_many_equal else other_refusal)))))

-- a limit that a line passes, so that the sheet stops
unfoldable pub stop_limit_words : ℕ → List ℕ
stop_limit_words n =
    if eqb n 20 then full_set else
    (if eqb n 21 then too_many_sources else
    (if eqb n 27 then too_many_sets else
    (if eqb n 28 then term_too_high else other_stop)))

abbrev pub ended_words : Bool → List ℕ
ended_words true = clean_sheet
ended_words false = read_to_end

abbrev pub words_for : Bool → List ℕ → Shape → List ℕ
words_for clean f Refused = refused_words (get_or f 5 0)
words_for clean f OverlapTwo = overlap_two
words_for clean f OverlapMore = overlap_more
words_for clean f MaskOne = mask_one
words_for clean f MaskMore = mask_more
words_for clean f Term = calls_itself
words_for clean f End = ended_words clean
words_for clean f Stop = stopped_words (get_or f 5 0)
words_for clean f Empty = empty_line
words_for clean f Unknown = not_known
words_for clean f Limit = limit_words (get_or f 5 0)
words_for clean f StopLimit = stop_limit_words (get_or f 5 0)

-- the sentences for a frame, where it is known or not that nothing was found before it
unfoldable pub explained : Bool → List ℕ → List ℕ
explained clean f = filled f (words_for clean f (shape_of f))

-- as a line
unfoldable pub said : Bool → List ℕ → List ℕ
said clean f = explained clean f ++ (10 ∷ [])

-- LF at the end of what was written, and whether there was room for it
unfoldable pub line_end : Room → Maybe ℕ
line_end p = if ltb p.1 (length p.0) then Some (p.1 + 1) else None

unfoldable pub line_room : Room → List ℕ
line_room p = (with_byte p 10).0

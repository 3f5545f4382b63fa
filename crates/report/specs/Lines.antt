-- The report as lines, piece by piece as they are written; and the report itself.
use Rattle.std.specs.declared.result.Result.TheVariants.{Err, Ok}
use Rattle.std.specs.Prelude.{◌≡◌, Bool, List, [], ◌∷◌, ◌++◌, map, ℕ, zero, suc, ◌+◌, ◌*◌, length, get_or, drop, eqb, ltb}
use Rattle.std.proofs.lemmas.List.Edits.{sets}
use Rattle.std.specs.Int.Count.{ones}
use Rattle.std.specs.Prelude.{if◌then◌else◌}
use Rattle.paper.specs.Words.{two, four, joined}
use Rattle.paper.specs.Numbers.{max_rules}
use Rattle.paper.specs.Layout.{hex}
use Rattle.paper.specs.Sheets.{listed_found}
use Rattle.paper.specs.Rules.{masks, report_for}
use Rattle.rule_words.specs.Stored.{kept_in, kept_first}
use Rattle.sheet_digits.specs.Digits.{digits_of}
use Rattle.report.specs.Reported.{Reported}
use Rattle.report.specs.declared.Unreported.TheVariants.{TooManyRules, NoRoom}
use Rattle.report.specs.Rows.{bits, bit_at}

-- from `at` up to `end` the text was written into the room
pub record Wrote (old new : List ℕ) (at end : ℕ) (text : List ℕ) : Type 0 where
  pub ends : end ≡ at + length text
  pub into : new ≡ sets old at text

-- the place k where its bit of w is there; and the first n
unfoldable pub place_text : List ℕ → ℕ → ℕ → List ℕ
place_text ps w k = if bit_at w k then digits_of (four (get_or ps k 0)) else []

unfoldable pub places_text : List ℕ → ℕ → ℕ → List ℕ
places_text ps w zero = []
places_text ps w (suc k) = places_text ps w k ++ place_text ps w k

-- the end of a frame of places, and of its line
unfoldable pub rest_text : List ℕ → ℕ → ℕ → List ℕ
rest_text ps w n = places_text ps w n ++ (10 ∷ [])

unfoldable pub overlap_text : List ℕ → ℕ → ℕ → ℕ → List ℕ
overlap_text ps p w n =
    if eqb w 0 then [] else digits_of (18 ∷ []) ++ (digits_of (two (ones w + 1)) ++ (digits_of (four (get_or ps p 0)) ++ rest_text ps w n))

unfoldable pub mask_text : List ℕ → ℕ → ℕ → ℕ → List ℕ
mask_text ps p w n = if eqb w 0 then [] else digits_of (19 ∷ []) ++ (digits_of (four p) ++ (digits_of (two (ones w)) ++ rest_text ps w n))

unfoldable pub masks_in : List ℕ → ℕ → ℕ → Bool
masks_in ws i j = masks (kept_in ws i) (kept_in ws j)

-- the lines that begin with rule p of the order, and with the first k
unfoldable pub rule_text : List ℕ → List ℕ → List ℕ → List ℕ → List ℕ → ℕ → ℕ → List ℕ
rule_text ws all os ps ts n p = overlap_text ps p (get_or ts p 0) n ++ mask_text all (get_or ps p 0) (bits (masks_in ws (get_or os p 0)) n) n

unfoldable pub lists_text : List ℕ → List ℕ → List ℕ → List ℕ → List ℕ → ℕ → ℕ → List ℕ
lists_text ws all os ps ts n zero = []
lists_text ws all os ps ts n (suc k) = lists_text ws all os ps ts n k ++ rule_text ws all os ps ts n k

-- ---- the report of the first n rules in the words, as the lines of its findings
unfoldable pub report_text : List ℕ → ℕ → ℕ → List ℕ
report_text ws n flags = joined (map (λ l. hex (listed_found l)) (report_for flags (kept_first ws n)))

-- room that is enough for any line: the kind, a count, a place and the LF, and eight digits for each rule; and for any report, since a rule
-- begins at most two (proofs/ReportLaws.antt, `room_enough`)
abbrev pub line_room : ℕ
line_room = 15 + 8 * max_rules

abbrev pub report_room : ℕ
report_room = 2 * max_rules * line_room

unfoldable pub reported : List ℕ → ℕ → ℕ → List ℕ → Reported
reported ws n flags room =
    if ltb max_rules n then (Err (TooManyRules n)) else (if ltb (length room) report_room then (Err NoRoom) else Ok (length (report_text ws n flags)))

unfoldable pub room_after : List ℕ → ℕ → ℕ → List ℕ → List ℕ
room_after ws n flags room =
    if ltb max_rules n then room
    else (if ltb (length room) report_room then room else report_text ws n flags ++ drop (length (report_text ws n flags)) room)

-- 01's number of each answer, and what is told with it; room that is too short is none of 01's numbers, but "lent too little"
abbrev pub lent_too_little : ℕ
lent_too_little = 255

abbrev pub number_of : Reported → ℕ
number_of (Ok count) = 0
number_of (Err (TooManyRules n)) = 23
number_of (Err NoRoom) = lent_too_little

abbrev pub told_with : Reported → List ℕ
told_with (Ok count) = count ∷ []
told_with (Err (TooManyRules n)) = n ∷ []
told_with (Err NoRoom) = []

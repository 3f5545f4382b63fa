-- What comes out for some findings, computed.
use Rattle.std.specs.Prelude.{◌≡◌, refl, true, false, [], ◌∷◌, ◌++◌}
use Rattle.paper.specs.Text.{text}
use Rattle.tell_text.specs.Decimal.{decimal, digits}
use Rattle.tell_parts.specs.Parts.{two_at, four_at, separator, rest, places, plural, part, filled}
use Rattle.tell_english.specs.Shapes.{refusal, listed, shape_of}
use Rattle.tell_english.specs.Words.{pieces, unknown_site, unreachable, hanging_site, self_containing, place_used, other_refusal, overlap_two, overlap_more, mask_one, mask_more, calls_itself, read_to_end, clean_sheet, bad_line, source_unknown, repeated, other_stop, not_known, empty_line, too_many_sites, too_many_fields, too_many_rules, too_many_items, too_many_constrained, too_many_equal, full_set, too_many_sources, too_many_sets, term_too_high}
use Rattle.tell_english.specs.Said.{refused_words, stopped_words, limit_words, stop_limit_words, explained, said}

unfoldable all_said : Unit {0}
unfolding decimal digits two_at four_at separator rest places plural part filled listed shape_of refused_words stopped_words explained said unknown_site unreachable hanging_site self_containing place_used other_refusal overlap_two overlap_more mask_one mask_more calls_itself read_to_end clean_sheet bad_line source_unknown repeated other_stop not_known empty_line refusal limit_words stop_limit_words too_many_sites too_many_fields too_many_rules too_many_items too_many_constrained too_many_equal full_set too_many_sources too_many_sets term_too_high
all_said = tt

-- 130000000A000100000014
a_mask : said false (19 ∷ 0 ∷ 0 ∷ 0 ∷ 10 ∷ 0 ∷ 1 ∷ 0 ∷ 0 ∷ 0 ∷ 20 ∷ []) ≡
    pieces ("Rule 10 hides rule 20: every page that rule 20 takes is taken by rule 10 first, because rule 10 has the higher priority and asks for no " ∷
    "more. What rule 20 adds (a hazard line, say) is never printed. Give rule 20 the higher priority, or narrow rule 10." ∷ []) ++ (10 ∷ [])
unfolding all_said
a_mask = refl

-- 13000000070003000000030000000100000028
a_mask_of_three : said false (19 ∷ 0 ∷ 0 ∷ 0 ∷ 7 ∷ 0 ∷ 3 ∷ 0 ∷ 0 ∷ 0 ∷ 3 ∷ 0 ∷ 0 ∷ 0 ∷ 1 ∷ 0 ∷ 0 ∷ 0 ∷ 40 ∷ []) ≡
    pieces ("Rule 7 hides the rules 3, 1 and 40: every page that one of them takes is taken by rule 7 first, because rule 7 has the higher priority and " ∷
    "asks for no more. What they add (a hazard line, say) is never printed. Give them a higher priority than rule 7, or narrow rule 7." ∷ []) ++ (10 ∷ [])
unfolding all_said
a_mask_of_three = refl

-- 12000200000028FFFFFFFF
an_overlap : said false (18 ∷ 0 ∷ 2 ∷ 0 ∷ 0 ∷ 0 ∷ 40 ∷ 255 ∷ 255 ∷ 255 ∷ 255 ∷ []) ≡
    pieces ("Rule 40 and rule 4294967295 may both fit one page and have the same priority, so nothing says which of them the printer follows. Give one " ∷
    "of them the higher priority, or make them ask for different things." ∷ []) ++ (10 ∷ [])
unfolding all_said
an_overlap = refl

-- 12000300000014000000010000000A
an_overlap_of_three : said false (18 ∷ 0 ∷ 3 ∷ 0 ∷ 0 ∷ 0 ∷ 20 ∷ 0 ∷ 0 ∷ 0 ∷ 1 ∷ 0 ∷ 0 ∷ 0 ∷ 10 ∷ []) ≡
    pieces ("Rule 20 may fit the same page as any of the rules 1 and 10, and all have the same priority, so nothing says which of them the printer " ∷
    "follows there. Give rule 20 another priority than theirs, or make it ask for something different." ∷ []) ++ (10 ∷ [])
unfolding all_said
an_overlap_of_three = refl

-- 110000003204
an_unreachable_rule : said false (17 ∷ 0 ∷ 0 ∷ 0 ∷ 50 ∷ 4 ∷ []) ≡
    pieces ("Rule 50 is refused with number 4 (unreachable): it asks two different things of one site, or of sites that it makes equal, so no page can " ∷
    "ever match it and it never prints anything. Take one of the two demands out, or make two rules of it." ∷ []) ++ (10 ∷ [])
unfolding all_said
an_unreachable_rule = refl

-- 110000000A08
a_used_place : said false (17 ∷ 0 ∷ 0 ∷ 0 ∷ 10 ∷ 8 ∷ []) ≡
    pieces ("Rule 10 is refused with number 8 (place already used): an earlier rule of the same set has place 10, and only that one is used. Give this " ∷
    "rule a place of its own." ∷ []) ++ (10 ∷ [])
unfolding all_said
a_used_place = refl

-- 110000000301
a_rule_with_1 : said false (17 ∷ 0 ∷ 0 ∷ 0 ∷ 3 ∷ 1 ∷ []) ≡
    pieces ("Rule 3 is refused with number 1, a reason that this program has no words for. Read it with the program that wrote it." ∷ []) ++ (10 ∷ [])
unfolding all_said
a_rule_with_1 = refl

-- 14000C
a_circle : said false (20 ∷ 0 ∷ 12 ∷ []) ≡
    pieces ("Term 12 calls itself, directly or through other terms, and its set is not marked rec, so one page could keep the box going round without " ∷
    "end. Break the circle, or mark the set rec (2 in the flags of its 01 line) if this is meant." ∷ []) ++ (10 ∷ [])
unfolding all_said
a_circle = refl

-- 1500010002
one_set : said false (21 ∷ 0 ∷ 1 ∷ 0 ∷ 2 ∷ []) ≡ text "The sheet was read to its end: 1 set with 2 kept rules in all. What was found stands above."
unfolding all_said
one_set = refl

-- 1500020001
a_clean_sheet : said true (21 ∷ 0 ∷ 2 ∷ 0 ∷ 1 ∷ []) ≡
    pieces ("The sheet was read to its end: 2 sets with 1 kept rule in all. Nothing was found: no rule is refused, none hides another or may fit the " ∷
    "same page at the same priority (sets marked multi are not compared), and no term calls itself without rec." ∷ []) ++ (10 ∷ [])
unfolding all_said
a_clean_sheet = refl

-- 1500000000
an_empty_sheet : said true (21 ∷ 0 ∷ 0 ∷ 0 ∷ 0 ∷ []) ≡
    pieces ("The sheet was read to its end: 0 sets with 0 kept rules in all. Nothing was found: no rule is refused, none hides another or may fit the " ∷
    "same page at the same priority (sets marked multi are not compared), and no term calls itself without rec." ∷ []) ++ (10 ∷ [])
unfolding all_said
an_empty_sheet = refl

-- 1F0000000C01
a_bad_line : said false (31 ∷ 0 ∷ 0 ∷ 0 ∷ 12 ∷ 1 ∷ []) ≡
    pieces ("The sheet stops at line 12 with number 1 (not as laid out): the line is longer than 64 digits, has a character that is not 0 to 9 or A to " ∷
    "F, has no line feed, does not have the layout of its frame or stands out of place; where the sheet has no line 12, its last set has no 06. " ∷
    "Nothing from there on was checked, so do not load the sheet: correct the line and check again." ∷ []) ++ (10 ∷ [])
unfolding all_said
a_bad_line = refl

-- 1F0001000009
a_repeated_line : said false (31 ∷ 0 ∷ 1 ∷ 0 ∷ 0 ∷ 9 ∷ []) ≡
    pieces ("The sheet stops at line 65536 with number 9 (repeated): the site on it stands in its set already, or its term has a set already. Nothing " ∷
    "from there on was checked, so do not load the sheet: take the second site out (those after it then count one lower), or make one set of the " ∷
    "two, and check again." ∷ []) ++ (10 ∷ [])
unfolding all_said
a_repeated_line = refl

-- 1300000001
a_cut_line : said false (19 ∷ 0 ∷ 0 ∷ 0 ∷ 1 ∷ []) ≡
    pieces ("This line is not a finding that this program knows (its first byte is 19 in decimal). See that the line is whole and was written by a " ∷
    "program of the same release." ∷ []) ++ (10 ∷ [])
unfolding all_said
a_cut_line = refl

-- an empty line
no_line : said false ([]) ≡ text "This line is empty, so it is no finding."
unfolding all_said
no_line = refl

-- 110000000116, asked for 9, item 1
nine_fields : said false (17 ∷ 0 ∷ 0 ∷ 0 ∷ 1 ∷ 22 ∷ 0 ∷ 0 ∷ 0 ∷ 9 ∷ 0 ∷ 0 ∷ 0 ∷ 1 ∷ []) ≡
    pieces ("Rule 1 is refused with number 22 (fields): its item 1, counted from 0, asks for 9 fields, and a constraint has at most 8. The box leaves the " ∷
    "rule out, so what it should print stays missing. Ask for fewer fields." ∷ []) ++ (10 ∷ [])
unfolding all_said
nine_fields = refl

-- 1F000000011C, asked for 300
a_high_term : said false (31 ∷ 0 ∷ 0 ∷ 0 ∷ 1 ∷ 28 ∷ 0 ∷ 0 ∷ 1 ∷ 44 ∷ 0 ∷ 0 ∷ 0 ∷ 0 ∷ []) ≡
    pieces ("The sheet stops at line 1 with number 28 (term number): the line has term 300, and term numbers go to 255. Nothing from there on was " ∷
    "checked, so do not load the sheet: give the term a lower number and check again." ∷ []) ++ (10 ∷ [])
unfolding all_said
a_high_term = refl

-- 110000000114 without what is told: not what this program writes
no_more_told : said false (17 ∷ 0 ∷ 0 ∷ 0 ∷ 1 ∷ 20 ∷ []) ≡
    pieces ("Rule 1 is refused with number 20, a reason that this program has no words for. Read it with the program that wrote it." ∷ []) ++ (10 ∷ [])
unfolding all_said
no_more_told = refl

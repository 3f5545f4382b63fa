-- The words for each finding. The signs in them that stand for a part of the frame are those of tell_parts (its specs/Parts.antt).
use Rattle.std.specs.Prelude.{List, [], ◌∷◌, ◌++◌, ℕ}
use Prim.Native.String.{String}
use Rattle.paper.specs.Text.{unended}

-- a text in pieces, a line each
abbrev pub pieces : List String → List ℕ
pieces [] = []
pieces (s ∷ ss) = unended s ++ pieces ss

unfoldable pub unknown_site : List ℕ
unknown_site =
    pieces ("Rule # is refused with number 2 (unknown site): one of its items names a site that its set does not have, so the box leaves the rule out " ∷
    "and what it should print stays missing. Name a site of the set, or add its 02 line before the set's first rule; if the site is a field that " ∷
    "an earlier rule brings in, see that this earlier rule is not refused." ∷ [])

unfoldable pub unreachable : List ℕ
unreachable =
    pieces ("Rule # is refused with number 4 (unreachable): it asks two different things of one site, or of sites that it makes equal, so no page can " ∷
    "ever match it and it never prints anything. Take one of the two demands out, or make two rules of it." ∷ [])

unfoldable pub hanging_site : List ℕ
hanging_site =
    pieces ("Rule # is refused with number 5 (hanging site): it names a field without saying, in this rule, what must stand around that field, so the " ∷
    "box cannot reach the field. Add to the rule the variant or structure that has the field (or that the value is present), or take the field " ∷
    "out." ∷ [])

unfoldable pub self_containing : List ℕ
self_containing =
    pieces ("Rule # is refused with number 6 (self-containing): its equalities make a value a part of itself, which no page can have, so it never prints " ∷
    "anything. Take out the equality between a site and what lies inside it." ∷ [])

unfoldable pub place_used : List ℕ
place_used =
    pieces ("Rule # is refused with number 8 (place already used): an earlier rule of the same set has place #, and only that one is used. Give this " ∷
    "rule a place of its own." ∷ [])

unfoldable pub other_refusal : List ℕ
other_refusal = unended "Rule # is refused with number ^, a reason that this program has no words for. Read it with the program that wrote it."

unfoldable pub overlap_two : List ℕ
overlap_two =
    pieces ("Rule % and rule * may both fit one page and have the same priority, so nothing says which of them the printer follows. Give one of them the " ∷
    "higher priority, or make them ask for different things." ∷ [])

unfoldable pub overlap_more : List ℕ
overlap_more =
    pieces ("Rule % may fit the same page as any of the rules *, and all have the same priority, so nothing says which of them the printer follows " ∷
    "there. Give rule % another priority than theirs, or make it ask for something different." ∷ [])

unfoldable pub mask_one : List ℕ
mask_one =
    pieces ("Rule # hides rule *: every page that rule * takes is taken by rule # first, because rule # has the higher priority and asks for no more. " ∷
    "What rule * adds (a hazard line, say) is never printed. Give rule * the higher priority, or narrow rule #." ∷ [])

unfoldable pub mask_more : List ℕ
mask_more =
    pieces ("Rule # hides the rules *: every page that one of them takes is taken by rule # first, because rule # has the higher priority and asks for " ∷
    "no more. What they add (a hazard line, say) is never printed. Give them a higher priority than rule #, or narrow rule #." ∷ [])

unfoldable pub calls_itself : List ℕ
calls_itself =
    pieces ("Term @ calls itself, directly or through other terms, and its set is not marked rec, so one page could keep the box going round without " ∷
    "end. Break the circle, or mark the set rec (2 in the flags of its 01 line) if this is meant." ∷ [])

unfoldable pub read_to_end : List ℕ
read_to_end = unended "The sheet was read to its end: @ set{ with $ kept rule} in all. What was found stands above."

unfoldable pub clean_sheet : List ℕ
clean_sheet =
    pieces ("The sheet was read to its end: @ set{ with $ kept rule} in all. Nothing was found: no rule is refused, none hides another or may fit the " ∷
    "same page at the same priority (sets marked multi are not compared), and no term calls itself without rec." ∷ [])

unfoldable pub bad_line : List ℕ
bad_line =
    pieces ("The sheet stops at line # with number 1 (not as laid out): the line is longer than 64 digits, has a character that is not 0 to 9 or A to F, " ∷
    "has no line feed, does not have the layout of its frame or stands out of place; where the sheet has no line #, its last set has no 06. " ∷
    "Nothing from there on was checked, so do not load the sheet: correct the line and check again." ∷ [])

unfoldable pub source_unknown : List ℕ
source_unknown =
    pieces ("The sheet stops at line # with number 2 (unknown site): the site on it is made from a site that does not stand before it in its set. " ∷
    "Nothing from there on was checked, so do not load the sheet: put the missing 02 line before it, or correct the number, and check again." ∷ [])

unfoldable pub repeated : List ℕ
repeated =
    pieces ("The sheet stops at line # with number 9 (repeated): the site on it stands in its set already, or its term has a set already. Nothing from " ∷
    "there on was checked, so do not load the sheet: take the second site out (those after it then count one lower), or make one set of the two, " ∷
    "and check again." ∷ [])

unfoldable pub other_stop : List ℕ
other_stop =
    pieces ("The sheet stops at line # with number ^, a reason that this program has no words for. Read it with the program that wrote it, and do not " ∷
    "load the sheet." ∷ [])

unfoldable pub not_known : List ℕ
not_known =
    pieces ("This line is not a finding that this program knows (its first byte is ~ in decimal). See that the line is whole and was written by a " ∷
    "program of the same release." ∷ [])

unfoldable pub empty_line : List ℕ
empty_line = unended "This line is empty, so it is no finding."

-- ---- a limit is passed: the number asked for, the limit, the item or line, and what to do
unfoldable pub too_many_sites : List ℕ
too_many_sites =
    pieces ("Rule # is refused with number 20 (sites): at item !, counted from 0, its set needs & sites, and a set has at most 1,024; where the rule " ∷
    "has no item !, its equalities need them. The box leaves the rule out, so what it should print stays missing. Split the set." ∷ [])

unfoldable pub too_many_fields : List ℕ
too_many_fields =
    pieces ("Rule # is refused with number 22 (fields): its item !, counted from 0, asks for & fields, and a constraint has at most 8. The box leaves " ∷
    "the rule out, so what it should print stays missing. Ask for fewer fields." ∷ [])

unfoldable pub too_many_rules : List ℕ
too_many_rules =
    pieces ("Rule # is refused with number 23 (rules): it would be kept rule & of its set, and a set keeps at most 64. The box leaves the rule out, so " ∷
    "what it should print stays missing. Split the set, or take a rule out of it." ∷ [])

unfoldable pub too_many_items : List ℕ
too_many_items =
    pieces ("Rule # is refused with number 24 (items): it has & items, and a rule has at most 32. The box leaves the rule out, so what it should print " ∷
    "stays missing. Make two shorter rules of it." ∷ [])

unfoldable pub too_many_constrained : List ℕ
too_many_constrained =
    pieces ("Rule # is refused with number 25 (constrained sites): worked out, it has & constrained sites, and a kept rule has at most 32. The box " ∷
    "leaves the rule out, so what it should print stays missing. Make two shorter rules of it." ∷ [])

unfoldable pub too_many_equal : List ℕ
too_many_equal =
    pieces ("Rule # is refused with number 26 (equal sites): worked out, it has & equal sites, and a kept rule has at most 32. The box leaves the rule " ∷
    "out, so what it should print stays missing. Make two shorter rules of it." ∷ [])

unfoldable pub full_set : List ℕ
full_set =
    pieces ("The sheet stops at line # with number 20 (sites): the line needs & sites in its set, and a set has at most 1,024. Nothing from there on " ∷
    "was checked, so do not load the sheet: split the set and check again." ∷ [])

unfoldable pub too_many_sources : List ℕ
too_many_sources =
    pieces ("The sheet stops at line # with number 21 (sources): the site on it has & sources, and a site has at most 8. Nothing from there on was " ∷
    "checked, so do not load the sheet: make the site of fewer sources and check again." ∷ [])

unfoldable pub too_many_sets : List ℕ
too_many_sets =
    pieces ("The sheet stops at line # with number 27 (sets): the line begins set & of the sheet, and a sheet has at most 64. Nothing from there on " ∷
    "was checked, so do not load the sheet: make two sheets of it and check again." ∷ [])

unfoldable pub term_too_high : List ℕ
term_too_high =
    pieces ("The sheet stops at line # with number 28 (term number): the line has term &, and term numbers go to 255. Nothing from there on was " ∷
    "checked, so do not load the sheet: give the term a lower number and check again." ∷ [])

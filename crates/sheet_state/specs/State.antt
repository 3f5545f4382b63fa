-- Where the reading of a sheet stands, as words: the line; where the reader stands (0 outside, 1 before the rules, 2 among them, 3 among a rule's items),
-- the open set, the awaited rule, the items left; the sets that were ended; how many bytes of a line are held; 0 until the sheet is stopped. The held
-- bytes are lent beside them.
use Rattle.std.specs.Prelude.{Bool, true, false, not, ◌&&◌, List, [], ◌∷◌, ◌++◌, ℕ, ◌+◌, ◌%◌, length, get_or, take, drop, replicate, eqb, leb}
use Rattle.std.proofs.lemmas.List.Edits.{sets}
use Rattle.std.specs.Prelude.{if◌then◌else◌}
use Rattle.sheet_ended.specs.declared.EndedSets.{EndedSets}
use Rattle.sheet_reader.specs.declared.OpenSet.{OpenSet}
use Rattle.sheet_reader.specs.declared.Awaited.{Awaited}
use Rattle.sheet_reader.specs.declared.Reader.{Reader}
use Rattle.sheet_reader.specs.declared.Stands.{Stands}
use Rattle.sheet_reader.specs.declared.Stands.TheVariants.{Outside, Sites, Rules, Items}
use Rattle.sheet_lines.specs.Fed.{max_held}
use Rattle.sheet_read.specs.declared.State.{State}

abbrev pub state_words : ℕ
state_words = 22

-- what is lent is long enough for a state
unfoldable pub keeps : List ℕ → List ℕ → Bool
keeps w h = leb state_words (length w) && leb max_held (length h)

-- ---- reading

unfoldable pub set_in : List ℕ → OpenSet
set_in s = record { term = get_or s 2 0 % 65536; flags = get_or s 3 0 % 256; sites = get_or s 4 0 % 65536; rules = get_or s 5 0 % 4294967296 }

unfoldable pub rule_in : List ℕ → Awaited
rule_in s = record { place = get_or s 6 0 % 4294967296; priority = get_or s 7 0; count = get_or s 8 0 % 256 }

unfoldable pub stands_in : List ℕ → Stands
stands_in s =
    if eqb (get_or s 1 0) 1 then Sites (set_in s)
    else (if eqb (get_or s 1 0) 2 then Rules (set_in s)
    else (if eqb (get_or s 1 0) 3 then Items (set_in s) (rule_in s) (get_or s 9 0 % 256) else Outside))

unfoldable pub row_in : List ℕ → ℕ → List ℕ
row_in s at = get_or s at 0 ∷ get_or s (at + 1) 0 ∷ get_or s (at + 2) 0 ∷ get_or s (at + 3) 0 ∷ []

unfoldable pub ended_in : List ℕ → EndedSets
ended_in s = record { sets = get_or s 10 0 % 65536; kept = get_or s 11 0 % 65536; used = row_in s 12; recs = row_in s 16 }

unfoldable pub reader_in : List ℕ → Reader
reader_in s = record { line = get_or s 0 0 % 4294967296; stands = stands_in s; ended = ended_in s }

unfoldable pub stopped_in : List ℕ → Bool
stopped_in s = not (eqb (get_or s 21 0) 0)

-- of bytes that are too few, none is looked at
unfoldable pub bytes_in : List ℕ → List ℕ
bytes_in h = if leb max_held (length h) then take max_held h else replicate max_held 0

-- any words and bytes say a state
unfoldable pub state_in : List ℕ → List ℕ → State
state_in s h = record { reader = reader_in s; held = record { length = get_or s 20 0; bytes = bytes_in h }; stopped = stopped_in s }

-- ---- writing

abbrev pub no_set : OpenSet
no_set = record { term = 0; flags = 0; sites = 0; rules = 0 }

abbrev pub no_rule : Awaited
no_rule = record { place = 0; priority = 0; count = 0 }

unfoldable pub set_words : ℕ → OpenSet → List ℕ
set_words k g = k ∷ g.term ∷ g.flags ∷ g.sites ∷ g.rules ∷ []

unfoldable pub rule_words : Awaited → ℕ → List ℕ
rule_words a left = a.place ∷ a.priority ∷ a.count ∷ left ∷ []

unfoldable pub both_words : ℕ → OpenSet → Awaited → ℕ → List ℕ
both_words k g a left = set_words k g ++ rule_words a left

unfoldable pub stands_words : Stands → List ℕ
stands_words Outside = both_words 0 no_set no_rule 0
stands_words (Sites g) = both_words 1 g no_rule 0
stands_words (Rules g) = both_words 2 g no_rule 0
stands_words (Items g a left) = both_words 3 g a left

unfoldable pub ended_words : EndedSets → List ℕ
ended_words e =
    e.sets ∷ e.kept ∷ get_or e.used 0 0 ∷ get_or e.used 1 0 ∷ get_or e.used 2 0 ∷ get_or e.used 3 0
    ∷ get_or e.recs 0 0 ∷ get_or e.recs 1 0 ∷ get_or e.recs 2 0 ∷ get_or e.recs 3 0 ∷ []

unfoldable pub reader_words : Reader → List ℕ
reader_words r = r.line ∷ (stands_words r.stands ++ ended_words r.ended)

abbrev pub bit : Bool → ℕ
bit true = 1
bit false = 0

-- a state into the first words and bytes of what is lent
unfoldable pub state_put : List ℕ → State → List ℕ
state_put m s = sets m 0 (reader_words s.reader ++ (s.held.length ∷ bit s.stopped ∷ []))

unfoldable pub held_put : List ℕ → State → List ℕ
held_put h s = s.held.bytes ++ drop max_held h

-- A script of class calls on one set of classes, one call a line:
--     merge X Y    find X    findmut X    same X Y    remove X    len    empty
use Rattle.std.specs.declared.option.Option.TheVariants.{None, Some}
use Rattle.std.specs.Prelude.{Bool, true, false, ◌&&◌, List, [], ◌∷◌, ℕ, suc, ◌+◌, ◌-◌, ◌*◌, length, take, drop, leb, eqb}
use Rattle.std.specs.Prelude.{if◌then◌else◌}
use Rattle.paper.specs.Text.{unended}
use Rattle.paper.specs.Classes.{Classes, find, in_same_set, len, is_empty}
use Rattle.paper.specs.Answered.{Maybe}
use Rattle.class_script.specs.declared.Call.{Call}
use Rattle.class_script.specs.declared.Call.TheVariants as K
use Rattle.class_script.specs.declared.Reply.{Reply}
use Rattle.class_script.specs.declared.Reply.TheVariants as R
use Rattle.classes.specs.Answers.{looked, sought, joined, same, taken}

-- the digit d after the number v: a number again, if it is a digit and the number at most 65,535
abbrev pub next : ℕ → ℕ → ℕ
next v d = v * 10 + (d - 48)

abbrev pub goes_on : ℕ → ℕ → Bool
goes_on v d = (leb 48 d && leb d 57) && leb (next v d) 65535

unfoldable pub number_from : ℕ → List ℕ → Maybe ℕ
number_from v [] = Some v
number_from v (d ∷ ds) = elim (goes_on v d) [ true ↦ number_from (next v d) ds | false ↦ None ]

unfoldable pub number_in : List ℕ → Maybe ℕ
number_in s = if eqb (length s) 0 then None else number_from 0 s

-- the place of the first space, or the end
unfoldable pub space_in : List ℕ → ℕ
space_in [] = 0
space_in (b ∷ bs) = if eqb b 32 then 0 else suc (space_in bs)

unfoldable pub starts : List ℕ → List ℕ → Bool
starts s [] = true
starts [] (w ∷ ws) = false
starts (b ∷ bs) (w ∷ ws) = if eqb b w then starts bs ws else false

-- two numbers with a space between
abbrev pub both : Maybe ℕ → Maybe ℕ → Maybe (ℕ × ℕ)
both (Some x) (Some y) = Some (x, y)
both (Some x) None = None
both None n = None

unfoldable pub pair_in : List ℕ → Maybe (ℕ × ℕ)
pair_in s = both (number_in (take (space_in s) s)) (number_in (drop (suc (space_in s)) s))

abbrev pub to_merge : Maybe (ℕ × ℕ) → Call
to_merge (Some (x, y)) = K.Merge x y
to_merge None = K.Bad

abbrev pub to_same : Maybe (ℕ × ℕ) → Call
to_same (Some (x, y)) = K.SameSet x y
to_same None = K.Bad

abbrev pub to_find : Maybe ℕ → Call
to_find (Some x) = K.Find x
to_find None = K.Bad

abbrev pub to_find_mut : Maybe ℕ → Call
to_find_mut (Some x) = K.FindMut x
to_find_mut None = K.Bad

abbrev pub to_remove : Maybe ℕ → Call
to_remove (Some x) = K.Remove x
to_remove None = K.Bad

-- the call that a line is
unfoldable pub call_in : List ℕ → Call
call_in s =
    if starts s (unended "merge ") then to_merge (pair_in (drop 6 s)) else
    (if starts s (unended "find ") then to_find (number_in (drop 5 s)) else
    (if starts s (unended "findmut ") then to_find_mut (number_in (drop 8 s)) else
    (if starts s (unended "same ") then to_same (pair_in (drop 5 s)) else
    (if starts s (unended "remove ") then to_remove (number_in (drop 7 s)) else
    (if eqb (length s) 3 then (if starts s (unended "len") then K.Len else K.Bad) else
    (if eqb (length s) 5 then (if starts s (unended "empty") then K.Empty else K.Bad) else K.Bad))))))

-- what a call leaves of the classes and of the memory lent for members, and answers
abbrev pub stepped : Classes → List ℕ → Call → Classes × List ℕ × Reply
stepped c m (K.Merge x y) = ((joined c x y).0, m, R.Merged (joined c x y).1)
stepped c m (K.Find x) = (c, m, R.Found (looked (find c x)))
stepped c m (K.FindMut x) = ((sought c x).0, m, R.FoundMut (sought c x).1)
stepped c m (K.SameSet x y) = (c, m, R.Compared (same (in_same_set c x y)))
stepped c m (K.Remove x) = ((taken c m x).0, (taken c m x).1, R.Removed (taken c m x).2)
stepped c m K.Len = (c, m, R.Length (len c))
stepped c m K.Empty = (c, m, R.Emptiness (is_empty c))
stepped c m K.Bad = (c, m, R.Bad)

-- What crosses to C: 01's number as the result, and two words in a lent slice, the answer where the number is 0 and else "Told with it".
use Rattle.std.specs.declared.result.Result.TheVariants.{Err, Ok}
use Rattle.std.specs.declared.option.Option.TheVariants.{None, Some}
use Rattle.std.specs.Prelude.{Bool, true, false, ◌&&◌, not, List, [], ◌∷◌, ◌++◌, ℕ, ◌+◌, length, get_or, set, drop, ltb, leb}
use Rattle.paper.specs.Answered.{Maybe}
use Rattle.paper.specs.declared.Overlap.{Overlap}
use Rattle.paper.specs.declared.Overlap.TheVariants.{No, Yes, Subset}
use Rattle.paper.specs.declared.Refusal.{Refusal}
use Rattle.paper.specs.Numbers.{number, told, Outcome, done, refused}
use Rattle.paper.specs.Classes.{Trail, Flattened, Removed}
use Rattle.paper.specs.Sites.{Added}
use Rattle.rule_words.specs.Stored.{base, stride}
use Rattle.classes.specs.Called.{Looked}
use Rattle.paper.specs.Answered.{Answer}
use Rattle.classes.specs.Called.{Taken}
use Rattle.classes.specs.declared.Untaken.TheVariants as K
use Rattle.sites.specs.declared.Numbered.{Numbered}
use Rattle.sites.specs.declared.Numbered.TheVariants as N
use Rattle.report.specs.Reported.{Reported}
use Rattle.report.specs.Lines.{number_of, told_with}
use Rattle.paper.specs.Answered.{Verdict as Edged}
use Rattle.box_answers.specs.declared.Said.{Said}

-- A number of the border alone, none of 01's: a lent slice is shorter than the call asks.
abbrev pub short : ℕ
short = 255

-- the words of an answer
abbrev pub answer_words : ℕ
answer_words = 2

-- the word for a site that was never joined
abbrev pub no_word : ℕ
no_word = 65535

-- a number with the words that go with it; zeros fill the two
abbrev pub said : ℕ → List ℕ → Said
said n xs = record { number = n; one = get_or xs 0 0; two = get_or xs 1 0 }

-- an outcome: 0 and the answer's words, or the refusal's number and what is told
unfoldable pub said_by : {A : Type 0} → (A → List ℕ) → Outcome A → Said
said_by f (done a) = said 0 (f a)
said_by f (refused r) = said (number r) (told r)

-- what an outcome leaves: "Every refusal leaves the set and all lent memory unchanged"
unfoldable pub left_by : {A B : Type 0} → B → (A → B) → Outcome A → B
left_by old f (done a) = f a
left_by old f (refused r) = old

-- ---- lent slices

unfoldable pub has_room : List ℕ → ℕ → Bool
has_room m n = leb n (length m)

-- both are long enough
unfoldable pub both : Bool → Bool → Bool
both a b = a && b

-- the slice and the result: where a slice is too short, as it was, and `short`
unfoldable pub answered : Bool → List ℕ → Said → List ℕ × ℕ
answered true m s = (set (set m 0 s.one) 1 s.two, s.number)
answered false m s = (m, short)

-- other lent memory
unfoldable pub after : {A : Type 0} → Bool → A → A → A
after true old new = new
after false old new = old

-- ---- answers as words

abbrev pub bit : Bool → ℕ
bit true = 1
bit false = 0

abbrev pub found_word : Maybe ℕ → ℕ
found_word (Some s) = s
found_word None = no_word

abbrev pub trail_words : Trail → List ℕ
trail_words t = found_word t.found ∷ t.links ∷ []

abbrev pub flattened_words : Flattened → List ℕ
flattened_words h = found_word h.found ∷ []

abbrev pub removed_words : Removed → List ℕ
removed_words q = length q.members ∷ []

-- the site's number, and whether it is new in a set of n
abbrev pub added_words : ℕ → Added → List ℕ
added_words n a = a.number ∷ bit (not (ltb a.number n)) ∷ []

abbrev pub overlap_word : Overlap → ℕ
overlap_word No = 0
overlap_word Yes = 1
overlap_word Subset = 2

-- whether the words hold rule i whole; the first n rules
unfoldable pub has_rule : List ℕ → ℕ → Bool
has_rule ws i = leb (base i + stride) (length ws)

unfoldable pub has_rules : List ℕ → ℕ → Bool
has_rules ws n = leb (base n) (length ws)

-- the list xs stands first in the slice m, and the rest is as it was
abbrev pub listed_in : List ℕ → List ℕ → List ℕ
listed_in m xs = xs ++ drop (length xs) m

-- ---- the enums of the calls beneath

abbrev pub refused_said : Refusal → Said
refused_said r = said (number r) (told r)

unfoldable pub looked_said : Looked → Said
looked_said (Ok t) = said 0 (found_word t.found ∷ t.links ∷ [])
looked_said (Err r) = refused_said r

unfoldable pub sought_said : Answer (Maybe ℕ) → Said
sought_said (Ok f) = said 0 (found_word f ∷ [])
sought_said (Err r) = refused_said r

unfoldable pub joined_said : Answer Bool → Said
joined_said (Ok b) = said 0 (bit b ∷ [])
joined_said (Err r) = refused_said r

unfoldable pub same_said : Answer Bool → Said
same_said (Ok b) = said 0 (bit b ∷ [])
same_said (Err r) = refused_said r

unfoldable pub taken_said : Taken → Said
taken_said (Ok n) = said 0 (n ∷ [])
taken_said (Err (K.Refused r)) = refused_said r
taken_said (Err K.Short) = said short []

unfoldable pub numbered_said : Answer Numbered → Said
numbered_said (Ok (N.Known i)) = said 0 (i ∷ 0 ∷ [])
numbered_said (Ok (N.Fresh i)) = said 0 (i ∷ 1 ∷ [])
numbered_said (Err r) = refused_said r

unfoldable pub unfolded_said : Answer ℕ → Said
unfolded_said (Ok n) = said 0 (n ∷ [])
unfolded_said (Err r) = refused_said r

unfoldable pub added_said : Edged → Said
added_said (Ok _) = said 0 []
added_said (Err r) = refused_said r

unfoldable pub reported_said : Reported → Said
reported_said r = said (number_of r) (told_with r)

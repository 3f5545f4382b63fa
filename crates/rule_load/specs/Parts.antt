-- The parts of loading, as the code goes through them.
use Rattle.std.specs.declared.result.Result.TheVariants.{Err, Ok}
use Rattle.std.specs.declared.option.Option.TheVariants.{None, Some}
use Rattle.std.specs.Prelude.{◌≡◌, Bool, ◌&&◌, not, List, ℕ, suc, ◌+◌, ◌*◌, ◌/◌, ◌%◌, ◌<◌, ◌≤◌, min, length, get_or, take, eqb, ltb, leb}
use Rattle.paper.specs.declared.Item.{Item}
use Rattle.paper.specs.declared.Rule.{Rule}
use Rattle.paper.specs.declared.Refusal.TheVariants.{TooManySites, TooManyRules, TooManyItems, TooManyConstrained, TooManyEqual, PlaceUsed}
use Rattle.paper.specs.Words.{or_else, any, below}
use Rattle.paper.specs.Numbers.{max_sites, max_fields, max_rules, max_items, max_constrained, max_equal, most_rounds, Outcome, done, refused, ◌>>=◌, demand}
use Rattle.paper.specs.Sites.{Site, parent}
use Rattle.paper.specs.Loading.{Kept, Solving, closure, holders, conflict, check_4, steps, endless, no_endless, rounds, started}
use Rattle.rule_words.specs.Stored.{base, stride, kept_first, written}
use Rattle.sites.specs.Slots.{slot, no_site, store}
use Rattle.rule_children.specs.Tail.{site_of_word}
use Rattle.rule_rows.specs.Holding.{Inside}
use Rattle.paper.specs.Answered.{Verdict}
use Rattle.rule_items.specs.declared.Progress.{Progress}
use Rattle.rule_items.specs.Shown.{items_in, Told}
use Rattle.rule_rounds.specs.declared.Solved.{Solved}
use Rattle.paper.specs.Answered.{Answer}
use Rattle.paper.specs.Answered.{Maybe}
use Rattle.rule_rounds.specs.Rounding.{Scant}
use Rattle.rule_load.specs.Whole.{load_in, loaded_as, sites_after, words_after}

abbrev pub answer_as : {A : Type 0} → Outcome A → Verdict
answer_as (done a) = Ok tt
answer_as (refused e) = Err e

-- a kept rule has the place
unfoldable pub has_place : List ℕ → ℕ → ℕ → Bool
has_place ws k place = any (λ (q : Kept). eqb q.place place) (kept_first ws k)

-- the checks before the items
unfoldable pub admitted : ℕ → List ℕ → ℕ → ℕ → ℕ → Outcome (Unit {0})
admitted n ws k place count = do
  _ ← demand (ltb k max_rules && leb (base k + stride) (length ws)) (TooManyRules (suc (min k max_rules)))
  _ ← demand (leb n max_sites) (TooManySites n count)
  _ ← demand (leb count max_items) (TooManyItems count)
  demand (not (has_place ws k place)) (PlaceUsed place)

-- items and 5, classes, rounds
unfoldable pub worked : List ℕ → ℕ → ℕ → List Item → Outcome Solving
worked m n count items = do
  l ← items_in Bool.true m n count items
  _ ← (let k = closure l in check_4 k (holders l) (conflict k (holders l)))
  _ ← (let k = closure l in no_endless (endless (steps k (holders l))))
  rounds most_rounds count (started l)

-- "Last, 25 for the constrained sites, 26 for the equal ones". Then 20 if the lent bytes can't hold its table: the slots that they are, and one
unfoldable pub settled : ℕ → ℕ → ℕ → ℕ → ℕ → Outcome (Unit {0})
settled total held equal room count = do
  _ ← demand (leb held max_constrained) (TooManyConstrained held)
  _ ← demand (leb equal max_equal) (TooManyEqual equal)
  demand (leb (total * slot) room) (TooManySites (room / slot + 1) count)

-- the lists that are lent are long enough for the items
pub record Lent (tail sites rows : List ℕ) : Type 0 where
  pub long_tail : max_fields * max_items ≤ length tail
  pub long_sites : max_items ≤ length sites
  pub long_rows : length sites ≤ length rows

-- ---- what is written

-- a word that tells a child whose source has two bytes
pub record ChildWord (w : ℕ) : Type 0 where
  pub real : site_of_word w ≡ no_site → ⊥
  pub low : or_else (parent (site_of_word w)) 0 < 65536

-- the sites that the tail tells
unfoldable pub new_sites : List ℕ → ℕ → List Site
new_sites tail t = below t (λ i. site_of_word (get_or tail i 0))

-- the words of the rows' constraints, three a row, k of them
unfoldable pub gathered : List ℕ → List ℕ → ℕ → List ℕ
gathered rows shapes k = below k (λ i. get_or shapes (3 * get_or rows (i / 3) 0 + i % 3) 0)

-- what the items leave, where they are not refused
pub record Left (m : List ℕ) (n : ℕ) (tail sites rows words kids eqs equal low : List ℕ) (x : Progress) (count : ℕ) (items : List Item) : Type 0 where
  pub told : Told m n tail sites rows words kids eqs x (items_in Bool.true m n count items)
  pub few : length items ≤ count
  pub fine : x.answer ≡ Ok tt
  pub inside : Inside kids
  pub long_tail : max_fields * max_items ≤ length tail
  pub long_sites : max_items ≤ length sites
  pub long_rows : length sites ≤ length rows
  pub long_equal : max_equal ≤ length equal
  pub long_low : max_equal ≤ length low

-- what the rounds leave, where the rule is to be kept: all of it has room
pub record Keepable (bytes n : ℕ) (tail sites rows shapes equal low : List ℕ) (x : Solved) : Type 0 where
  pub fits : n + x.tail ≤ max_sites
  pub room : (n + x.tail) * slot ≤ bytes
  pub long_tail : x.tail ≤ length tail
  pub children : (i : ℕ) → i < x.tail → ChildWord (get_or tail i 0)
  pub few : x.held ≤ max_constrained
  pub long_sites : x.held ≤ length sites
  pub long_rows : x.held ≤ length rows
  pub long_shapes : 3 * max_items ≤ length shapes
  pub items : (i : ℕ) → i < x.held → get_or rows i 0 < max_items
  pub few_equal : x.equal ≤ max_equal
  pub long_equal : x.equal ≤ length equal
  pub long_low : x.equal ≤ length low

-- what the rounds leave, before the checks of the result
pub record Finishable (n : ℕ) (tail sites rows shapes equal low : List ℕ) (x : Solved) : Type 0 where
  pub fits : n + x.tail ≤ max_sites
  pub long_tail : x.tail ≤ length tail
  pub children : (i : ℕ) → i < x.tail → ChildWord (get_or tail i 0)
  pub few : x.held ≤ max_sites
  pub long_sites : x.held ≤ length sites
  pub long_rows : x.held ≤ length rows
  pub long_shapes : 3 * max_items ≤ length shapes
  pub items : (i : ℕ) → i < x.held → get_or rows i 0 < max_items
  pub few_equal : x.equal ≤ max_sites
  pub long_equal : max_equal ≤ length equal
  pub long_low : max_equal ≤ length low

-- a result that passes is written, one that does not changes nothing
abbrev pub Finishes : List ℕ → ℕ → List ℕ → ℕ → ℕ → ℕ → List ℕ → List ℕ → List ℕ → List ℕ → List ℕ → List ℕ → Solved → Answer ℕ → List ℕ → List ℕ
    → Outcome (Unit {0}) → Type 0
Finishes m n ws k place priority tail sites rows shapes equal low x out m' ws' (done _) =
    (out ≡ Ok (n + x.tail)) × ((m' ≡ store m n (new_sites tail x.tail))
    × (ws' ≡ written ws k place priority (take x.held sites) (gathered rows shapes (3 * x.held)) (take x.equal equal)
    (take x.equal low)))
Finishes m n ws k place priority tail sites rows shapes equal low x out m' ws' (refused e) = (out ≡ Err e) × ((m' ≡ m) × (ws' ≡ ws))

-- what `load` ensures
abbrev pub Answers : List ℕ → ℕ → List ℕ → ℕ → Rule → Answer ℕ → List ℕ → List ℕ → Type 0
Answers m n ws k r out m' ws' = (out ≡ loaded_as (load_in m n ws k r))
    × ((m' ≡ sites_after m n (load_in m n ws k r)) × (ws' ≡ words_after ws k (load_in m n ws k r)))

-- the rule is loaded; or nothing is written, and a lent list was too short
unfoldable pub Tries : List ℕ → ℕ → List ℕ → ℕ → Rule → List ℕ → List ℕ → List ℕ → List ℕ → Maybe (Answer ℕ) → Type 0
Tries m n ws k r tail sites m' ws' (Some out) = Answers m n ws k r out m' ws'
Tries m n ws k r tail sites m' ws' None = Scant tail sites × ((m' ≡ m) × (ws' ≡ ws))

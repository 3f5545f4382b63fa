-- The words of Shipped.antt: who reads its statements must believe them, with those of paper and of meaning. No proof stands here.
use Rattle.std.specs.Prelude.{◌≡◌, ◌↔◌, ◌⊎◌, ℕ, suc, ◌+◌, length}
use Rattle.std.proofs.Math.Option.{some}
use mathlib.Core.List.{List, [], ◌∷◌, ◌++◌, Memᴰ}
use Rattle.paper.specs.declared.Overlap.TheVariants.{No}
use Rattle.paper.specs.declared.Refusal.{Refusal}
use Rattle.paper.specs.declared.Rule.{Rule}
use Rattle.paper.specs.Numbers.{done, refused, Outcome}
use Rattle.paper.specs.Sites.{Extends, Site, term_of, Added, Sites}
use Rattle.paper.specs.Inputs.{Given, Input, Matches, MatchesKept}
use Rattle.paper.specs.Loading.{Kept, Set, Written, Made}
use Rattle.paper.specs.Rules.{may_overlap}
use Rattle.paper.specs.Sheets.{outside, Reader, start, Stepped, at_rules, rule_read, set_ended, step, read_on, Open, at_sites, at_items, with_item}
use Rattle.rule_words.specs.Stored.{kept_in}
use Rattle.sites.specs.Slots.{sites_in, added_in, after_add}
use Rattle.rule_load.specs.Whole.{load_in, sites_after, words_after}
use Rattle.rule_load.proofs.Ranging.{RuleFits}
use Rattle.paper.specs.Layout.{Lines, nothing, line, lines, a_rule, an_item, end_set, frame_of, unended}
use Rattle.meaning.specs.Demand3.{Keeps}
use Rattle.paper.specs.declared.Item.{Item}
use Rattle.paper.specs.declared.Refusal.TheVariants.{Layout}
use Rattle.sheet_reader.specs.State.{Lent}
use Rattle.sheet_reader.specs.declared.Stands.{Stands}
use Rattle.sheet_reader.specs.declared.Stands.TheVariants as stood
use Rattle.sheet_read.specs.declared.State.{State}
use Rattle.sheet_read.specs.Whole.{first_state}
use Rattle.sheet_read.specs.Leaves.{feed_in}

-- ---- lent memory that calls made

-- how many sites and how many rules there are after a rule was loaded or refused
abbrev pub sites_then : ℕ → Outcome Set → ℕ
sites_then n (done g) = length g.sites
sites_then n (refused x) = n

abbrev pub rules_then : ℕ → Outcome Set → ℕ
rules_then k (done g) = suc k
rules_then k (refused x) = k

-- the sites after a call that kept its rule, in the bytes that it left
abbrev pub sites_now : List ℕ → ℕ → Set → Sites
sites_now m n g = sites_in (sites_after m n (done g)) (length g.sites)

-- and the rule that it kept, in its words
abbrev pub rule_now : List ℕ → ℕ → Set → Kept
rule_now ws k g = kept_in (words_after ws k (done g)) k

-- Memory begins with no site and no rule, whatever its bytes. A call of `sites::add` with any bytes, or of `rule_load::load` with any rule, goes on from
-- memory that calls made. `RuleFits` says what the types of `load`'s rule say: the place is a u32, the priority a u64, and of each item's constraint the
-- type, variant and name are u16 and the field count a u8.
pub data MadeIn : List ℕ → ℕ → List ℕ → ℕ → Type 0 where
  started : (m ws : List ℕ) → MadeIn m 0 ws 0
  site_in : {m : List ℕ} {n : ℕ} {ws : List ℕ} {k : ℕ} (at : ℕ) (b : List ℕ) (a : Added) → MadeIn m n ws k → added_in m n at b ≡ done a →
      MadeIn (after_add m n (done a)) (length a.sites) ws k
  loaded_in : {m : List ℕ} {n : ℕ} {ws : List ℕ} {k : ℕ} (r : Rule) (g : Set) → MadeIn m n ws k → RuleFits r → load_in m n ws k r ≡ done g →
      MadeIn (sites_after m n (done g)) (length g.sites) (words_after ws k (done g)) (suc k)

-- k is what was kept of r, when a call loaded r into a made set; g grew from the set that this call left
pub record From (g : Set) (k : Kept) (r : Written) : Type 0 where
  pub before : Set
  pub after : Set
  pub made : Made before
  pub keeps : Keeps before r after k
  pub place : k.place ≡ r.place
  pub priority : k.priority ≡ r.priority
  pub grew : Extends after.sites g.sites

-- ---- the memory that the shipped reader was lent

-- `sheet_read::begin`, whatever is lent, then `sheet_read::feed` again and again, with any pieces and any room: the last of them leaves the state s and the
-- lent memory k.
pub data FedTo : State → Lent → Type 0 where
  from_begin : (k : Lent) → FedTo first_state k
  then_fed : {s : State} {k : Lent} (room : List ℕ) (at : ℕ) (piece : List ℕ) → FedTo s k →
      FedTo (feed_in s k room at piece).answer.state (feed_in s k room at piece).memory

-- the bytes m and the words ws are as calls left them, with the counts of the open set; where none is open, nothing is said
abbrev pub MadeAt : List ℕ → List ℕ → Stands → Type 0
MadeAt m ws stood.Outside = Unit {0}
MadeAt m ws (stood.Sites s) = MadeIn m s.sites ws s.rules
MadeAt m ws (stood.Rules s) = MadeIn m s.sites ws s.rules
MadeAt m ws (stood.Items s r left) = MadeIn m s.sites ws s.rules

-- ---- reading a sheet

-- The sheet is read line by line: before line `at` the reader is d, and these lines are to come.
pub data Reads (sheet : List ℕ) : Reader → ℕ → Lines → Type 0 where
  first : Reads sheet start 1 (lines sheet)
  next : {d : Reader} {at : ℕ} {l : List ℕ} {rest : Lines} (s : Stepped) → Reads sheet d at (line l rest) → step d at l ≡ done s →
      Reads sheet s.after (suc at) rest

-- the open set is g
abbrev pub IsAtPlace : Open → Set → Type 0
IsAtPlace outside g = ⊥
IsAtPlace (at_sites h) g = h ≡ g
IsAtPlace (at_rules h) g = h ≡ g
IsAtPlace (at_items h r left) g = h ≡ g

-- The line completes the rule r of the open set g: a rule line without items, or the last item of an open rule.
pub data Completes (d : Reader) (l : List ℕ) (g : Set) : Written → Type 0 where
  bare_first : (p q : ℕ) → d.stands ≡ at_sites g → frame_of l ≡ some (a_rule p q 0) →
      Completes d l g (record { place = p; priority = q; count = 0; items = [] })
  bare : (p q : ℕ) → d.stands ≡ at_rules g → frame_of l ≡ some (a_rule p q 0) → Completes d l g (record { place = p; priority = q; count = 0; items = [] })
  last : (r : Written) (i : Item) → d.stands ≡ at_items g r 1 → frame_of l ≡ some (an_item i) → Completes d l g (with_item r i)

-- A line of the sheet completes the rule r of the open set g: paper's reader then loads it.
pub record Asked (sheet : List ℕ) (g : Set) (r : Written) : Type 0 where
  pub reader : Reader
  pub at : ℕ
  pub text : List ℕ
  pub rest : Lines
  pub reads : Reads sheet reader at (line text rest)
  pub completes : Completes reader text g r
  pub asks : step reader at text ≡ rule_read reader.ended g r

-- A line of the sheet ends the open set g.
pub record Closed (sheet : List ℕ) (g : Set) : Type 0 where
  pub reader : Reader
  pub at : ℕ
  pub text : List ℕ
  pub rest : Lines
  pub reads : Reads sheet reader at (line text rest)
  pub stands : IsAtPlace reader.stands g
  pub frame : frame_of text ≡ some end_set
  pub ends : step reader at text ≡ set_ended reader.ended g

-- k, of the set g, is what was kept of r, which the sheet handed to the set as it was then; g grew from what that left
pub record Came (sheet : List ℕ) (g : Set) (k : Kept) (r : Written) : Type 0 where
  pub before : Set
  pub after : Set
  pub asked : Asked sheet before r
  pub keeps : Keeps before r after k
  pub place : k.place ≡ r.place
  pub priority : k.priority ≡ r.priority
  pub grew : Extends after.sites g.sites

-- The reader comes to the end of the sheet, outside of a set.
abbrev pub ReadWhole : List ℕ → Type 0
ReadWhole sheet = (z : Reader) × (at : ℕ) × Reads sheet z at nothing × (z.stands ≡ outside)

-- The reader stops before these lines with x: it refuses the first of them, or that has no end (1), or no line is left and a set is open (1).
abbrev pub Stops : Reader → ℕ → Lines → Refusal → Type 0
Stops d at (line l rest) x = step d at l ≡ refused x
Stops d at (unended l) x = x ≡ Layout at
Stops d at nothing x = (d.stands ≡ outside → ⊥) × (x ≡ Layout at)

-- The reader stops at the line `at` with x.
abbrev pub Stopped : List ℕ → ℕ → Refusal → Type 0
Stopped sheet at x = (d : Reader) × (ls : Lines) × Reads sheet d at ls × Stops d at ls x

-- ---- findings, and what they speak of

-- the findings of a sheet, each as its bytes
abbrev pub found_in : List ℕ → List (List ℕ)
found_in sheet = read_on start 1 (lines sheet)

-- A finding that closes a sheet's findings: a 15, or the 1F that replaces it.
abbrev pub ClosesSheet : List ℕ → Type 0
ClosesSheet f = ((t : List ℕ) × (f ≡ 21 ∷ t)) ⊎ ((t : List ℕ) × (f ≡ 31 ∷ t))

-- The rule with place p of a set that the sheet ends: as the set keeps it, and as the sheet wrote it. Both match the same inputs of the set.
pub record RuleOf (sheet : List ℕ) (g : Set) (p : ℕ) : Type 0 where
  pub kept : Kept
  pub there : Memᴰ kept g.kept
  pub place : kept.place ≡ p
  pub rule : Written
  pub came : Came sheet g kept rule
  pub same : (at : Given) → Input g.sites at → Matches at rule.items ↔ MatchesKept at kept

-- both rules match some input
abbrev pub Common : {sheet : List ℕ} {g : Set} {p q : ℕ} → RuleOf sheet g p → RuleOf sheet g q → Type 0
Common {g = g} a b = (at : Given) × Input g.sites at × Matches at a.rule.items × Matches at b.rule.items

-- what 12 is about: equal priorities, and the answer is not No
abbrev pub Overlaps : Kept → Kept → Type 0
Overlaps a b = (a.priority ≡ b.priority) × (may_overlap a b ≡ No → ⊥)

-- a 12 of the place p and the places ns names the pair of x and y: one stands first, the other behind it
abbrev pub Pair : ℕ → ℕ → ℕ → List ℕ → Type 0
Pair x y p ns = ((p ≡ x) × Memᴰ y ns) ⊎ ((p ≡ y) × Memᴰ x ns)

-- a set of the sheet, of the term a, has a site that calls the term b; and such calls one after the other
abbrev pub Calls : List ℕ → ℕ → ℕ → Type 0
Calls sheet a b = (g : Set) × Closed sheet g × (g.term ≡ a) × (s : Site) × Memᴰ s g.sites × (term_of s ≡ some b)

pub data Chain (sheet : List ℕ) : ℕ → ℕ → Type 0 where
  one_call : {a b : ℕ} → Calls sheet a b → Chain sheet a b
  then_call : {a b c : ℕ} → Calls sheet a b → Chain sheet b c → Chain sheet a c

-- ---- the sets that a sheet ends

-- the open set, where there is one
abbrev pub open_set : Open → List Set
open_set outside = []
open_set (at_sites g) = g ∷ []
open_set (at_rules g) = g ∷ []
open_set (at_items g r left) = g ∷ []

-- the set that a line ends: it was open before the line, and none is open after it
abbrev pub ended_by : Open → Open → List Set
ended_by o outside = open_set o
ended_by o (at_sites g) = []
ended_by o (at_rules g) = []
ended_by o (at_items g r left) = []

-- the sets that these lines end, in order, up to where the reader stops
unfoldable pub sets_from : Reader → ℕ → Lines → List Set
sets_from d at nothing = []
sets_from d at (unended l) = []
sets_from d at (line l rest) = elim (step d at l) [ done s ↦ ended_by d.stands s.after.stands ++ sets_from s.after (suc at) rest | refused x ↦ [] ]

-- and those of the sheet
abbrev pub sets_in : List ℕ → List Set
sets_in sheet = sets_from start 1 (lines sheet)

-- how many rules they keep
unfoldable pub rules_of : List Set → ℕ
rules_of [] = 0
rules_of (g ∷ gs) = length g.kept + rules_of gs

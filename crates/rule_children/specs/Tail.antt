-- A set's table on its way through one rule: the sites in lent memory, then the children that the rule adds, each as one word of a tail.
use Rattle.std.specs.declared.result.Result.TheVariants.{Err, Ok}
use Rattle.std.specs.Prelude.{◌≡◌, List, [], ◌∷◌, ◌++◌, map, ℕ, zero, suc, ◌+◌, ◌-◌, ◌*◌, ◌/◌, ◌%◌, ◌<◌, ◌≤◌, min, length, get_or, drop, set, eqb, ltb, leb}
use Rattle.std.proofs.Math.Option.{none, some}
use Rattle.std.proofs.lemmas.List.Edits.{sets}
use Rattle.paper.specs.declared.Constraint.{Constraint}
use Rattle.paper.specs.declared.Refusal.{Refusal}
use Rattle.paper.specs.declared.Refusal.TheVariants.{TooManySites, TooManyFields}
use Rattle.std.specs.Prelude.{if◌then◌else◌}
use Rattle.paper.specs.Words.{or_else, below}
use Rattle.paper.specs.Numbers.{max_sites, max_fields, Outcome, done, refused, ◌>>=◌, demand}
use Rattle.paper.specs.Sites.{Site, const_bool, const_int, const_prim, argument, extractor, constructor, iterator, make_variant, match_variant, make_struct, extract_struct, make_some, match_some, match_tuple, body, Sites, child_count, child, children, number_of, child_number, add_all}
use Rattle.site_slots.specs.Seeking.{four_at}
use Rattle.sites.specs.Slots.{slot, site_in, sites_in, no_site}
use Rattle.rule_children.specs.declared.Children.{Children}
use Rattle.rule_children.specs.declared.Seen.{Seen}
use Rattle.rule_children.specs.declared.Wanted.{Wanted}

-- A site that can be a child, as a word: the kind lowest, then the field, the variant and the source, as the kind has them. Any other site is 0.
unfoldable pub word_of : Site → ℕ
word_of (const_bool t v) = 0
word_of (const_int t h l) = 0
word_of (const_prim v) = 0
word_of (argument i) = 0
word_of (extractor t s) = 0
word_of (constructor t n l) = 0
word_of (iterator s) = 0
word_of (make_variant t v l) = 0
word_of (match_variant s v f) = 8 + 256 * (f + 256 * (v + 65536 * s))
word_of (make_struct t l) = 0
word_of (extract_struct s f) = 10 + 256 * (f + 256 * s)
word_of (make_some s) = 0
word_of (match_some s) = 12 + 256 * s
word_of (match_tuple s f) = 0

-- and back. A word of no such kind is read as what bytes are read as that are no body: it is never a site that may be added.
unfoldable pub site_of_word : ℕ → Site
site_of_word w =
    if eqb (w % 256) 8 then match_variant (w / 256 / 256 / 65536) (w / 256 / 256 % 65536) (w / 256 % 256)
    else (if eqb (w % 256) 10 then extract_struct (w / 256 / 256) (w / 256 % 256)
    else (if eqb (w % 256) 12 then match_some (w / 256) else no_site))

-- w is the word of the site s, and tells it
pub record Spelt (s : Site) (w : ℕ) : Type 0 where
  pub is : w ≡ word_of s
  pub back : 0 < w → site_of_word w ≡ s

-- site x of n sites in the memory m and those of the tail
unfoldable pub site_there : List ℕ → ℕ → List ℕ → ℕ → Site
site_there m n tail x = if ltb x n then site_in m x else site_of_word (get_or tail (x - n) 0)

-- n sites of the memory m, then k of the tail
unfoldable pub table : List ℕ → ℕ → List ℕ → ℕ → Sites
table m n tail k = sites_in m n ++ below k (λ i. site_of_word (get_or tail i 0))

-- A tail without room for eight words more, or for as many sites as a set may have, and a table that two bytes can't number, are refused as one that
-- is full (a caller that lends such an array and keeps to the limits meets neither). 22 for fields. Then the children of s under c are added, all or none.
unfoldable pub grown : List ℕ → ℕ → List ℕ → ℕ → ℕ → ℕ → Constraint → Outcome Sites
grown m n tail k at s c = do
  _ ← demand (leb (min max_sites (k + max_fields)) (length tail)) (TooManySites (n + k) at)
  _ ← demand (ltb (n + k) 65536) (TooManySites (n + k) at)
  _ ← demand (leb (child_count c) max_fields) (TooManyFields (child_count c) at)
  add_all (table m n tail k) at (children s c)

-- the tail afterwards
abbrev pub after_grown : ℕ → List ℕ → ℕ → Outcome Sites → List ℕ
after_grown n tail k (done t) = sets tail k (map word_of (drop (n + k) t))
after_grown n tail k (refused r) = tail

-- the tail then holds the new table
abbrev pub holds : List ℕ → ℕ → List ℕ → Outcome Sites → Type 0
holds m n tail (done t) = table m n tail (length t - n) ≡ t
holds m n tail (refused r) = Unit {0}

-- the answer: the count of sites afterwards, and the children's numbers by field
abbrev pub children_as : ℕ → Constraint → Outcome Sites → Children
children_as s c (done t) = record {
  outcome = Ok (length t);
  numbers = below max_fields (λ i. if ltb i (child_count c) then child_number t s c i else 0);
}
children_as s c (refused r) = record { outcome = Err r; numbers = below max_fields (λ i. 0) }

-- a refusal as the answer
abbrev pub refused_as : Refusal → Children
refused_as r = record { outcome = Err r; numbers = below max_fields (λ i. 0) }

-- ---- the search

-- which of the `count` words from `first` on, 256 apart, w is; `count` where it is none
pub record Field (w first count r : ℕ) : Type 0 where
  pub low : r ≤ count
  pub is : r < count → w ≡ first + 256 * r
  pub none : count ≤ r → (f : ℕ) → f < count → w ≡ first + 256 * f → ⊥

-- the four bytes with which the slot of a site begins
unfoldable pub begins : Site → ℕ
begins x = four_at (length (body x) ∷ body x) 0

-- what the children of s under c have in common
pub record Wants (s : ℕ) (c : Constraint) (w : Wanted) : Type 0 where
  pub key : w.key ≡ begins (child s c 0)
  pub first : Spelt (child s c 0) w.first
  pub count : w.count ≡ child_count c

-- none of the words from `from` on and below r is one of the `count` from `first` on
pub record SeeksWord (tail : List ℕ) (from to first count r : ℕ) : Type 0 where
  pub low : from ≤ to → from ≤ r
  pub high : r ≤ to
  pub none : (j : ℕ) → from ≤ j → j < r → j < length tail → (f : ℕ) → f < count → get_or tail j 0 ≡ first + 256 * f → ⊥

-- and none of the sites from i on and below r can be a child
pub record Onward (m : List ℕ) (n : ℕ) (tail : List ℕ) (k i : ℕ) (w : Wanted) (r : ℕ) : Type 0 where
  pub low : i ≤ r
  pub high : r ≤ n + k
  pub slots : (j : ℕ) → i ≤ j → j < r → j < n → j * slot + 4 ≤ length m → four_at m (j * slot) ≡ w.key → ⊥
  pub words : (j : ℕ) → i ≤ j → j < r → n ≤ j → j - n < length tail → (f : ℕ) → f < w.count → get_or tail (j - n) 0 ≡ w.first + 256 * f → ⊥

-- how many of the first q are without a number
unfoldable pub holes : List ℕ → ℕ → ℕ
holes of zero = 0
holes of (suc q) = holes of q + (if eqb (get_or of q 0) 65535 then 1 else 0)

-- the field f gets the number i if it is one of `count` and has none; r tells whether it did
pub record Notes (of of' : List ℕ) (f count i r : ℕ) : Type 0 where
  pub past : count ≤ f → (of' ≡ of) × (r ≡ 0)
  pub had : f < count → (get_or of f 0 ≡ 65535 → ⊥) → (of' ≡ of) × (r ≡ 0)
  pub new : f < count → get_or of f 0 ≡ 65535 → (of' ≡ set of f i) × (r ≡ 1)

-- the numbers of the children in the table t, by field
pub record Numbers (t : Sites) (s : ℕ) (c : Constraint) (of : List ℕ) : Type 0 where
  pub eight : length of ≡ max_fields
  pub each : (f : ℕ) → f < child_count c → get_or of f 0 ≡ or_else (number_of t (child s c f)) 65535

pub record Sees (t : Sites) (s : ℕ) (c : Constraint) (r : Seen) : Type 0 where
  pub numbers : Numbers t s c r.numbers
  pub missing : r.missing ≡ holes r.numbers (child_count c)

-- ---- what is new

-- the first q children that t has not
unfoldable pub news : Sites → ℕ → Constraint → ℕ → List Site
news t s c zero = []
news t s c (suc q) = elim (number_of t (child s c q)) [ none ↦ news t s c q ++ (child s c q ∷ []) | some i ↦ news t s c q ]

-- what the search starts with
pub record Growing (n k s : ℕ) (c : Constraint) (tail : List ℕ) : Type 0 where
  pub long : min max_sites (k + max_fields) ≤ length tail
  pub small : n + k < 65536
  pub few : child_count c ≤ max_fields
  pub known : s < n + k

-- what they are written with: the search is done, and there is room
pub record Ready (t : Sites) (n k : ℕ) (s : ℕ) (c : Constraint) (of tail : List ℕ) : Type 0 where
  pub few : child_count c ≤ max_fields
  pub seen : Numbers t s c of
  pub size : length t ≡ n + k
  pub small : n + k < 65536
  pub room : length (news t s c (child_count c)) ≤ max_sites - (n + k)
  pub long : min max_sites (k + max_fields) ≤ length tail

-- the numbers by field, in the table with the first q, and 0 past them
pub record Placed (t : Sites) (s : ℕ) (c : Constraint) (q : ℕ) (of : List ℕ) : Type 0 where
  pub eight : length of ≡ max_fields
  pub each : (f : ℕ) → f < q → some (get_or of f 0) ≡ number_of (t ++ news t s c q) (child s c f)
  pub past : (f : ℕ) → q ≤ f → f < max_fields → get_or of f 0 ≡ 0

-- What a well-made state is: what the calls make of the empty one (proofs/Laws.antt, `made_well`), and what the laws hold of.
use Rattle.std.specs.declared.option.Option.TheVariants.{None, Some}
use Rattle.std.specs.Prelude.{◌≡◌, List, Bool, true, false, ℕ, zero, suc, ◌+◌, ◌^◌, ◌≤◌, ◌<◌, get_or, length, ltb, eqb}
use Rattle.paper.specs.Answered.{Maybe}
use Rattle.std.specs.Prelude.{if◌then◌else◌}
use Rattle.paper.specs.Numbers.{max_sites}
use Rattle.paper.specs.Classes.{Classes, up, find_in, is_at}

-- log2 of `max_sites`, rounded down
abbrev pub log_sites : ℕ
log_sites = 10

-- the parent links from x end at the root r after n links
abbrev pub Leads : ℕ → List ℕ → ℕ → ℕ → Type 0
Leads zero p x r = (x < max_sites) × (up p x ≡ x) × (x ≡ r)
Leads (suc n) p x r = (x < max_sites) × (up p x ≡ x → ⊥) × Leads n p (up p x) r

abbrev pub bit : Bool → ℕ
bit true = 1
bit false = 0

-- how many numbers below n pass the test
unfoldable pub cnt : (ℕ → Bool) → ℕ → ℕ
cnt f zero = 0
cnt f (suc n) = bit (f n) + cnt f n

-- z's root is r; z has a parent
abbrev pub in_class : List ℕ → ℕ → ℕ → Bool
in_class p r z = is_at (find_in p z).found (Some r)

abbrev pub has_up : List ℕ → ℕ → Bool
has_up p z = ltb (up p z) max_sites

-- how many sites have the root r; how many are joined
abbrev pub members : List ℕ → ℕ → ℕ
members p r = cnt (in_class p r) max_sites

abbrev pub joined_in : List ℕ → ℕ
joined_in p = cnt (has_up p) max_sites

abbrev pub rank : List ℕ → ℕ → ℕ
rank R x = get_or R x 0

-- A joined site's parent is joined; ranks rise along links; a root of rank k has 2 ^ k members or more; the count is of the joined sites.
pub record Well (p R : List ℕ) (n : ℕ) : Type 0 where
  pub len : length p ≡ max_sites
  pub rlen : length R ≡ max_sites
  pub closed : (x : ℕ) → x < max_sites → up p x < max_sites → up p (up p x) < max_sites
  pub rise : (x : ℕ) → x < max_sites → up p x < max_sites → (up p x ≡ x → ⊥) → rank R x < rank R (up p x)
  pub low : (x : ℕ) → x < max_sites → up p x < max_sites → rank R x ≤ log_sites
  pub big : (r : ℕ) → r < max_sites → up p r ≡ r → 2 ^ rank R r ≤ members p r
  pub tally : n ≡ joined_in p

abbrev pub WellMade : Classes → Type 0
WellMade c = Well c.parents c.ranks c.count

-- the representative of x's class, or nothing
abbrev pub rep_of : Classes → ℕ → Maybe ℕ
rep_of c x = (find_in c.parents x).found

-- an answer after the root b went under the root a
abbrev pub turned : ℕ → ℕ → Maybe ℕ → Maybe ℕ
turned a b (Some s) = Some (if eqb s b then a else s)
turned a b None = None

-- an answer at z after the site x, if it was in no class, became a class of its own
abbrev pub alone_as : ℕ → ℕ → Maybe ℕ → Maybe ℕ
alone_as x z (Some s) = Some s
alone_as x z None = if eqb z x then Some x else None

-- an answer after the class of the root r was taken out
abbrev pub dropped : ℕ → Maybe ℕ → Maybe ℕ
dropped r (Some s) = if eqb s r then None else Some s
dropped r None = None

-- of two roots the one that stays a root, and the one that goes under it
abbrev pub winner : Classes → ℕ → ℕ → ℕ
winner c a b = if ltb (rank c.ranks a) (rank c.ranks b) then b else a

abbrev pub loser : Classes → ℕ → ℕ → ℕ
loser c a b = if ltb (rank c.ranks a) (rank c.ranks b) then a else b

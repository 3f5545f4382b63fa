-- Check 6 over the classes of parents p: from root to root by the children of each class's first holder.
use Rattle.std.specs.declared.result.Result.TheVariants.{Err, Ok}
use Rattle.std.specs.Prelude.{◌≡◌, ◌⊎◌, List, ℕ, ◌+◌, ◌≤◌, ◌<◌, get_or, set, length, eqb}
use Rattle.paper.specs.Numbers.{max_sites}
use Rattle.classes.specs.Answers.{rep}
use Rattle.classes.specs.Well.{cnt}
use Rattle.paper.specs.declared.Refusal.TheVariants.{Endless}
use Rattle.paper.specs.Answered.{Verdict}
use Rattle.rule_rows.specs.Holding.{Held, chart, site_of, count_of, kid_of, Inside}
use Rattle.rule_classes.specs.Meeting.{Reps}

pub record Edge (H : Held) (p boss : List ℕ) (a b : ℕ) : Type 0 where
  pub root : a < max_sites
  pub there : get_or boss a 0 < max_sites
  pub place : ℕ
  pub in_range : place < count_of H (get_or boss a 0)
  pub to : b ≡ rep p (kid_of H (get_or boss a 0) place)

pub data Path (H : Held) (p boss : List ℕ) : ℕ → ℕ → Type 0 where
  edge : {a b : ℕ} → Edge H p boss a b → Path H p boss a b
  then : {a b d : ℕ} → Edge H p boss a b → Path H p boss b d → Path H p boss a d

-- what the search needs of the classes
pub record Ready (p kids : List ℕ) : Type 0 where
  pub reps : Reps p
  pub inside : Inside kids

-- ---- turns: a class gets its turn after the classes of its children

-- nothing that is reached from a class that had its turn returns
pub record Safe (H : Held) (p boss turned : List ℕ) : Type 0 where
  pub long : length turned ≡ max_sites
  pub none : (z : ℕ) → z < max_sites → (get_or turned z 0 ≡ 0 → ⊥) → Path H p boss z z → ⊥
  pub beyond : (z y : ℕ) → z < max_sites → (get_or turned z 0 ≡ 0 → ⊥) → Path H p boss z y → Path H p boss y y → ⊥

-- the class of the root z had its turn, or has no holder
abbrev pub Over : List ℕ → List ℕ → ℕ → Type 0
Over boss turned z = get_or boss z 0 < max_sites → get_or turned z 0 ≡ 0 → ⊥

-- nothing loses its turn
abbrev pub Keeps : List ℕ → List ℕ → Type 0
Keeps turned turned' = (z : ℕ) → (get_or turned z 0 ≡ 0 → ⊥) → get_or turned' z 0 ≡ 0 → ⊥

-- ---- the search from one class

-- the marked roots are the first tail of queue, and are all reached from l
pub record Visited (H : Held) (p boss : List ℕ) (l : ℕ) (seen queue : List ℕ) (tail : ℕ) : Type 0 where
  pub seen_long : length seen ≡ max_sites
  pub queue_long : length queue ≡ max_sites
  pub room : tail + cnt (λ z. eqb (get_or seen z 0) 0) max_sites ≡ max_sites
  pub sites : (k : ℕ) → k < tail → get_or queue k 0 < max_sites
  pub sound : (k : ℕ) → k < tail → Path H p boss l (get_or queue k 0)
  pub found : (z : ℕ) → z < max_sites → (get_or seen z 0 ≡ 0 → ⊥) → (k : ℕ) × (k < tail) × (get_or queue k 0 ≡ z)

-- one more root
pub data Visit (seen queue : List ℕ) (tail z : ℕ) (seen' queue' : List ℕ) (tail' : ℕ) : Type 0 where
  old : (get_or seen z 0 ≡ 0 → ⊥) → seen' ≡ seen → queue' ≡ queue → tail' ≡ tail → Visit seen queue tail z seen' queue' tail'
  new : get_or seen z 0 ≡ 0 → seen' ≡ set seen z 1 → queue' ≡ set queue tail z → tail' ≡ tail + 1 → Visit seen queue tail z seen' queue' tail'

-- what was marked and listed before still is
pub record Extends (seen queue : List ℕ) (tail : ℕ) (seen' queue' : List ℕ) (tail' : ℕ) : Type 0 where
  pub longer : tail ≤ tail'
  pub listed : (k : ℕ) → k < tail → get_or queue' k 0 ≡ get_or queue k 0
  pub marked : (z : ℕ) → (get_or seen z 0 ≡ 0 → ⊥) → get_or seen' z 0 ≡ 0 → ⊥

-- the edges of x lead to marks
abbrev pub Marks : Held → List ℕ → List ℕ → List ℕ → ℕ → Type 0
Marks H p boss seen x = (y : ℕ) → Edge H p boss x y → get_or seen y 0 ≡ 0 → ⊥

-- the marked roots are among the first tail of queue
pub record Listed (seen queue : List ℕ) (tail : ℕ) : Type 0 where
  pub seen_long : length seen ≡ max_sites
  pub queue_long : length queue ≡ max_sites
  pub few : tail ≤ max_sites
  pub sites : (k : ℕ) → k < tail → get_or queue k 0 < max_sites
  pub found : (z : ℕ) → z < max_sites → (get_or seen z 0 ≡ 0 → ⊥) → (k : ℕ) × (k < tail) × (get_or queue k 0 ≡ z)

-- there is no mark
pub record Fresh (seen queue : List ℕ) : Type 0 where
  pub seen_long : length seen ≡ max_sites
  pub queue_long : length queue ≡ max_sites
  pub clean : (z : ℕ) → z < max_sites → get_or seen z 0 ≡ 0

-- ---- from all of them

-- what one search leaves to the next: in calm are only roots from which no walk returns
pub record Searched (H : Held) (p boss seen queue calm : List ℕ) : Type 0 where
  pub fresh : Fresh seen queue
  pub none : (z : ℕ) → z < max_sites → (get_or calm z 0 ≡ 0 → ⊥) → Path H p boss z z → ⊥

-- a walk from the class of z returns
abbrev pub Returns : Held → List ℕ → List ℕ → ℕ → Type 0
Returns H p boss z = Path H p boss (rep p z) (rep p z)

-- r is a site whose class returns, or max-sites
pub record Told (H : Held) (p boss : List ℕ) (r : ℕ) : Type 0 where
  pub within : r ≤ max_sites
  pub returns : r < max_sites → Returns H p boss r

-- 0 is for itself, so that unused numbers cost nothing
pub record Lower (H : Held) (p boss : List ℕ) (best z r : ℕ) : Type 0 where
  pub told : Told H p boss r
  pub down : r ≤ best
  pub past : (z ≡ 0 → ⊥) → z < r → Returns H p boss z → ⊥

-- of the first i numbers of xs
pub record LowestOf (H : Held) (p boss xs : List ℕ) (i best r : ℕ) : Type 0 where
  pub told : Told H p boss r
  pub down : r ≤ best
  pub past : (k : ℕ) → k < i → (get_or xs k 0 ≡ 0 → ⊥) → get_or xs k 0 < r → Returns H p boss (get_or xs k 0) → ⊥

abbrev pub Among : List ℕ → ℕ → Type 0
Among xs z = (k : ℕ) × (k < length xs) × (get_or xs k 0 ≡ z)

-- what lies past the end of a list is 0
abbrev pub Named : List ℕ → List ℕ → List ℕ → ℕ → Type 0
Named eqs sites kids z = (z ≡ 0) ⊎ (Among eqs z ⊎ (Among sites z ⊎ Among kids z))

-- each site whose class has a holder is named
pub record AllNamed (p boss eqs sites kids : List ℕ) : Type 0 where
  pub named : (z : ℕ) → z < max_sites → get_or boss (rep p z) 0 < max_sites → Named eqs sites kids z

-- r is the lowest site whose class returns; max-sites or more: there is none
pub record Lowest (H : Held) (p boss : List ℕ) (r : ℕ) : Type 0 where
  pub least : (z : ℕ) → z < r → z < max_sites → Path H p boss (rep p z) (rep p z) → ⊥
  pub returns : r < max_sites → Path H p boss (rep p r) (rep p r)

-- what check 6 answers of m holders
abbrev pub Of : Held → Held
Of H = chart H.rows H.words H.kids

pub data WalksIs (H : Held) (p boss : List ℕ) (m : ℕ) : Verdict → Type 0 where
  none_of : ((h : ℕ) → h < m → Path (Of H) p boss (rep p (site_of H h)) (rep p (site_of H h)) → ⊥) → WalksIs H p boss m (Ok tt)
  none_at : ((z : ℕ) → z < max_sites → Path (Of H) p boss (rep p z) (rep p z) → ⊥) → WalksIs H p boss m (Ok tt)
  from : (z : ℕ) → z < max_sites → Lowest (Of H) p boss z → WalksIs H p boss m (Err (Endless z))

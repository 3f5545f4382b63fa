-- Check 4 over the classes of parents p: each holder against the first holder of its class. Then what is told of the whole.
use Rattle.std.specs.declared.result.Result.TheVariants.{Err, Ok}
use Rattle.std.specs.declared.option.Option.TheVariants.{None, Some}
use Rattle.std.specs.Prelude.{◌≡◌, true, false, ◌↔◌, List, ◌++◌, ℕ, ◌≤◌, ◌<◌, get_or, length}
use Rattle.std.proofs.Math.Option.{none}
use Rattle.paper.specs.Answered.{Verdict}
use Rattle.paper.specs.Words.{or_else}
use Rattle.paper.specs.declared.Refusal.TheVariants.{Unknown}
use Rattle.paper.specs.Numbers.{max_sites, refused}
use Rattle.paper.specs.Loading.{Together}
use Rattle.paper.specs.Sites.{same_constraint}
use Rattle.classes.specs.Answers.{rep}
use Rattle.paper.specs.Answered.{Maybe}
use Rattle.rule_rows.specs.Holding.{Held, bare, site_of, shape_of, how_many, holders_in, eqs_in, class_check, stray, checked}
use Rattle.rule_classes.specs.Growing.{One, Rest}

-- representatives of sites are sites, and their own
pub record Reps (p : List ℕ) : Type 0 where
  pub inside : (x : ℕ) → x < max_sites → rep p x < max_sites
  pub again : (x : ℕ) → rep p (rep p x) ≡ rep p x

-- g is the first holder of h's class
pub record FirstOf (H : Held) (p : List ℕ) (g h : ℕ) : Type 0 where
  pub before : g ≤ h
  pub one : One p (site_of H g) (site_of H h)
  pub least : (f : ℕ) → f < g → One p (site_of H f) (site_of H h) → ⊥

pub record Like (H : Held) (p : List ℕ) (h : ℕ) : Type 0 where
  pub boss : ℕ
  pub first : FirstOf H p boss h
  pub same : same_constraint (shape_of H h) (shape_of H boss) ≡ true

pub record Unlike (H : Held) (p : List ℕ) (h g : ℕ) : Type 0 where
  pub first : FirstOf H p g h
  pub differ : same_constraint (shape_of H h) (shape_of H g) ≡ false

-- the first of m holders that differs from the first holder of its class, with that
pub record ClashAt (H : Held) (p : List ℕ) (m s b : ℕ) : Type 0 where
  pub at : ℕ
  pub boss : ℕ
  pub among : at < m
  pub site : site_of H at ≡ s
  pub other : site_of H boss ≡ b
  pub unlike : Unlike H p at boss
  pub likes : (f : ℕ) → f < at → Like H p f

unfoldable pub ClashIs : Held → List ℕ → ℕ → Maybe (ℕ × ℕ) → Type 0
ClashIs H p m (Some (s, b)) = ClashAt H p m s b
ClashIs H p m None = (h : ℕ) → h < m → Like H p h

-- boss has, by root, the first of m holders of each class, max-sites or more where there is none
pub record BossTo (H : Held) (p boss : List ℕ) (m : ℕ) : Type 0 where
  pub long : length boss ≡ max_sites
  pub below : (z : ℕ) → z < max_sites → get_or boss z 0 < max_sites → get_or boss z 0 < m
  pub one : (z : ℕ) → z < max_sites → get_or boss z 0 < max_sites → rep p (site_of H (get_or boss z 0)) ≡ z
  pub least : (z f : ℕ) → z < max_sites → get_or boss z 0 < max_sites → f < get_or boss z 0 → rep p (site_of H f) ≡ z → ⊥
  pub every : (h : ℕ) → h < m → get_or boss (rep p (site_of H h)) 0 < max_sites

-- and its holders are all like it
pub record Seated (H : Held) (p boss : List ℕ) (m : ℕ) : Type 0 where
  pub bosses : BossTo H p boss m
  pub likes : (h : ℕ) → h < m → Like H p h

-- ---- the whole

-- The classes of p are the least equivalence over the written equalities and the holders; boss has, by root, the first holder of each class, and the
-- others are like it.
pub record Classed (eqs : List ℕ) (H : Held) (p boss : List ℕ) : Type 0 where
  pub exact : (u v : ℕ) → One p u v ↔ Together (eqs_in eqs) (holders_in H) u v
  pub reps : Reps p
  pub rest : (h : ℕ) → h < how_many H → Rest H p h
  pub seated : Seated (bare H.sites H.rows H.words) p boss (how_many H)

-- where all numbers are sites
abbrev pub JoinedIs : List ℕ → Held → List ℕ → List ℕ → Verdict → Type 0
JoinedIs eqs H p boss (Ok _) = Classed eqs H p boss
JoinedIs eqs H p boss (Err e) = class_check (eqs_in eqs) (holders_in H) ≡ refused e

-- whether xs has a number that is no site, told by the first of them
abbrev pub Strays : List ℕ → Verdict → Type 0
Strays xs (Ok _) = or_else (stray xs) 0 ≡ 0
Strays xs (Err e) = (a : ℕ) × (a ≡ or_else (stray xs) 0) × (a ≡ 0 → ⊥) × (e ≡ Unknown a)

-- after 2
abbrev pub Grouped : List ℕ → Held → List ℕ → List ℕ → Verdict → Type 0
Grouped eqs H p boss (Ok _) = (stray (eqs ++ (H.sites ++ H.kids)) ≡ none) × Classed eqs H p boss
Grouped eqs H p boss (Err e) = checked eqs H ≡ refused e

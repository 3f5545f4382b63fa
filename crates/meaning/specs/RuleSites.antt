-- Words of demand 3's statements (Demand3.antt), `rule_sites` and `FourOrSix` above all: who reads demand 3 must believe them.
-- The sites that a rule speaks of: the set's, and the children that its constrained sites have got when its items are loaded. (Where an item is
-- refused, the set's: if that is with 4, no values at all meet the items up to there.)
use Rattle.std.specs.Prelude.{◌≡◌, ◌⊎◌, ℕ, ◌<◌, length}
use Rattle.paper.specs.declared.Refusal.{Refusal}
use Rattle.paper.specs.Numbers.{number, Outcome, done, refused}
use Rattle.paper.specs.Sites.{Sites}
use Rattle.paper.specs.Inputs.{Given}
use Rattle.paper.specs.Loading.{Loading, Set, Written, load_items, no_items}

abbrev pub sites_left : Sites → Outcome Loading → Sites
sites_left t (done l) = l.sites
sites_left t (refused x) = t

abbrev pub rule_sites : Set → Written → Sites
rule_sites g r = sites_left g.sites (load_items (no_items g.sites) 0 r.items)

-- the refusals that say that no input matches
abbrev pub FourOrSix : Refusal → Type 0
FourOrSix x = (number x ≡ 4) ⊎ (number x ≡ 6)

-- an outcome that is refused with nothing else
abbrev pub OnlyFourOrSix : Outcome Set → Type 0
OnlyFourOrSix o = (x : Refusal) → o ≡ refused x → FourOrSix x

-- and one that is refused so
abbrev pub RefusedFourOrSix : Outcome Set → Type 0
RefusedFourOrSix o = (x : Refusal) × (o ≡ refused x) × FourOrSix x

-- two inputs have the same values at a table's sites
abbrev pub SameOn : Sites → Given → Given → Type 0
SameOn t at at' = (n : ℕ) → n < length t → at n ≡ at' n

-- The classes as an equivalence: sites with one representative (`rep`: a site of no class stands for itself). What a join and a removal do to it.
use Rattle.std.specs.declared.option.Option.TheVariants.{Some}
use Rattle.std.specs.Prelude.{◌≡◌, List, Bool, true, false, ◌||◌, ◌&&◌, not, ℕ, ◌+◌, ◌<◌, eqb, length}
use Rattle.std.specs.Prelude.{if◌then◌else◌}
use Rattle.paper.specs.Words.{keep, below, has}
use Rattle.paper.specs.Numbers.{max_sites}
use Rattle.paper.specs.Classes.{Classes, Removed, up}
use Rattle.classes.specs.Answers.{rep}
use Rattle.classes.specs.Well.{WellMade, cnt, has_up, in_class, members, rep_of, dropped}

-- how many classes there are, a lone site being one
unfoldable pub class_count : List ℕ → ℕ
class_count p = cnt (λ z. eqb (rep p z) z) max_sites

-- why u and v are in one class after x and y were joined
pub data Only (p : List ℕ) (x y u v : ℕ) : Type 0 where
  before : rep p u ≡ rep p v → Only p x y u v
  forth : rep p u ≡ rep p x → rep p v ≡ rep p y → Only p x y u v
  back : rep p u ≡ rep p y → rep p v ≡ rep p x → Only p x y u v

-- "a join joins exactly the two classes": d is c with x and y joined, which were in two classes or were not
pub record Unites (c d : Classes) (x y : ℕ) (two : Bool) : Type 0 where
  pub well : WellMade d
  pub joins : rep d.parents x ≡ rep d.parents y
  pub grows : (u v : ℕ) → rep c.parents u ≡ rep c.parents v → rep d.parents u ≡ rep d.parents v
  pub only : (u v : ℕ) → rep d.parents u ≡ rep d.parents v → Only c.parents x y u v
  pub entered : (z : ℕ) → z < max_sites → has_up d.parents z ≡ (has_up c.parents z || (eqb z x || eqb z y))
  pub same : two ≡ false → (z : ℕ) → rep d.parents z ≡ rep c.parents z
  pub fewer : two ≡ true → class_count c.parents ≡ class_count d.parents + 1

-- the sites with the root r, ascending
unfoldable pub sites_below : ℕ → List ℕ → ℕ → List ℕ
sites_below k p r = keep (in_class p r) (below k (λ z. z))

-- "removing takes exactly the members and leaves every other class as it was": q is c without the class of the root r
pub record TakesOut (c : Classes) (r : ℕ) (q : Removed) : Type 0 where
  pub well : WellMade q.after
  pub found : (z : ℕ) → rep_of q.after z ≡ dropped r (rep_of c z)
  pub list : q.members ≡ sites_below max_sites c.parents r
  pub size : length q.members ≡ members c.parents r
  pub leaves : (z : ℕ) → z < max_sites → has_up q.after.parents z ≡ (has_up c.parents z && not (has q.members z))
  -- 02 [2]: every site that is still joined hangs directly under its representative
  pub direct : (z s : ℕ) → z < max_sites → rep_of q.after z ≡ Some s → up q.after.parents z ≡ s

-- The parts hold the classes that a function to a member gives: as paper's labels do, by their lowest members.
pub record Holds (p : List ℕ) (f : ℕ → ℕ) : Type 0 where
  pub to : (u v : ℕ) → rep p u ≡ rep p v → f u ≡ f v
  pub from : (u v : ℕ) → f u ≡ f v → rep p u ≡ rep p v

-- the class of the lowest member `low` taken apart
unfoldable pub dissolve_at : (ℕ → ℕ) → ℕ → ℕ → ℕ
dissolve_at f low n = if eqb (f n) low then n else f n

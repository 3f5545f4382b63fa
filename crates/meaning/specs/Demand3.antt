-- Demand 3 of 01, of paper's `load`, for any sound set and any rule as handed over. (Answers.antt has the proofs.)
use Rattle.std.specs.Prelude.{◌≡◌, ◌↔◌, [], ◌∷◌, ◌++◌, ℕ}
use Rattle.std.proofs.Math.Option.{none, some}
use Rattle.paper.specs.declared.Constraint.{Constraint}
use Rattle.paper.specs.Words.{look}
use Rattle.paper.specs.Numbers.{done}
use Rattle.paper.specs.Sites.{Sound, Extends}
use Rattle.paper.specs.Inputs.{Given, Input, Meets, Agree, Matches, MatchesKept}
use Rattle.paper.specs.Loading.{Set, Written, Kept, load}
use Rattle.meaning.specs.RuleSites.{rule_sites, OnlyFourOrSix, RefusedFourOrSix, SameOn}
use Rattle.meaning.specs.Answers as A

-- No finite input, of the set's sites and the children that the rule's items add, matches the rule as written.
-- (Change request [5] puts its inputs in the place of `Input` here, and only here.)
abbrev pub Unmatched : Set → Written → Type 0
Unmatched g r = (at : Given) → Input (rule_sites g r) at → Matches at r.items → ⊥

-- The rule is kept: k is the last rule of the set h that loading it leaves.
pub record Keeps (g : Set) (r : Written) (h : Set) (k : Kept) : Type 0 where
  pub loaded : load g r ≡ done h
  pub last : h.kept ≡ g.kept ++ (k ∷ [])

-- The kept rule holds two sites equal: both have one label.
abbrev pub HoldsEqual : Kept → ℕ → ℕ → Type 0
HoldsEqual k a b = (low : ℕ) × (look k.equals a ≡ some low) × (look k.equals b ≡ some low)

-- 1. Of rules that earn no other refusal: refused 4 or 6 ⇔ no finite input matches the written rule.
pub demand_1 : (g : Set) (r : Written) → Sound g.sites → OnlyFourOrSix (load g r) → RefusedFourOrSix (load g r) ↔ Unmatched g r
demand_1 g r S others = (λ e. A.refused_unmatched g r S e.0 e.1 e.2, λ u. A.unmatched_refused g r S others u)

module _ (g : Set) (r : Written) (h : Set) (k : Kept) (S : Sound g.sites) (K : Keeps g r h k) where
  -- 2. A kept rule matches exactly the inputs that the written rule matches; old sites stay, and an input of them is one of the new set's with its values.
  pub demand_2 : (at : Given) → Input h.sites at → Matches at r.items ↔ MatchesKept at k
  demand_2 = A.same g r S h k K.loaded K.last

  pub demand_2_old : Extends g.sites (rule_sites g r) × Extends (rule_sites g r) h.sites ×
      ((at : Given) → Input (rule_sites g r) at → (at' : Given) × Input h.sites at' × SameOn (rule_sites g r) at at')
  demand_2_old = A.grown g r S h k K.loaded K.last

  -- 3. A kept rule constrains a site by c ⇔ every matching input has shape c there: for every site, named or not.
  pub demand_3 : (n : ℕ) (c : Constraint) → (look k.constraints n ≡ some c) ↔ ((at : Given) → Input h.sites at → Matches at r.items → Meets at n c)
  demand_3 = A.shapes g r S h k K.loaded K.last

  -- 4. A kept rule holds two different unconstrained sites equal ⇔ every matching input gives both a value, and the same one.
  pub demand_4 : (a b : ℕ) → (a ≡ b → ⊥) → look k.constraints a ≡ none → look k.constraints b ≡ none →
      HoldsEqual k a b ↔ ((at : Given) → Input h.sites at → Matches at r.items → Agree at a b)
  demand_4 = A.equals g r S h k K.loaded K.last

-- 01, "Two rules, many rules": what the comparison of two kept rules of a set means. (Pairs.antt has the proofs.)
use Rattle.std.specs.Prelude.{◌≡◌, true, ◌↔◌, ◌⊎◌, ℕ, ◌≤◌, ◌<◌, length}
use Rattle.std.proofs.Math.Option.{none, some}
use Rattle.std.proofs.Common.{inl, inr, arith}
use mathlib.Core.List.{List, Memᴰ}
use borrow.Author.Tests.{le-leb, lt-leb}
use Rattle.paper.specs.declared.Overlap.TheVariants.{No, Subset}
use Rattle.paper.specs.declared.Constraint.{Constraint}
use Rattle.paper.specs.Words.{look}
use Rattle.paper.specs.Inputs.{Given, Input, Meets, Agree, MatchesKept}
use Rattle.paper.specs.Loading.{Set, Kept, Made}
use Rattle.paper.specs.Rules.{no_equals, compare_with, may_overlap, rank, masks}
use Rattle.paper.proofs.Making.{made_sound}
use Rattle.meaning.specs.Demand3.{HoldsEqual}
use Rattle.meaning.specs.Pairs.{made_stands, stands_matched, stands_shape, stands_equal, overlap_no, Common, overlap_either, compare_subset, subset_compare, masks_covers}

-- Each kept rule of a set, however the set grew since: it has a matching input, and says all that its inputs have in common.
module _ (g : Set) (M : Made g) (k : Kept) (in_k : Memᴰ k g.kept) where
  pub has_input : (at : Given) × Input g.sites at × MatchesKept at k
  has_input = stands_matched g.sites (made_sound M) k (made_stands M k in_k)

  pub forces_shape : (n : ℕ) (c : Constraint) → (look k.constraints n ≡ some c) ↔ ((at : Given) → Input g.sites at → MatchesKept at k → Meets at n c)
  forces_shape = stands_shape g.sites (made_sound M) k (made_stands M k in_k)

  pub forces_equal : (a b : ℕ) → (a ≡ b → ⊥) → look k.constraints a ≡ none → look k.constraints b ≡ none →
      HoldsEqual k a b ↔ ((at : Given) → Input g.sites at → MatchesKept at k → Agree at a b)
  forces_equal = stands_equal g.sites (made_sound M) k (made_stands M k in_k)

module _ (g : Set) (M : Made g) (a b : Kept) (in-a : Memᴰ a g.kept) (in_b : Memᴰ b g.kept) where
  -- "No means no input matches both"
  pub no_means : may_overlap a b ≡ No → (at : Given) → MatchesKept at a → MatchesKept at b → ⊥
  no_means = overlap_no g.sites a b (made_stands M a in-a) (made_stands M b in_b)

  -- "if neither has equalities, No holds exactly then"
  pub no_exactly : no_equals a.equals ≡ true → no_equals b.equals ≡ true →
      (may_overlap a b ≡ No) ↔ ((at : Given) → Input g.sites at → MatchesKept at a → MatchesKept at b → ⊥)
  no_exactly na nb = (λ e at I. no_means e at, λ h. go h (overlap_either g.sites (made_sound M) a b (made_stands M a in-a) (made_stands M b in_b) na nb))
    where
      go : ((at : Given) → Input g.sites at → MatchesKept at a → MatchesKept at b → ⊥) → (may_overlap a b ≡ No) ⊎ Common g.sites a b →
          may_overlap a b ≡ No
      go h (inl e) = e
      go h (inr c) = absurd (h c.0 c.1 c.2 c.3)

  -- and where the answer is another, some input does match both
  pub else_common : no_equals a.equals ≡ true → no_equals b.equals ≡ true → (may_overlap a b ≡ No → ⊥) →
      (at : Given) × Input g.sites at × MatchesKept at a × MatchesKept at b
  else_common na nb d = go (overlap_either g.sites (made_sound M) a b (made_stands M a in-a) (made_stands M b in_b) na nb)
    where
      go : (may_overlap a b ≡ No) ⊎ Common g.sites a b → Common g.sites a b
      go (inl e) = absurd (d e)
      go (inr c) = c

  smaller_exactly : no_equals a.equals ≡ true → no_equals b.equals ≡ true →
      (compare_with a b ≡ Subset) ↔ ((at : Given) → Input g.sites at → MatchesKept at b → MatchesKept at a)
  smaller_exactly na nb = (λ e at I. compare_subset a b e at, subset_compare g.sites (made_sound M) a b (made_stands M a in-a) (made_stands M b in_b) na nb)

  -- "and subset exactly when the larger's inputs all match the smaller": a is the smaller, and stands first or second
  pub subset_exactly : no_equals a.equals ≡ true → no_equals b.equals ≡ true → length a.constraints ≤ length b.constraints →
      (may_overlap a b ≡ Subset) ↔ ((at : Given) → Input g.sites at → MatchesKept at b → MatchesKept at a)
  unfolding may_overlap
  subset_exactly na nb l = let q = le-leb (length a.constraints) (length b.constraints) l in rw q (smaller_exactly na nb)

  pub subset_exactly_second : no_equals a.equals ≡ true → no_equals b.equals ≡ true → length a.constraints < length b.constraints →
      (may_overlap b a ≡ Subset) ↔ ((at : Given) → Input g.sites at → MatchesKept at b → MatchesKept at a)
  unfolding may_overlap
  subset_exactly_second na nb l = let q = lt-leb (length b.constraints) (length a.constraints) l in rw q (smaller_exactly na nb)

-- The rule that answers an input: it matches, and no matching rule of the set has a higher priority.
abbrev pub Answers : List Kept → Given → Kept → Type 0
Answers ks at k = MatchesKept at k × ((j : Kept) → Memᴰ j ks → MatchesKept at j → rank j.priority ≤ rank k.priority)

-- A masked rule is never the one that answers, for any input, while its mask stands in the set.
pub masked_silent : (ks : List Kept) (a b : Kept) → Memᴰ a ks → masks a b ≡ true → (at : Given) → Answers ks at b → ⊥
masked_silent ks a b m e at w =
    let c = masks_covers a b e in
    let h = w.1 a m (c.1 at w.0) in
    let l = c.0 in
    omega arith

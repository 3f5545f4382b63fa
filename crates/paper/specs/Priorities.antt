-- Change request [11], "Propose priorities, and check them": what a proposal must do, the first bad pair, and the pairs that a proposal mends.
use Rattle.std.specs.Prelude.{◌≡◌, true, false, ◌⊎◌, ℕ, ◌≤◌, ◌<◌, ◌^◌, length, get_or}
use mathlib.Core.List.{List, map, Memᴰ}
use Rattle.paper.specs.declared.Break.{Break}
use Rattle.paper.specs.declared.Break.TheVariants.{Edge, Mask, Order}
use Rattle.paper.specs.Words.{zip}
use Rattle.paper.specs.Loading.{Kept, Set}
use Rattle.paper.specs.Rules.{rank, edge, masks, no_rule, is_multi}

-- "proposes a priority for every rule of a set": a list of priorities, in rule order, each as its eight bytes. Of 64 bits are these:
abbrev pub Proposable : List ℕ → Type 0
Proposable p = (x : ℕ) → Memᴰ x p → x < 2 ^ 64

-- "the set under the proposed priorities"
unfoldable pub with_priority : Kept → ℕ → Kept
with_priority k x = record { place = k.place; priority = x; constraints = k.constraints; equals = k.equals }

unfoldable pub proposed : Set → List ℕ → Set
proposed g p = record {
  term = g.term;
  flags = g.flags;
  sites = g.sites;
  kept = map (λ x. with_priority x.0 x.1) (zip g.kept p);
}

-- the "old priorities"
unfoldable pub old_priorities : Set → List ℕ
old_priorities g = map (λ k. k.priority) g.kept

-- rule i of a set, in rule order from 0, and its priority as a number that keeps the order
unfoldable pub rule : Set → ℕ → Kept
rule g i = get_or g.kept i no_rule

unfoldable pub level : Set → ℕ → ℕ
level g i = rank (rule g i).priority

-- "no overlap edge". "Multi terms are accepted whenever the old order is kept."
abbrev pub NoEdge : Set → Type 0
NoEdge h = is_multi h.flags ≡ false → (i j : ℕ) → i < j → j < length h.kept → edge (rule h i) (rule h j) ≡ false

-- "and no mask"
abbrev pub NoMask : Set → Type 0
NoMask h = is_multi h.flags ≡ false → (i j : ℕ) → i < length h.kept → j < length h.kept → masks (rule h i) (rule h j) ≡ false

-- "and every pair of rules whose old priorities differed keeps its order": a lower rule stays lower. Of a set g, and of h under the proposed ones.
abbrev pub KeepsOrder : Set → Set → Type 0
KeepsOrder g h = (i j : ℕ) → i < length g.kept → j < length g.kept → level g i < level g j → level h i < level h j

-- "The check accepts exactly when the set under the proposed priorities has no overlap edge and no mask, and every pair of rules whose old priorities
-- differed keeps its order." "A proposal whose length is not the number of rules is refused with 23."
pub record Passes (g : Set) (p : List ℕ) : Type 0 where
  pub right_length : length p ≡ length g.kept
  pub no_edge : NoEdge (proposed g p)
  pub no_mask : NoMask (proposed g p)
  pub keeps_order : KeepsOrder g (proposed g p)

abbrev pub wrong_length : ℕ
wrong_length = 23

-- "which of the three it breaks": what two rules of h, the set under the proposed priorities, break
abbrev pub Breaks : Set → Set → Break → ℕ → ℕ → Type 0
Breaks g h Edge i j = (is_multi h.flags ≡ false) × (edge (rule h i) (rule h j) ≡ true)
Breaks g h Mask i j = (is_multi h.flags ≡ false) × ((masks (rule h i) (rule h j) ≡ true) ⊎ (masks (rule h j) (rule h i) ≡ true))
Breaks g h Order i j = ((level g i < level g j) × (level h j ≤ level h i)) ⊎ ((level g j < level g i) × (level h i ≤ level h j))

-- "in that order"
abbrev pub nth : Break → ℕ
nth Edge = 0
nth Mask = 1
nth Order = 2

-- "Otherwise it names the first bad pair in rule order and which of the three it breaks, in that order.": by the earlier rule, then by the later; and
-- the first of the three that this pair breaks
pub record FirstBad (g h : Set) (b : Break) (i j : ℕ) : Type 0 where
  pub in_order : i < j
  pub inside : j < length g.kept
  pub breaks : Breaks g h b i j
  pub first_break : (c : Break) → nth c < nth b → Breaks g h c i j → ⊥
  pub first_pair : (x y : ℕ) → x < y → y < length g.kept → (x < i) ⊎ ((x ≡ i) × (y < j)) → (c : Break) → Breaks g h c x y → ⊥

-- A proposal mends two rules: they break none of the three. "says that there is none": told are the pairs that no proposal mends.
abbrev pub Mends : Set → List ℕ → ℕ → ℕ → Type 0
Mends g p i j = (length p ≡ length g.kept) × ((b : Break) → Breaks g (proposed g p) b i j → ⊥)

unfoldable pub all_priorities : Unit {0}
unfolding with_priority proposed old_priorities rule level
all_priorities = tt

-- What follows from demand 3 at once.
use Rattle.std.specs.Prelude.{◌≡◌, refl, ◌↔◌, ◌⊎◌, ℕ, ◌<◌, length}
use Rattle.std.proofs.Common.{sym, ◌∙◌, inl, inr}
use Rattle.std.proofs.Math.Option.{none, some}
use mathlib.Core.List.{List, Memᴰ}
use Rattle.paper.specs.declared.Constraint.{Constraint}
use Rattle.paper.specs.declared.Item.{Item}
use Rattle.paper.specs.declared.Item.TheVariants.{Is, Equal}
use Rattle.paper.specs.declared.Refusal.{Refusal}
use Rattle.paper.specs.Words.{look}
use Rattle.paper.specs.Numbers.{Outcome, done, refused}
use Rattle.paper.specs.Sites.{Sites, Sound, Extends}
use Rattle.paper.specs.Inputs.{Given, Input, Meets, Agree, MeetsItem, Matches, MatchesKept}
use Rattle.paper.specs.Loading.{Set, Written, Kept, load}
use Rattle.paper.proofs.Making.{load_sound}
use Rattle.meaning.specs.Grow.{input_part, input_more}
use Rattle.meaning.specs.RuleSites.{rule_sites, FourOrSix, OnlyFourOrSix, SameOn}
use Rattle.meaning.specs.Answers as A
use Rattle.meaning.specs.Demand3.{Keeps, HoldsEqual, demand_2, demand_2_old}

-- A kept rule has a matching input.
pub kept_matched : (g : Set) (r : Written) (h : Set) (k : Kept) → Sound g.sites → Keeps g r h k → (at : Given) × Input h.sites at × Matches at r.items
kept_matched g r h k S K = A.matched g r S h k K.loaded K.last

-- A rule refused 4 or 6 has none, in its sites and in every table that extends them.
pub refused_unmatched : (g : Set) (r : Written) (x : Refusal) → Sound g.sites → load g r ≡ refused x → FourOrSix x →
    (t : Sites) → Extends (rule_sites g r) t → (at : Given) → Input t at → Matches at r.items → ⊥
refused_unmatched g r x S e u t more at I M = A.refused_unmatched g r S x e u at (input_part (rule_sites g r) t at more I) M

-- An input of the rule's sites matches the written rule exactly if an input of the set, with its values there, matches the kept rule.
pub same_on_old : (g : Set) (r : Written) (h : Set) (k : Kept) → Sound g.sites → Keeps g r h k →
    (at at' : Given) → Input h.sites at' → SameOn (rule_sites g r) at at' → Matches at r.items ↔ MatchesKept at' k
same_on_old g r h k S K at at' I same =
    let w = demand_2 g r h k S K at' I in (
      λ M. w.0 (A.same_on_old g r S h k K.loaded K.last at at' same M),
      λ M. A.same_on_old g r S h k K.loaded K.last at' at (λ n l. sym (same n l)) (w.1 M),
    )

-- Every loaded rule is kept as some k, with the place and the priority as handed over.
pub loaded_keeps : (g : Set) (r : Written) (h : Set) → load g r ≡ done h → (k : Kept) × Keeps g r h k × (k.place ≡ r.place) × (k.priority ≡ r.priority)
loaded_keeps g r h e = let w = A.last_kept g r h e in (w.0, record { loaded = e; last = w.1 }, w.2, w.3)

-- A matched rule is kept, unless it earns another refusal.
pub matched_kept : (g : Set) (r : Written) → Sound g.sites → OnlyFourOrSix (load g r) →
    (at : Given) → Input (rule_sites g r) at → Matches at r.items → (h : Set) × (load g r ≡ done h)
matched_kept g r S others at I M = go (load g r) refl
  where
    go : (o : Outcome Set) → load g r ≡ o → (h : Set) × (load g r ≡ done h)
    go (done h) e = (h, e)
    go (refused x) e = absurd (A.refused_unmatched g r S x e (others x e) at I M)

-- ---- the same rule in a set that grew

abbrev pub Names : Item → ℕ → Type 0
Names (Is s c) n = s ≡ n
Names (Equal a b) n = (a ≡ n) ⊎ (b ≡ n)

-- all sites that the items name are a table's
abbrev pub NamesIn : List Item → Sites → Type 0
NamesIn items t = (i : Item) → Memᴰ i items → (n : ℕ) → Names i n → n < length t

named_same : (i : Item) (at at' : Given) → ((n : ℕ) → Names i n → at n ≡ at' n) → MeetsItem at i → MeetsItem at' i
named_same (Is s c) at at' f M = record { value = M.value; there = sym (f s refl) ∙ M.there; shaped = M.shaped }
named_same (Equal a b) at at' f M = record { value = M.value; one = sym (f a (inl refl)) ∙ M.one; other = sym (f b (inr refl)) ∙ M.other }

-- what a rule matches hangs on the sites that it names
pub matches_same : (items : List Item) (at at' : Given) → ((i : Item) → Memᴰ i items → (n : ℕ) → Names i n → at n ≡ at' n) → Matches at items →
    Matches at' items
matches_same items at at' f M i m = named_same i at at' (f i m) (M i m)

module _ (g g' : Set) (r r' : Written) (h h' : Set) (k k' : Kept) (S : Sound g.sites) (S' : Sound g'.sites) (K : Keeps g r h k) (K' : Keeps g' r' h' k')
    (one-rule : r'.items ≡ r.items) (grew : Extends g.sites g'.sites) (old : NamesIn r.items g.sites) where
  in_h : Extends g.sites h.sites
  in_h i s e = let w = demand_2_old g r h k S K in w.1 i s (w.0 i s e)

  in_h' : Extends g.sites h'.sites
  in_h' i s e = let w = demand_2_old g' r' h' k' S' K' in w.1 i s (w.0 i s (grew i s e))

  across : (at at' : Given) → SameOn g.sites at at' → Matches at r.items → Matches at' r.items
  across at at' same M = matches_same r.items at at' (λ i m n q. same n (old i m n q)) M

  -- inputs that agree on the old sites match both or neither
  pub grew_inputs : (at at' : Given) → Input h.sites at → Input h'.sites at' → SameOn g.sites at at' → MatchesKept at k ↔ MatchesKept at' k'
  grew_inputs at at' I I' same =
      let x = demand_2 g r h k S K at I in
      let y : Matches at' r.items ↔ MatchesKept at' k' = rw (one-rule) at (demand_2 g' r' h' k' S' K' at' I') in
      (λ M. y.0 (across at at' same (x.1 M)), λ M. x.0 (across at' at (λ n l. sym (same n l)) (y.1 M)))

  from_h : (at : Given) → Input h.sites at → (at' : Given) × Input h'.sites at' × SameOn g.sites at at'
  from_h at I = input_more g.sites h'.sites at S (load_sound g' r' h' S' K'.loaded) in_h' (input_part g.sites h.sites at in_h I)

  from_h' : (at' : Given) → Input h'.sites at' → (at : Given) × Input h.sites at × SameOn g.sites at' at
  from_h' at' I = input_more g.sites h.sites at' S (load_sound g r h S K.loaded) in_h (input_part g.sites h'.sites at' in_h' I)

  -- and an old site has the same constraint in both
  pub grew_constraints : (n : ℕ) (c : Constraint) → n < length g.sites → (look k.constraints n ≡ some c) ↔ (look k'.constraints n ≡ some c)
  grew_constraints n c inside =
      let x = A.shapes g r S h k K.loaded K.last n c in
      let y : (look k'.constraints n ≡ some c) ↔ ((at : Given) → Input h'.sites at → Matches at r.items → Meets at n c) =
      rw one-rule at (A.shapes g' r' S' h' k' K'.loaded K'.last n c) in (
        λ e. y.1 (λ at' I M.
            let w = from_h' at' I in
            moved w.0 at' (sym (w.2 n inside)) (x.0 e w.0 w.1 (across at' w.0 w.2 M))),
        λ e. x.1 (λ at I M.
            let w = from_h at I in
            moved w.0 at (sym (w.2 n inside)) (y.0 e w.0 w.1 (across at w.0 w.2 M))),
      )
    where
      moved : (at at' : Given) → at n ≡ at' n → Meets at n c → Meets at' n c
      moved at at' e M = record { value = M.value; there = sym e ∙ M.there; shaped = M.shaped }

  -- and two old sites are held equal in both or in neither
  pub grew_equal : (a b : ℕ) → a < length g.sites → b < length g.sites → (a ≡ b → ⊥) → look k.constraints a ≡ none → look k.constraints b ≡ none →
      look k'.constraints a ≡ none → look k'.constraints b ≡ none →
      HoldsEqual k a b ↔ HoldsEqual k' a b
  grew_equal a b la lb d p q p' q' =
      let x = A.equals g r S h k K.loaded K.last a b d p q in
      let y : HoldsEqual k' a b ↔ ((at : Given) → Input h'.sites at → Matches at r.items → Agree at a b) =
      rw one-rule at (A.equals g' r' S' h' k' K'.loaded K'.last a b d p' q') in (
        λ e. y.1 (λ at' I M.
            let w = from_h' at' I in
            moved w.0 at' (sym (w.2 a la)) (sym (w.2 b lb)) (x.0 e w.0 w.1 (across at' w.0 w.2 M))),
        λ e. x.1 (λ at I M.
            let w = from_h at I in
            moved w.0 at (sym (w.2 a la)) (sym (w.2 b lb)) (y.0 e w.0 w.1 (across at w.0 w.2 M))),
      )
    where
      moved : (at at' : Given) → at a ≡ at' a → at b ≡ at' b → Agree at a b → Agree at' a b
      moved at at' e f M = record { value = M.value; one = sym e ∙ M.one; other = sym f ∙ M.other }

-- A rule that one set keeps is refused neither with 4 nor with 6 by another that has the sites that it names: grown from it, or smaller.
pub kept_clear : (t : Sites) (g g' : Set) (r r' : Written) (h : Set) (k : Kept) → Sound t → Sound g.sites → Sound g'.sites →
    Extends t g.sites → Extends t g'.sites → r'.items ≡ r.items → NamesIn r.items t →
    Keeps g r h k → (x : Refusal) → load g' r' ≡ refused x → FourOrSix x → ⊥
kept_clear t g g' r r' h k T S S' in_g in-g' one-rule old K x e u =
    let m = kept_matched g r h k S K in
    let w = demand_2_old g r h k S K in
    let v = A.its_grow g' r' S' in
    let y = input_more t (rule_sites g' r') m.0 T v.1 (λ i s q. v.0 i s (in-g' i s q))
    (input_part t h.sites m.0 (λ i s q. w.1 i s (w.0 i s (in_g i s q))) m.1) in
    let M : Matches y.0 r.items = matches_same r.items m.0 y.0 (λ i q n p. y.2 n (old i q n p)) m.2 in
    A.refused_unmatched g' r' S' x e u y.0 y.1 (over y.0 M)
  where
    over : (at : Given) → Matches at r.items → Matches at r'.items
    over at M = rw one-rule M

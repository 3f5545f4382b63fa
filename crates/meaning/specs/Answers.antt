-- What paper's `load` answers means: the proofs of Demand3.antt.
use Rattle.std.specs.Prelude.{◌≡◌, refl, not, ◌↔◌, ℕ, suc, length, leb, ltb}
use Rattle.std.proofs.Common.{sym, ap, ◌∙◌}
use Rattle.std.proofs.Math.Option.{none, some}
use mathlib.Core.List.{List, [], ◌∷◌, ◌++◌, Memᴰ}
use Rattle.std.proofs.Math.Decide.{ℕ_discrete}
use Rattle.paper.specs.declared.Constraint.{Constraint}
use Rattle.paper.specs.declared.Item.{Item}
use Rattle.paper.specs.declared.Item.TheVariants.{Is, Equal}
use Rattle.paper.specs.declared.Refusal.{Refusal}
use Rattle.paper.specs.declared.Refusal.TheVariants.{TooManyRules, TooManyItems, PlaceUsed}
use Rattle.paper.specs.Words.{look}
use Rattle.paper.specs.Numbers.{max_rules, max_items, number, Outcome, done, refused}
use Rattle.paper.specs.Sites.{Sites, child_number, Sound, Extends}
use Rattle.paper.specs.Inputs.{Given, Input, Meets, Agree, MeetsItem, Matches, MatchesKept}
use Rattle.paper.specs.Loading.{Loading, Solving, Set, Written, Kept, started, lowest, load_items, normalise, with_rule, used, load, no_items}
use Rattle.paper.proofs.Tables.{Rising, lowest_is}
use Rattle.paper.proofs.Fair.{load_fair}
use Rattle.paper.proofs.Making.{load_done}
use Rattle.meaning.specs.Kinds.{kind_in, Fulfils, input_is, Held}
use Rattle.meaning.specs.Model.{Solved}
use Rattle.meaning.specs.Places.{child_kind}
use Rattle.meaning.specs.Whole as H
use Rattle.meaning.specs.Grow.{Full, full_of, input_part, input_more}
use Rattle.meaning.specs.Joining.{Well, label_of}
use Rattle.meaning.specs.Items.{begin_part, Went, load_part, items_clear}
use Rattle.meaning.specs.RuleSites.{sites_left, rule_sites, FourOrSix, OnlyFourOrSix, RefusedFourOrSix, SameOn}
use Rattle.meaning.specs.Clear.{Clear, clear_done, clear_demand, clear_then}
use Rattle.meaning.specs.Loads.{normalise_clear, ran, kept}
use Rattle.meaning.specs.Rounds.{Ran}

-- ---- a matched rule is not refused with 4 or 6

load_clear : (g : Set) (r : Written) (at : Given) → Sound g.sites →
    ((l : Loading) → load_items (no_items g.sites) 0 r.items ≡ done l → Input l.sites at) → Matches at r.items → Clear (load g r)
unfolding load number
load_clear g r at S I M =
    clear_demand (ltb (length g.kept) max_rules) (TooManyRules (suc (length g.kept))) _ refl
    (clear_demand (leb r.count max_items) (TooManyItems r.count) _ refl
    (clear_demand (not (used g r.place)) (PlaceUsed r.place) _ refl
    (clear_then (load_items (no_items g.sites) 0 r.items) _ (items_clear [] r.items (no_items g.sites) 0 at (begin_part g.sites S) M) (λ l e.
    clear_then (normalise l r.count) _ (normalise_clear r.items l r.count at
    (load_part [] r.items (no_items g.sites) l 0 (begin_part g.sites S) e).part (I l e) M) (λ s e.
    clear_done (with_rule g r s))))))

-- ---- a rule that is kept

last_same : {A : Type 0} (xs : List A) (a b : A) → xs ++ (a ∷ []) ≡ xs ++ (b ∷ []) → a ≡ b
last_same [] a b e = cc
last_same (x ∷ xs) a b e = last_same xs a b (let q : x ∷ (xs ++ (a ∷ [])) ≡ x ∷ (xs ++ (b ∷ [])) = e in cc)

-- a kept rule, as labels and as classes
pub fulfils_kept : (k : Kept) → Well k.equals → (at : Given) → MatchesKept at k ↔ Fulfils at (look k.constraints) (Held (lowest k.equals))
fulfils_kept k W at = (
  λ M. record {
    meets = M.meets;
    agrees = λ a b h. M.agrees a b (lowest k.equals a) (label_of k.equals W a b h.same h.two)
        (label_of k.equals W b a (sym h.same) (λ e. h.two (sym e)) ∙ ap some (sym h.same));
  },
  λ F. record { meets = F.meets; agrees = λ a b low p q. agrees F a b low p q (ℕ_discrete a b) },
)
  where
    agrees : Fulfils at (look k.constraints) (Held (lowest k.equals)) → (a b low : ℕ) → look k.equals a ≡ some low → look k.equals b ≡ some low →
        Dec (a ≡ b) → Agree at a b
    agrees F a b low p q (no d) = F.agrees a b (record { same = lowest_is k.equals a low p ∙ sym (lowest_is k.equals b low q); two = d })
    agrees F a b low p q (yes e) =
        let m = W.mate a low p in
        let g = F.agrees a m.0 (record { same = sym m.2; two = λ z. m.1 (sym z) }) in
        rw (← e) (record { value = g.value; one = g.one; other = g.one })

-- a solved form: the children of its constrained sites are sites, what it names is rooted, and no class holds a constrained site
pub record Stands (t : Sites) (k : Kept) : Type 0 where
  pub rising : Rising 0 k.constraints
  pub well : Well k.equals
  pub full : Full t (look k.constraints) (lowest k.equals)
  pub free : (a b : ℕ) → lowest k.equals a ≡ lowest k.equals b → (a ≡ b → ⊥) → look k.constraints a ≡ none

pub form : (t : Sites) (k : Kept) → Stands t k → Solved (kind_in t) (look k.constraints) (child_number t) (lowest k.equals)
form t k W = record {
  kids = λ n c i e l. child_kind t n c i (W.full.has n c i e l);
  rooted = W.full.rooted;
  joined_rooted = W.full.joined_rooted;
  joined_free = W.free;
}

-- how a rule came to be kept: what its items left, and what the rounds made of it
pub record Came (g : Set) (r : Written) (h : Set) (k : Kept) (l : Loading) (f : Solving) : Type 0 where
  pub items : load_items (no_items g.sites) 0 r.items ≡ done l
  pub normalised : normalise l r.count ≡ done f
  pub sites_are : h.sites ≡ f.sites
  pub constraints_are : k.constraints ≡ f.constraints
  pub equals_are : k.equals ≡ f.classes

came : (g : Set) (r : Written) (h : Set) (k : Kept) → load g r ≡ done h → h.kept ≡ g.kept ++ (k ∷ []) → (l : Loading) × (f : Solving) × Came g r h k l f
unfolding with_rule
came g r h k e last =
    let L = load_done g r h e in
    let q = L.after in
    let K : Kept = record { place = r.place; priority = r.priority; constraints = L.solved.constraints; equals = L.solved.classes } in
    let z : g.kept ++ (k ∷ []) ≡ g.kept ++ (K ∷ []) = sym last ∙ ap (λ (x : Set). x.kept) q in
    let w : k ≡ K = last_same g.kept k K z in (
      L.loading,
      L.solved,
      record {
        items = L.items;
        normalised = L.normalised;
        sites_are = ap (λ (x : Set). x.sites) q;
        constraints_are = ap (λ (x : Kept). x.constraints) w;
        equals_are = ap (λ (x : Kept). x.equals) w;
      },
    )

pub last_kept : (g : Set) (r : Written) (h : Set) → load g r ≡ done h →
    (k : Kept) × (h.kept ≡ g.kept ++ (k ∷ [])) × (k.place ≡ r.place) × (k.priority ≡ r.priority)
unfolding with_rule
last_kept g r h e =
    let L = load_done g r h e in (
      record { place = r.place; priority = r.priority; constraints = L.solved.constraints; equals = L.solved.classes },
      ap (λ (x : Set). x.kept) L.after,
      refl,
      refl,
    )

module _ (g : Set) (r : Written) (h : Set) (k : Kept) (S : Sound g.sites) (l : Loading) (f : Solving) (E : Came g r h k l f) where
  went : Went r.items (no_items g.sites) l
  went = load_part [] r.items (no_items g.sites) l 0 (begin_part g.sites S) E.items

  K : H.Kept (kind_in f.sites) (length f.sites) (child_number f.sites) r.items (look f.constraints) (lowest f.classes)
  K = kept r.items l went.part r.count f (load_fair g.sites 0 r.items l S E.items) E.normalised

  R : Ran (started l) f
  R = ran r.items l went.part r.count f (load_fair g.sites 0 r.items l S E.items) E.normalised

  pub well : Well k.equals
  well = rw E.equals_are R.well

  pub sound_after : Sound h.sites
  sound_after = rw E.sites_are R.fair.sites

  pub items_grow : Extends g.sites l.sites
  items_grow = went.extends

  pub rounds_grow : Extends l.sites h.sites
  rounds_grow = rw E.sites_are R.extends

  -- what the items ask hangs on their own sites
  named_inside : (i : Item) → Memᴰ i r.items → (at at' : Given) → SameOn l.sites at at' → MeetsItem at i → MeetsItem at' i
  named_inside (Is n c) m at at' same M =
      let P = went.part in
      let e = P.con_of n c m in
      let q = same n (P.known n (P.named_con n c e)) in
      record { value = M.value; there = sym q ∙ M.there; shaped = M.shaped }
  named_inside (Equal a b) m at at' same M =
      let P = went.part in
      let w = P.named_eq a b (P.eq_of a b m) in
      let p = same a (P.known a w.0) in
      let q = same b (P.known b w.1) in
      record { value = M.value; one = sym p ∙ M.one; other = sym q ∙ M.other }

  pub items_inside : (at at' : Given) → SameOn l.sites at at' → Matches at r.items → Matches at' r.items
  items_inside at at' same M i m = named_inside i m at at' same (M i m)

  pub grow_input : (at : Given) → Input l.sites at → (at' : Given) × Input h.sites at' × SameOn l.sites at at'
  grow_input at I = input_more l.sites h.sites at went.part.sound sound_after rounds_grow I

  pub same_inputs : (at : Given) → Input h.sites at → Matches at r.items ↔ MatchesKept at k
  same_inputs at I =
      let w = H.kept_same K at ((input_is f.sites at).0 (rw E.sites_are at I)) in
      let v = fulfils_kept k well at in
      (λ M. v.1 (rw (E.constraints_are, E.equals_are) (w.0 M)), λ M. w.1 (rw (E.constraints_are, E.equals_are) at (v.0 M)))

  pub forced_shape : (n : ℕ) (c : Constraint) → (look k.constraints n ≡ some c) ↔ ((at : Given) → Input h.sites at → Matches at r.items → Meets at n c)
  forced_shape n c =
      let w = H.kept_shape K n c in (
        λ e at I M. ((same_inputs at I).0 M).meets n c e,
        λ F. ap (λ t. look t n) E.constraints_are ∙ w.1 (λ at I M. F at (rw E.sites_are ((input_is f.sites at).1 I)) M),
      )

  pub forced_equal : (a b : ℕ) → (a ≡ b → ⊥) → look k.constraints a ≡ none → look k.constraints b ≡ none →
      ((low : ℕ) × (look k.equals a ≡ some low) × (look k.equals b ≡ some low)) ↔
      ((at : Given) → Input h.sites at → Matches at r.items → Agree at a b)
  forced_equal a b d p q =
      let w = H.kept_equal K a b d (rw E.constraints_are at p) (rw E.constraints_are at q) in (
        λ e at I M. ((same_inputs at I).0 M).agrees a b e.0 e.1 e.2,
        λ F. held (w.1 (λ at I M. F at (rw E.sites_are ((input_is f.sites at).1 I)) M)),
      )
    where
      held : Held (lowest f.classes) a b → (low : ℕ) × (look k.equals a ≡ some low) × (look k.equals b ≡ some low)
      held e =
          let s : lowest k.equals a ≡ lowest k.equals b = rw E.equals_are e.same in
          (lowest k.equals a, label_of k.equals well a b s d, label_of k.equals well b a (sym s) (λ z. d (sym z)) ∙ ap some (sym s))

  pub has_input : (at : Given) × Input h.sites at × Matches at r.items
  has_input =
      let m = H.kept_matched K in
      (m.0, put_in m.0 ((input_is f.sites m.0).1 m.1), m.2)
    where
      put_in : (at : Given) → Input f.sites at → Input h.sites at
      put_in at I = rw E.sites_are I

  -- and the kept rule is a solved form
  pub stands : Stands h.sites k
  stands =
      let solved = H.solved K in
      record {
        rising = rw E.constraints_are R.fair.ascending;
        well = well;
        full = rw (E.sites_are, E.constraints_are, E.equals_are)
            (full_of f.sites (look f.constraints) (lowest f.classes) solved.kids solved.rooted solved.joined_rooted);
        free = rw (E.constraints_are, E.equals_are) solved.joined_free;
      }

-- ---- the same, of `load` and over the sites of the rule

module _ (g : Set) (r : Written) (S : Sound g.sites) where
  pub refused_unmatched : (x : Refusal) → load g r ≡ refused x → FourOrSix x → (at : Given) → Input (rule_sites g r) at → Matches at r.items → ⊥
  refused_unmatched x e u at I M = load_clear g r at S (λ l q. rw q at I) M x e u

  -- the sites of the rule extend the set's, and are sound
  pub its_grow : Extends g.sites (rule_sites g r) × Sound (rule_sites g r)
  its_grow = go (load_items (no_items g.sites) 0 r.items) refl
    where
      go : (o : Outcome Loading) → load_items (no_items g.sites) 0 r.items ≡ o →
          Extends g.sites (sites_left g.sites o) × Sound (sites_left g.sites o)
      go (done l) e = let w = load_part [] r.items (no_items g.sites) l 0 (begin_part g.sites S) e in (w.extends, w.part.sound)
      go (refused x) e = (λ i s q. q, S)

  module _ (h : Set) (k : Kept) (loaded : load g r ≡ done h) (last : h.kept ≡ g.kept ++ (k ∷ [])) where
    L : (l : Loading) × (f : Solving) × Came g r h k l f
    L = came g r h k loaded last

    its_are : rule_sites g r ≡ L.0.sites
    its_are = ap (sites_left g.sites) L.2.items

    pub same : (at : Given) → Input h.sites at → Matches at r.items ↔ MatchesKept at k
    same = same_inputs g r h k S L.0 L.1 L.2

    pub shapes : (n : ℕ) (c : Constraint) → (look k.constraints n ≡ some c) ↔ ((at : Given) → Input h.sites at → Matches at r.items → Meets at n c)
    shapes = forced_shape g r h k S L.0 L.1 L.2

    pub equals : (a b : ℕ) → (a ≡ b → ⊥) → look k.constraints a ≡ none → look k.constraints b ≡ none →
        ((low : ℕ) × (look k.equals a ≡ some low) × (look k.equals b ≡ some low)) ↔
        ((at : Given) → Input h.sites at → Matches at r.items → Agree at a b)
    equals = forced_equal g r h k S L.0 L.1 L.2

    pub new_stands : Stands h.sites k
    new_stands = stands g r h k S L.0 L.1 L.2

    pub matched : (at : Given) × Input h.sites at × Matches at r.items
    matched = has_input g r h k S L.0 L.1 L.2

    pub grown : Extends g.sites (rule_sites g r) × Extends (rule_sites g r) h.sites ×
        ((at : Given) → Input (rule_sites g r) at → (at' : Given) × Input h.sites at' × SameOn (rule_sites g r) at at')
    grown = rw its_are (items_grow g r h k S L.0 L.1 L.2, rounds_grow g r h k S L.0 L.1 L.2, grow_input g r h k S L.0 L.1 L.2)

    pub same_on_old : (at at' : Given) → SameOn (rule_sites g r) at at' → Matches at r.items → Matches at' r.items
    same_on_old = rw its_are (items_inside g r h k S L.0 L.1 L.2)

  pub unmatched_refused : OnlyFourOrSix (load g r) → ((at : Given) → Input (rule_sites g r) at → Matches at r.items → ⊥) → RefusedFourOrSix (load g r)
  unmatched_refused others u = go (load g r) refl
    where
      go : (o : Outcome Set) → load g r ≡ o → RefusedFourOrSix (load g r)
      go (refused x) e = (x, e, others x e)
      go (done h) e =
          let w = last_kept g r h e in
          let m = matched h w.0 e w.1 in
          absurd (u m.0 (input_part (rule_sites g r) h.sites m.0 (grown h w.0 e w.1).1 m.1) m.2)

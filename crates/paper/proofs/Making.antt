-- Of every set that calls and sheets make: its sites are sound (`made_sound`), and in each of its kept rules no equal site is constrained (`made_until`).
use mathlib.Core.Path.{◌≡◌, sym}
use mathlib.Core.Bool.{not}
use mathlib.Core.Option.{none, some}
use mathlib.Core.Logic.{◌⊎◌, inl, inr}
use mathlib.Core.List.Memᴰ
use mathlib.Core.List.{[], ◌∷◌, Memᴰ}
use Prim.Native.Nat.{ℕ, suc}
use lib.ListN.{length}
use lib.Dec.{ltb, leb}
use Rattle.paper.specs.declared.Refusal.TheVariants.{TooManyRules, TooManyItems, TooManyConstrained, TooManyEqual, PlaceUsed}
use Rattle.paper.specs.Words.{look}
use Rattle.paper.specs.Numbers.{max_rules, max_items, max_constrained, max_equal, most_rounds, done}
use Rattle.paper.specs.Sites.{Sound}
use Rattle.paper.specs.Loading.{Written, Kept, Set, Loading, Solving, closure, holders, conflict, check_4, steps, endless, hanging, no_hanging, no_endless, load_items, rounds, started, normalise, with_rule, used, load, empty_set, with_sites, Made, begun, site_added, rule_loaded, no_items}
use Rattle.paper.proofs.Outcomes.{done_once, bind_done, demand_done}
use Rattle.paper.proofs.Adding.{none_there, add_sound}
use Rattle.paper.proofs.Fair.{Fair, load_fair}
use Rattle.paper.proofs.Ends.{rounds_fair, unconstrained}

pub normalise_rounds : (l : Loading) (count : ℕ) (r : Solving) → normalise l count ≡ done r → rounds most_rounds count (started l) ≡ done r
unfolding normalise
normalise_rounds l count r e =
    let a = bind_done (no_hanging (hanging l)) _ r e in
    let b = bind_done (check_4 (closure l) (holders l) (conflict (closure l) (holders l))) _ r a.2 in
    let c = bind_done (no_endless (endless (steps (closure l) (holders l)))) _ r b.2 in
    let d = bind_done (rounds most_rounds count (started l)) _ r c.2 in
    let f = demand_done (leb (length d.0.constraints) max_constrained) (TooManyConstrained (length d.0.constraints)) _ r d.2 in
    let g = demand_done (leb (length d.0.classes) max_equal) (TooManyEqual (length d.0.classes)) _ r f.1 in
    let q = done_once g.1 in
    rw (← q) d.1

-- a rule that is kept
pub record Loads (g : Set) (r : Written) (h : Set) : Type 0 where
  pub loading : Loading
  pub items : load_items (no_items g.sites) 0 r.items ≡ done loading
  pub solved : Solving
  pub normalised : normalise loading r.count ≡ done solved
  pub after : h ≡ with_rule g r solved

pub load_done : (g : Set) (r : Written) (h : Set) → load g r ≡ done h → Loads g r h
unfolding load
load_done g r h e =
    let a = demand_done (ltb (length g.kept) max_rules) (TooManyRules (suc (length g.kept))) _ h e in
    let b = demand_done (leb r.count max_items) (TooManyItems r.count) _ h a.1 in
    let c = demand_done (not (used g r.place)) (PlaceUsed r.place) _ h b.1 in
    let d = bind_done (load_items (no_items g.sites) 0 r.items) _ h c.1 in
    let f = bind_done (normalise d.0 r.count) _ h d.2 in
    record { loading = d.0; items = d.1; solved = f.0; normalised = f.1; after = sym (done_once f.2) }

loads_fair : (g : Set) (r : Written) (h : Set) → Sound g.sites → (L : Loads g r h) → Fair L.solved
loads_fair g r h S L = rounds_fair (started L.loading) (load_fair g.sites 0 r.items L.loading S L.items) r.count L.solved (normalise_rounds L.loading r.count L.solved L.normalised)

pub load_sound : (g : Set) (r : Written) (h : Set) → Sound g.sites → load g r ≡ done h → Sound h.sites
unfolding with_rule
load_sound g r h S e = let L = load_done g r h e in let q = L.after in rw q (loads_fair g r h S L).sites

pub made_sound : {g : Set} → Made g → Sound g.sites
unfolding empty_set with_sites
made_sound (begun term flags) = none_there
made_sound (site_added {g = g} at s a M e) = add_sound g.sites at s a (made_sound M) e
made_sound (rule_loaded {g = g} {h = h} r M e) = load_sound g r h (made_sound M) e

-- "Repeat until no class has a constrained member"
abbrev pub Unconstrained : Kept → Type 0
Unconstrained k = (n v : ℕ) → look k.equals n ≡ some v → look k.constraints n ≡ none

pub load_until : (g : Set) (r : Written) (h : Set) → Sound g.sites → load g r ≡ done h → ((k : Kept) → Memᴰ k g.kept → Unconstrained k) → (k : Kept) → Memᴰ k h.kept → Unconstrained k
unfolding with_rule
load_until g r h S e before k m = go (Memᴰ.append_cases g.kept kept)
  where
    L : Loads g r h
    L = load_done g r h e

    kept : Memᴰ k (with_rule g r L.solved).kept
    kept = let q = L.after in rw q at m

    go : Memᴰ k g.kept ⊎ Memᴰ k (record { place = r.place; priority = r.priority; constraints = L.solved.constraints; equals = L.solved.classes } ∷ []) → Unconstrained k
    go (inl q) = before k q
    go (inr q) = let z = Memᴰ.eq_of_singleton q in rw z (unconstrained (started L.loading) (load_fair g.sites 0 r.items L.loading S L.items) r.count L.solved (normalise_rounds L.loading r.count L.solved L.normalised))

pub made_until : {g : Set} → Made g → (k : Kept) → Memᴰ k g.kept → Unconstrained k
unfolding empty_set with_sites
made_until (begun term flags) k m = elim m [ ]
made_until (site_added at s a M e) k m = made_until M k m
made_until (rule_loaded {g = g} {h = h} r M e) k m = load_until g r h (made_sound M) e (λ j q. made_until M j q) k m

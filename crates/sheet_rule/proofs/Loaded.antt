-- A rule loaded into the open set: what `rule_load` says, with the set's term and flags.
use mathlib.Core.Path.{◌≡◌, refl, sym, ap, ◌∙◌}
use mathlib.Core.Bool.{not}
use mathlib.Core.List.{List, []}
use Prim.Native.Nat.{ℕ, suc, ◌+◌, ◌≤◌, ◌<◌}
use native.Mathlib.Omega.{arith}
use lib.ListN.{length, length-append}
use lib.Dec.{ltb, leb}
use borrow.Author.Tests.{ltb-true}
use Rattle.std.specs.declared.result.Result.TheVariants.{Err, Ok}
use Rattle.paper.specs.declared.Refusal.{Refusal}
use Rattle.paper.specs.declared.Refusal.TheVariants.{TooManyRules, TooManyItems, PlaceUsed}
use Rattle.paper.specs.declared.Rule.{Rule}
use Rattle.paper.specs.Numbers.{max_rules, max_items, Outcome, done, refused, ◌>>=◌, demand}
use Rattle.paper.proofs.Outcomes.{done_once, bind_done, demand_done}
use Rattle.paper.specs.Sites.{Sound}
use Rattle.paper.specs.Loading.{Written, written, Set, Loading, Solving, load_items, normalise, with_rule, used, load}
use Rattle.paper.proofs.Making.{load_sound}
use Rattle.sites.specs.Slots.{sites_in}
use Rattle.rule_words.specs.Stored.{base, kept_first}
use Rattle.rule_load.specs.Whole.{set_in, loaded_as, load_in, sites_after, words_after}
use Rattle.rule_load.proofs.Afterwards.{load_is, refused_same, after_sites, after_kept}
use Rattle.rule_load.proofs.Ranging.{RuleFits}
use Rattle.sites.proofs.Places.{sites_length}
use native.Mathlib.Numerals.{add-one}
use Rattle.paper.specs.Answered.{Answer}
use Rattle.sheet_reader.specs.State.{sites_room, kept_room}
use Rattle.sheet_reader.proofs.Standing.{length_kept}

abbrev bare : List ℕ → ℕ → List ℕ → ℕ → Set
bare m n ws k = record { term = 0; flags = 0; sites = sites_in m n; kept = kept_first ws k }

-- ---- what is cited of `rule_load`
module _ (m ws : List ℕ) (n k : ℕ) (r : Rule) where
  loads_as : sites_room ≤ length m → kept_room ≤ length ws → Sound (sites_in m n) → length (kept_first ws k) ≤ max_rules → load_in m n ws k r ≡ load (bare m n ws k) (written r)
  unfolding set_in base
  loads_as hm hw S f = let c = S.fits in let d = sites_length m n in let e = length_kept ws k in load_is m n ws k r hm hw (omega arith) (omega arith)

  load_sites : (g : Set) → load_in m n ws k r ≡ done g → sites_in (sites_after m n (load_in m n ws k r)) (length g.sites) ≡ g.sites
  load_sites g e = ap (λ o. sites_in (sites_after m n o) (length g.sites)) e ∙ after_sites m n ws k r g e

  load_kept : RuleFits r → (g : Set) → load_in m n ws k r ≡ done g → kept_first (words_after ws k (load_in m n ws k r)) (k + 1) ≡ g.kept
  load_kept F g e = ap (λ o. kept_first (words_after ws k o) (k + 1)) e ∙ (ap (kept_first (words_after ws k (done g))) (add-one k) ∙ after_kept m n ws k r g e F)

-- ---- the name of a set plays no part in loading
abbrev renamed : ℕ → ℕ → Set → Set
renamed t f g = record { term = t; flags = f; sites = g.sites; kept = g.kept }

load_named : (t f : ℕ) (g : Set) (r : Written) → load (renamed t f g) r ≡ (load g r >>= λ h. done (renamed t f h))
unfolding load used with_rule
load_named t f g r = go (demand (ltb (length g.kept) max_rules) (TooManyRules (suc (length g.kept)))) (demand (leb r.count max_items) (TooManyItems r.count)) (demand (not (used g r.place)) (PlaceUsed r.place)) (load_items (record { sites = g.sites; constraints = []; equalities = []; named = [] }) 0 r.items) (λ l. normalise l r.count)
  where
    last : (o : Outcome Solving) → (o >>= λ s. done (with_rule (renamed t f g) r s)) ≡ ((o >>= λ s. done (with_rule g r s)) >>= λ h. done (renamed t f h))
    last (done s) = refl
    last (refused x) = refl

    go : (a b c : Outcome (Unit {0})) (d : Outcome Loading) (n : Loading → Outcome Solving) → (a >>= λ _. b >>= λ _. c >>= λ _. d >>= λ l. n l >>= λ s. done (with_rule (renamed t f g) r s)) ≡ ((a >>= λ _. b >>= λ _. c >>= λ _. d >>= λ l. n l >>= λ s. done (with_rule g r s)) >>= λ h. done (renamed t f h))
    go (refused x) b c d n = refl
    go (done u) (refused x) c d n = refl
    go (done u) (done v) (refused x) d n = refl
    go (done u) (done v) (done w) (refused x) n = refl
    go (done u) (done v) (done w) (done l) n = last (n l)

kept_more : (g : Set) (r : Written) (h : Set) → load g r ≡ done h → (length g.kept < max_rules) × (length h.kept ≡ length g.kept + 1)
unfolding load with_rule
kept_more g r h e =
    let a = demand_done (ltb (length g.kept) max_rules) (TooManyRules (suc (length g.kept))) _ h e in
    let b = demand_done (leb r.count max_items) (TooManyItems r.count) _ h a.1 in
    let c = demand_done (not (used g r.place)) (PlaceUsed r.place) _ h b.1 in
    let d = bind_done (load_items (record { sites = g.sites; constraints = []; equalities = []; named = [] }) 0 r.items) _ h c.1 in
    let f = bind_done (normalise d.0 r.count) _ h d.2 in
    let q : with_rule g r f.0 ≡ h = done_once f.2 in
    (ltb-true (length g.kept) max_rules a.0, ap (λ x. length x.kept) (sym q) ∙ (length-append g.kept _ ∙ omega arith))

-- ---- the answer of the call
module _ (m ws : List ℕ) (n k t f : ℕ) (r : Rule) (hm : sites_room ≤ length m) (hw : kept_room ≤ length ws) (S : Sound (sites_in m n)) (few-rules : length (kept_first ws k) ≤ max_rules) (F : RuleFits r) where
  abbrev here : Set
  here = record { term = t; flags = f; sites = sites_in m n; kept = kept_first ws k }

  here_is : load here (written r) ≡ (load_in m n ws k r >>= λ h. done (renamed t f h))
  here_is = load_named t f (bare m n ws k) (written r) ∙ ap (λ o. o >>= λ h. done (renamed t f h)) (sym (loads_as m ws n k r hm hw S few-rules))

  loaded_refused : (o : Outcome Set) (x : Refusal) → Err x ≡ loaded_as o → o ≡ refused x
  loaded_refused (done g) x e = let z : ◌≡◌ {A = ℕ} 0 1 = cc in absurd (omega arith)
  loaded_refused (refused y) x e = let z : x ≡ y = cc in ap refused (sym z)

  loaded_kept : (o : Outcome Set) (j : ℕ) → Ok j ≡ loaded_as o → (g : Set) × (o ≡ done g) × (j ≡ length g.sites)
  loaded_kept (done g) j e = (g, refl, (cc))
  loaded_kept (refused y) j e = let z : ◌≡◌ {A = ℕ} 0 1 = cc in absurd (omega arith)

  module _ (v : Answer ℕ) (m' ws' : List ℕ) (ev : v ≡ loaded_as (load_in m n ws k r)) (em : m' ≡ sites_after m n (load_in m n ws k r)) (ew : ws' ≡ words_after ws k (load_in m n ws k r)) where
    pub record Refusing (x : Refusal) : Type 0 where
      pub loads : load here (written r) ≡ refused x
      pub sites : m' ≡ m
      pub words : ws' ≡ ws

    pub rule_refused : (x : Refusal) → v ≡ Err x → Refusing x
    rule_refused x e =
        let o = loaded_refused (load_in m n ws k r) x (sym e ∙ ev) in
        record { loads = here_is ∙ ap (λ o. o >>= λ h. done (renamed t f h)) o; sites = em ∙ (refused_same m n ws k r x o).0; words = ew ∙ (refused_same m n ws k r x o).1 }

    pub record Keeping (j : ℕ) : Type 0 where
      pub set : Set
      pub is : set ≡ record { term = t; flags = f; sites = sites_in m' j; kept = kept_first ws' (k + 1) }
      pub loads : load here (written r) ≡ done set
      pub sound : Sound set.sites
      pub few : length (kept_first ws k) < max_rules
      pub kept : length set.kept ≡ length (kept_first ws k) + 1

    pub rule_kept : (j : ℕ) → v ≡ Ok j → Keeping j
    rule_kept j e =
        let o = loaded_kept (load_in m n ws k r) j (sym e ∙ ev) in
        let g = o.0 in
        let l : load here (written r) ≡ done (renamed t f g) = here_is ∙ ap (λ o. o >>= λ h. done (renamed t f h)) o.1 in
        let s : g.sites ≡ sites_in m' j = sym (ap (λ x. sites_in x j) em ∙ (ap (λ i. sites_in (sites_after m n (load_in m n ws k r)) i) o.2 ∙ load_sites m ws n k r g o.1)) in
        let w : g.kept ≡ kept_first ws' (k + 1) = sym (ap (λ x. kept_first x (k + 1)) ew ∙ load_kept m ws n k r F g o.1) in
        let c = kept_more here (written r) (renamed t f g) l in
        record {
          set = renamed t f g;
          is = rw (s, w);
          loads = l;
          sound = load_sound here (written r) (renamed t f g) S l;
          few = c.0;
          kept = c.1;
        }

-- Each kept rule of a made set came from a rule that was handed over, and matches its inputs, however the set grew since: the proofs.
use Rattle.std.specs.Prelude.{◌≡◌, false, not, ◌↔◌, ◌⊎◌, ℕ, suc, length, eqb, ltb, leb}
use Rattle.std.proofs.Common.{sym, ap, ◌∙◌, inl, inr, arith, eq-eqb}
use mathlib.Core.List.Memᴰ
use mathlib.Core.List.{[], ◌∷◌, ◌++◌, Memᴰ}
use Rattle.paper.specs.declared.Refusal.TheVariants.{TooManyRules, TooManyItems, PlaceUsed}
use Rattle.paper.specs.Numbers.{max_rules, max_items, done}
use Rattle.paper.proofs.Lists.{not_true}
use Rattle.paper.proofs.Outcomes.{demand_done}
use Rattle.paper.specs.Inputs.{Given, Input, Matches, MatchesKept}
use Rattle.paper.specs.Loading.{Set, Kept, Written, Made, begun, site_added, rule_loaded, empty_set, with_sites, used, load}
use Rattle.paper.proofs.Making.{made_sound}
use Rattle.paper.specs.Sites.{Extends}
use Rattle.paper.proofs.Adding.{add_extends}
use Rattle.meaning.specs.Grow.{input_part}
use Rattle.meaning.specs.Demand3.{demand_2, demand_2_old}
use Rattle.meaning.specs.Answers.{last_kept}
use Rattle.meaning.specs.Lists.{in_any}
use Rattle.meaning_shipped.specs.Words.{From}

further : (g h : Set) (k : Kept) (r : Written) → Extends g.sites h.sites → From g k r → From h k r
further g h k r x f = record {
  before = f.before;
  after = f.after;
  made = f.made;
  keeps = f.keeps;
  place = f.place;
  priority = f.priority;
  grew = λ n s e. x n s (f.grew n s e);
}

pub made_from : {g : Set} → Made g → (k : Kept) → Memᴰ k g.kept → (r : Written) × From g k r
unfolding empty_set with_sites
made_from (begun t f) k m = elim m [ ]
made_from (site_added {g = g} at s a M e) k m = let x = made_from M k m in
    (x.0, further g (with_sites g a.sites) k x.0 (add_extends g.sites at s a e) x.1)
made_from (rule_loaded {g = g} {h = h} r M e) k m = go (last_kept g r h e) (λ j q. made_from M j q)
  where
    go : (j : Kept) × (h.kept ≡ g.kept ++ (j ∷ [])) × (j.place ≡ r.place) × (j.priority ≡ r.priority) →
        ((j : Kept) → Memᴰ j g.kept → (r : Written) × From g j r) → (r : Written) × From h k r
    go (j, last, p, q) old = pick (Memᴰ.append_cases g.kept (rw last at m))
      where
        pick : Memᴰ k g.kept ⊎ Memᴰ k (j ∷ []) → (r : Written) × From h k r
        pick (inl z) = let x = old k z in let w = demand_2_old g r h j (made_sound M) (record { loaded = e; last = last }) in
            (x.0, further g h k x.0 (λ n s f. w.1 n s (w.0 n s f)) x.1)
        pick (inr z) = let y = Memᴰ.eq_of_singleton z in
            (r, rw y (record { before = g; after = h; made = M; keeps = record { loaded = e; last = last }; place = p; priority = q; grew = λ n s f. f }))

pub from_same : (g : Set) (k : Kept) (r : Written) → From g k r → (at : Given) → Input g.sites at → Matches at r.items ↔ MatchesKept at k
from_same g k r f at I = demand_2 f.before r f.after k (made_sound f.made) f.keeps at (input_part f.after.sites g.sites at f.grew I)

-- ---- no two kept rules have one place
unused : (g : Set) (r : Written) (h : Set) → load g r ≡ done h → used g r.place ≡ false
unfolding load
unused g r h e =
    let a = demand_done (ltb (length g.kept) max_rules) (TooManyRules (suc (length g.kept))) _ h e in
    let b = demand_done (leb r.count max_items) (TooManyItems r.count) _ h a.1 in
    let c = demand_done (not (used g r.place)) (PlaceUsed r.place) _ h b.1 in
    not_true (used g r.place) c.0

not_there : (g : Set) (p : ℕ) → used g p ≡ false → (k : Kept) → Memᴰ k g.kept → k.place ≡ p → ⊥
unfolding used
not_there g p e k m q = let w = in_any (λ (k : Kept). eqb k.place p) g.kept k m (eq-eqb k.place p q) in let z : ◌≡◌ {A = ℕ} 0 1 = cc in omega arith

pub made_places : {g : Set} → Made g → (a b : Kept) → Memᴰ a g.kept → Memᴰ b g.kept → a.place ≡ b.place → a ≡ b
unfolding empty_set with_sites
made_places (begun t f) a b m n e = elim m [ ]
made_places (site_added at s x M q) a b m n e = made_places M a b m n e
made_places (rule_loaded {g = g} {h = h} r M q) a b m n e = go (last_kept g r h q) (λ i j. made_places M a b i j e)
  where
    go : (j : Kept) × (h.kept ≡ g.kept ++ (j ∷ [])) × (j.place ≡ r.place) × (j.priority ≡ r.priority) →
        (Memᴰ a g.kept → Memᴰ b g.kept → a ≡ b) → a ≡ b
    go (j, last, p, _) old = pick (Memᴰ.append_cases g.kept (rw last at m)) (Memᴰ.append_cases g.kept (rw last at n))
      where
        new : (k : Kept) → Memᴰ k (j ∷ []) → k.place ≡ r.place
        new k z = ap (λ (k : Kept). k.place) (Memᴰ.eq_of_singleton z) ∙ p

        pick : Memᴰ a g.kept ⊎ Memᴰ a (j ∷ []) → Memᴰ b g.kept ⊎ Memᴰ b (j ∷ []) → a ≡ b
        pick (inl x) (inl y) = old x y
        pick (inl x) (inr y) = absurd (not_there g r.place (unused g r h q) a x (e ∙ new b y))
        pick (inr x) (inl y) = absurd (not_there g r.place (unused g r h q) b y (sym e ∙ new a x))
        pick (inr x) (inr y) = Memᴰ.eq_of_singleton x ∙ sym (Memᴰ.eq_of_singleton y)

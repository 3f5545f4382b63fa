-- The load part of Shipped.antt: the proofs.
use Rattle.std.specs.Prelude.{◌≡◌, refl, Bool, true, false, ◌&&◌, ◌↔◌, ℕ, zero, suc, ◌+◌, ◌*◌, ◌<◌, min, ◌/◌, length, get_or, ltb, leb}
use Rattle.std.proofs.Common.{sym, ap, ◌∙◌, arith}
use Rattle.std.proofs.Math.Option.{none, some}
use mathlib.Core.List.{List, Memᴰ}
use Rattle.paper.specs.declared.Constraint.{Constraint}
use Rattle.paper.specs.declared.Refusal.{Refusal}
use Rattle.paper.specs.declared.Refusal.TheVariants.{TooManySites, TooManyRules}
use Rattle.paper.specs.declared.Rule.{Rule}
use Rattle.paper.specs.Words.{look}
use Rattle.paper.specs.Numbers.{max_sites, max_rules, number, Outcome, done, refused, ◌>>=◌, demand}
use Rattle.paper.proofs.Outcomes.{not_refused}
use Rattle.paper.specs.Sites.{Sound}
use Rattle.paper.specs.Inputs.{Given, Input, Meets, Agree, Matches, MatchesKept}
use Rattle.paper.specs.Loading.{Kept, Set, written, load}
use Rattle.paper.proofs.Making.{made_sound}
use Rattle.paper.specs.Rules.{no_rule}
use Rattle.paper.specs.Sites.{Extends}
use Rattle.rule_words.specs.Stored.{base, stride, run, kept_in, kept_first}
use Rattle.site_slots.specs.Seeking.{slot}
use Rattle.sites.specs.Slots.{sites_in}
use Rattle.rule_load.specs.Whole.{set_in, load_in, sites_after, words_after}
use Rattle.rule_load.proofs.Ranging.{RuleFits}
use Rattle.rule_load.proofs.Afterwards.{after_sites, after_kept}
use Rattle.meaning.specs.RuleSites.{rule_sites, FourOrSix, OnlyFourOrSix, RefusedFourOrSix, SameOn}
use Rattle.meaning.specs.Clear.{clear_refused}
use Rattle.meaning.specs.Demand3.{Unmatched, Keeps, HoldsEqual, demand_2, demand_2_old, demand_3, demand_4}
use Rattle.meaning.specs.Answers as A
use Rattle.meaning.specs.Overlaps as O
use Rattle.meaning_shipped.specs.Words.{sites_now, rule_now, MadeIn, loaded_in}
use Rattle.meaning_shipped.specs.Keeping.{loaded_so, kept_last}
use Rattle.meaning_shipped.proofs.Made.{made_in}

-- ---- the kept rules in the words
run_at : {A : Type 0} (f : ℕ → A) (d : A) (j k i : ℕ) → i < k → get_or (run f j k) i d ≡ f (j + i)
unfolding run
run_at f d j zero i h = absurd (omega arith)
run_at f d j (suc k) zero h = let z : j ≡ j + 0 = omega arith in ap f z
run_at f d j (suc k) (suc i) h = let z : suc j + i ≡ j + suc i = omega arith in run_at f d (suc j) k i (omega arith) ∙ ap f z

run_has : {A : Type 0} (f : ℕ → A) (j k i : ℕ) → i < k → Memᴰ (f (j + i)) (run f j k)
unfolding run
run_has f j zero i h = absurd (omega arith)
run_has f j (suc k) zero h = let z : j + 0 ≡ j = omega arith in Memᴰ.head (ap f z)
run_has f j (suc k) (suc i) h = let z : suc j + i ≡ j + suc i = omega arith in Memᴰ.tail (rw z at (run_has f (suc j) k i (omega arith)))

-- rule i of k is one of the set's
pub kept_there : (m : List ℕ) (n : ℕ) (ws : List ℕ) (k i : ℕ) → i < k → Memᴰ (kept_in ws i) (set_in m n ws k).kept
unfolding set_in kept_first
kept_there m n ws k i h = let z : 0 + i ≡ i = omega arith in rw z at (run_has (kept_in ws) 0 k i h)

-- the rule that was kept is read from its words
pub kept_rule : (m : List ℕ) (n : ℕ) (ws : List ℕ) (k : ℕ) (r : Rule) (g : Set) → RuleFits r → load_in m n ws k r ≡ done g →
    get_or g.kept k no_rule ≡ kept_in (words_after ws k (done g)) k
unfolding kept_first
kept_rule m n ws k r g F e =
    let q = after_kept m n ws k r g e F in
    let z : 0 + k ≡ k = omega arith in
    ap (λ (l : List Kept). get_or l k no_rule) (sym q) ∙ (run_at (kept_in (words_after ws k (done g))) no_rule 0 (suc k) k (omega arith) ∙
    ap (kept_in (words_after ws k (done g))) z)

-- ---- 1, without room
-- lent memory that is too small is 20 or 23: so a 4 or a 6 is paper's
pub four_six_so : (m : List ℕ) (n : ℕ) (ws : List ℕ) (k : ℕ) (r : Rule) (x : Refusal) → load_in m n ws k r ≡ refused x → FourOrSix x →
    load (set_in m n ws k) (written r) ≡ refused x
unfolding load_in number
four_six_so m n ws k r x e u = go (ltb k max_rules && leb (base k + stride) (length ws)) (leb n max_sites) (load (set_in m n ws k) (written r)) e
  where
    last : (g : Set) (c : Bool) → (demand c (TooManySites (length m / slot + 1) r.count) >>= λ _. done g) ≡ refused x → ⊥
    last g true f = not_refused (sym f)
    last g false f = clear_refused {A = Set} (TooManySites (length m / slot + 1) r.count) refl x f u

    go : (a b : Bool) (o : Outcome Set) →
        (demand a (TooManyRules (suc (min k max_rules))) >>= λ _.
        (demand b (TooManySites n r.count) >>= λ _. (o >>= λ g.
        (demand (leb (length g.sites * slot) (length m)) (TooManySites (length m / slot + 1) r.count) >>= λ _. done g)))) ≡ refused x →
        o ≡ refused x
    go false b o f = absurd (clear_refused {A = Set} (TooManyRules (suc (min k max_rules))) refl x f u)
    go true false o f = absurd (clear_refused {A = Set} (TooManySites n r.count) refl x f u)
    go true true (refused y) f = f
    go true true (done g) f = absurd (last g (leb (length g.sites * slot) (length m)) f)

module _ (m : List ℕ) (n : ℕ) (ws : List ℕ) (k : ℕ) (r : Rule) (M : MadeIn m n ws k) where
  set_sound : Sound (set_in m n ws k).sites
  set_sound = made_sound (made_in M)

  pub refused_none : (x : Refusal) → load_in m n ws k r ≡ refused x → FourOrSix x → Unmatched (set_in m n ws k) (written r)
  refused_none x e u = A.refused_unmatched (set_in m n ws k) (written r) set_sound x (four_six_so m n ws k r x e u) u

  pub kept_some : (g : Set) → load_in m n ws k r ≡ done g → Unmatched (set_in m n ws k) (written r) → ⊥
  kept_some g e u =
      let l = loaded_so m n ws k r g e in
      let y = A.unmatched_refused (set_in m n ws k) (written r) set_sound (λ x q. absurd (not_refused (sym q ∙ l))) u in
      not_refused (sym y.1 ∙ l)

  pub lent_1 : OnlyFourOrSix (load_in m n ws k r) → RefusedFourOrSix (load_in m n ws k r) ↔ Unmatched (set_in m n ws k) (written r)
  lent_1 others = (λ y. refused_none y.0 y.1 y.2, λ u. go u (load_in m n ws k r) refl)
    where
      go : Unmatched (set_in m n ws k) (written r) → (o : Outcome Set) → load_in m n ws k r ≡ o → RefusedFourOrSix (load_in m n ws k r)
      go u (refused x) e = (x, e, others x e)
      go u (done g) e = absurd (kept_some g e u)

  pub matched_done : OnlyFourOrSix (load_in m n ws k r) → (at : Given) → Input (rule_sites (set_in m n ws k) (written r)) at →
      Matches at (written r).items →
      (g : Set) × (load_in m n ws k r ≡ done g)
  matched_done others at I w = go (load_in m n ws k r) refl
    where
      go : (o : Outcome Set) → load_in m n ws k r ≡ o → (g : Set) × (load_in m n ws k r ≡ done g)
      go (done g) e = (g, e)
      go (refused x) e = absurd (refused_none x e (others x e) at I w)

  module _ (F : RuleFits r) (g : Set) (e : load_in m n ws k r ≡ done g) where
    lent_keeps : Keeps (set_in m n ws k) (written r) g (get_or g.kept k no_rule)
    lent_keeps = kept_last m n ws k r g e

    pub lent_2 : (at : Given) → Input (sites_now m n g) at → Matches at (written r).items ↔ MatchesKept at (rule_now ws k g)
    lent_2 at I = let s = after_sites m n ws k r g e in rw (kept_rule m n ws k r g F e) at
        (demand_2 (set_in m n ws k) (written r) g (get_or g.kept k no_rule) set_sound lent_keeps at (rw s at I))

    pub lent_2_old : Extends (sites_in m n) (rule_sites (set_in m n ws k) (written r)) × Extends (rule_sites (set_in m n ws k) (written r)) (sites_now m n g) ×
        ((at : Given) → Input (rule_sites (set_in m n ws k) (written r)) at →
        (at' : Given) × Input (sites_now m n g) at' × SameOn (rule_sites (set_in m n ws k) (written r)) at at')
    unfolding set_in
    lent_2_old = let s = after_sites m n ws k r g e in rw s (demand_2_old (set_in m n ws k) (written r) g (get_or g.kept k no_rule) set_sound lent_keeps)

    pub lent_3 : (i : ℕ) (c : Constraint) → (look (rule_now ws k g).constraints i ≡ some c) ↔
        ((at : Given) → Input (sites_now m n g) at → Matches at (written r).items → Meets at i c)
    lent_3 i c = let s = after_sites m n ws k r g e in rw s (rw (kept_rule m n ws k r g F e) at
        (demand_3 (set_in m n ws k) (written r) g (get_or g.kept k no_rule) set_sound lent_keeps i c))

    pub lent_4 : (a b : ℕ) → (a ≡ b → ⊥) → look (rule_now ws k g).constraints a ≡ none → look (rule_now ws k g).constraints b ≡ none →
        HoldsEqual (rule_now ws k g) a b ↔ ((at : Given) → Input (sites_now m n g) at → Matches at (written r).items → Agree at a b)
    lent_4 a b = let s = after_sites m n ws k r g e in rw s (rw (kept_rule m n ws k r g F e) at
        (demand_4 (set_in m n ws k) (written r) g (get_or g.kept k no_rule) set_sound lent_keeps a b))

    pub some_input : (at : Given) × Input (sites_now m n g) at × Matches at (written r).items
    unfolding set_in
    some_input =
        let N = loaded_in r g M F e in
        let x = O.has_input _ (made_in N) (rule_now ws k g) (kept_there (sites_after m n (done g)) (length g.sites) (words_after ws k (done g)) (suc k) k
        (omega arith)) in
        (x.0, x.1, (lent_2 x.0 x.1).1 x.2)

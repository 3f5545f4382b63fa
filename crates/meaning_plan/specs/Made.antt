-- A made set is ready: its rules' sites ascend, its priorities have 64 bits, and it has no more than 64 rules.
use Rattle.std.specs.Prelude.{◌≡◌, refl, ℕ, zero, suc, ◌≤◌, ◌<◌, ◌^◌, ltb}
use Rattle.std.proofs.Common.{sym, ◌∙◌, arith}
use Rattle.std.proofs.Math.Path.{ap}
use mathlib.Core.List.{List, [], ◌∷◌, Memᴰ}
use Rattle.std.proofs.Math.ListN.{length, length-append}
use borrow.Author.Tests.{ltb-true}
use Rattle.paper.specs.declared.Refusal.TheVariants.{TooManyRules}
use Rattle.paper.specs.Numbers.{max_rules}
use Rattle.paper.proofs.Outcomes.{demand_done}
use Rattle.paper.specs.Loading.{Kept, Set, Made, begun, site_added, rule_loaded, empty_set, with_sites, with_rule, load}
use Rattle.paper.proofs.Making.{load_done}
use Rattle.meaning.specs.Pairs.{made_stands}
use Rattle.rule_words.specs.Stored.{run, kept_at, kept_in, kept_first}
use Rattle.plan.specs.Lent.{set_in}
use Rattle.plan.proofs.Mended.{rank_word}
use Rattle.plan.proofs.Readiness.{Ready}

made_few : {g : Set} → Made g → length g.kept ≤ max_rules
unfolding empty_set with_sites
made_few (begun t f) = omega arith
made_few (site_added at s a M e) = made_few M
made_few (rule_loaded {g = g} {h = h} r M e) = unfold load with_rule in (
    let a = demand_done (ltb (length g.kept) max_rules) (TooManyRules (suc (length g.kept))) _ h e in
    let L = load_done g r h e in
    let q = ap (λ (s : Set). length s.kept) L.after in
    let l = ltb-true (length g.kept) max_rules a.0 in
    let n = length-append g.kept
    (record { place = r.place; priority = r.priority; constraints = L.solved.constraints; equals = L.solved.classes } ∷ []) in
    omega arith)

pub made_ready : {g : Set} → Made g → ((k : Kept) → Memᴰ k g.kept → k.priority < 2 ^ 64) → Ready g
made_ready M w = record { rising = λ k m. (made_stands M k m).rising; words = w; few = made_few M }

-- priorities as words hold them
of_run : {A : Type 0} (f : ℕ → A) (i k : ℕ) (x : A) → Memᴰ x (run f i k) → (j : ℕ) × (x ≡ f j)
unfolding run
of_run f i zero x m = elim m [ ]
of_run f i (suc k) x (Memᴰ.head q) = (i, q)
of_run f i (suc k) x (Memᴰ.tail m) = of_run f (suc i) k x m

held_words : (ws : List ℕ) (n : ℕ) (k : Kept) → Memᴰ k (kept_first ws n) → k.priority < 2 ^ 64
unfolding kept_first kept_in kept_at
held_words ws n k m = let w = of_run (kept_in ws) 0 n k m in let q = ap (λ (x : Kept). x.priority) w.1 in rw q (rank_word _)

-- words that hold a made set's rules
pub ready_in : {g : Set} → Made g → (ws : List ℕ) (n flags : ℕ) → g.kept ≡ kept_first ws n → Ready (set_in ws n flags)
unfolding set_in
ready_in {g} M ws n flags e =
    let R = made_ready M (λ k m. held_words ws n k (rw e at m)) in
    record {
      rising = λ k m. R.rising k (rw e m);
      words = λ k m. held_words ws n k m;
      few = let f = R.few in let q = ap length e in omega arith;
    }

-- Which class a round takes: "Of the classes with a constrained member, take the one whose lowest member is lowest" (`taken`, `takes_lowest`);
-- and none is taken exactly when no class has a constrained member (`none_left`).
use mathlib.Core.Path.{◌≡◌, refl, sym, ap, ◌∙◌}
use mathlib.Core.Bool.{Bool, true, false}
use mathlib.Core.Option.{Option, none, some}
use mathlib.Core.Logic.{◌↔◌}
use mathlib.Core.List.{List, [], ◌∷◌, Memᴰ}
use Prim.Native.Nat.{ℕ, suc, ◌≤◌}
use native.Mathlib.Omega.{arith}
use lib.Dec.{eqb}
use borrow.Author.Tests.{eqb-true, eq-eqb}
use Rattle.paper.specs.declared.Constraint.{Constraint}
use Rattle.paper.specs.Words.{first, look}
use Rattle.paper.specs.Loading.{Labels, Constraints, Solving, lowest, first_constrained, with_low, take_class}
use Rattle.paper.proofs.Labels.{never}
use Rattle.paper.proofs.Tables.{Rising, look_in, above, in_look, lowest_is, lowest_own, own_label}
use Rattle.paper.proofs.Fair.{Fair}

first_is : {A : Type 0} (f : A → Bool) (l : List A) (x : A) → first f l ≡ some x → Memᴰ x l × (f x ≡ true)
unfolding first
first_is f [] x e = absurd (never e)
first_is {A} f (y ∷ l) x e = go (f y) refl (λ q. first_is f l x q) e
  where
    go : (b : Bool) → f y ≡ b → (first f l ≡ some x → Memᴰ x l × (f x ≡ true)) → elim b as (λ _. Option A) [ true ↦ some y | false ↦ first f l ] ≡ some x → Memᴰ x (y ∷ l) × (f x ≡ true)
    go true p h q = let z : x ≡ y = cc in (Memᴰ.head z, ap f z ∙ p)
    go false p h q = let r = h q in (Memᴰ.tail r.0, r.1)

first_none : {A : Type 0} (f : A → Bool) (l : List A) (x : A) → first f l ≡ none → Memᴰ x l → f x ≡ true → ⊥
unfolding first
first_none f [] x e m h = elim m [ ]
first_none {A} f (y ∷ l) x e m h = go (f y) refl (λ d q. first_none f l x d q h) e m
  where
    go : (b : Bool) → f y ≡ b → (first f l ≡ none → Memᴰ x l → ⊥) → ◌≡◌ {A = Option A} (elim b as (λ _. Option A) [ true ↦ some y | false ↦ first f l ]) none → Memᴰ x (y ∷ l) → ⊥
    go true p r d q = never (sym d)
    go false p r d (Memᴰ.head q) = let w = ap f q in let z : true ≡ false = cc in let u : ◌≡◌ {A = ℕ} 0 1 = cc in omega arith
    go false p r d (Memᴰ.tail q) = r d q

take_class_is : (k : Labels) (cs : Constraints) (ps : Labels) (low : ℕ) (c : Constraint) → take_class k cs ps ≡ some (low, c) → ((n : ℕ) × Memᴰ (n, low) ps) × ((m : ℕ) × Memᴰ (m, c) cs × (lowest k m ≡ low))
unfolding take_class first_constrained
take_class_is k cs [] low c e = absurd (never e)
take_class_is k cs ((n, v) ∷ ps) low c e = go (first (λ p. eqb (lowest k p.0) v) cs) refl (λ q. take_class_is k cs ps low c q) e
  where
    go : (o : Option (ℕ × Constraint)) → first (λ p. eqb (lowest k p.0) v) cs ≡ o → (take_class k cs ps ≡ some (low, c) → ((n : ℕ) × Memᴰ (n, low) ps) × ((m : ℕ) × Memᴰ (m, c) cs × (lowest k m ≡ low))) →
        ◌≡◌ {A = Option (ℕ × Constraint)} (elim (with_low v o) as (λ _. Option (ℕ × Constraint)) [ some q ↦ some q | none ↦ take_class k cs ps ]) (some (low, c)) → ((i : ℕ) × Memᴰ (i, low) ((n, v) ∷ ps)) × ((m : ℕ) × Memᴰ (m, c) cs × (lowest k m ≡ low))
    go none p h q = let r = h q in ((r.0.0, Memᴰ.tail r.0.1), r.1)
    go (some (m, d)) p h q =
        let w : ◌≡◌ {A = ℕ × Constraint} (v, d) (low, c) = cc in
        let z = ap (λ u. u.0) w in
        let y = ap (λ u. u.1) w in
        let x = first_is (λ (p : ℕ × Constraint). eqb (lowest k p.0) v) cs (m, d) p in
        ((n, rw z (Memᴰ.head refl)), (m, rw (← y) x.0, eqb-true (lowest k m) v x.1 ∙ z))

-- the class that is taken has its label among its members, and a member with the constraint
pub record Taken (s : Solving) (low : ℕ) (c : Constraint) : Type 0 where
  pub own : look s.classes low ≡ some low
  pub member : ℕ
  pub labelled : look s.classes member ≡ some low
  pub constrained : look s.constraints member ≡ some c

pub taken : (s : Solving) → Fair s → (low : ℕ) (c : Constraint) → take_class s.classes s.constraints s.classes ≡ some (low, c) → Taken s low c
taken s F low c e = record { own = own; member = x.1.0; labelled = labelled (look s.classes x.1.0) refl; constrained = in_look 0 s.constraints (x.1.0, c) F.ascending x.1.1 }
  where
    x : ((n : ℕ) × Memᴰ (n, low) s.classes) × ((m : ℕ) × Memᴰ (m, c) s.constraints × (lowest s.classes m ≡ low))
    x = take_class_is s.classes s.constraints s.classes low c e

    own : look s.classes low ≡ some low
    own = own_label s.classes F.classes.sound x.0.0 low (in_look 0 s.classes (x.0.0, low) F.classes.rising x.0.1)

    labelled : (o : Option ℕ) → look s.classes x.1.0 ≡ o → look s.classes x.1.0 ≡ some low
    labelled none f = let q = sym (lowest_own s.classes x.1.0 f) ∙ x.1.2 in ap (look s.classes) q ∙ own
    labelled (some v) f = f ∙ ap some (sym (lowest_is s.classes x.1.0 v f) ∙ x.1.2)

constrained_class : (k : Labels) (cs : Constraints) (n v : ℕ) (d : Constraint) → look k n ≡ some v → look cs n ≡ some d → first_constrained k cs v ≡ none → ⊥
unfolding first_constrained
constrained_class k cs n v d e f q = first_none (λ (p : ℕ × Constraint). eqb (lowest k p.0) v) cs (n, d) q (look_in cs n d f) (eq-eqb (lowest k n) v (lowest_is k n v e))

first_taken : (k : Labels) (cs : Constraints) (j : ℕ) (ps : Labels) (low : ℕ) (c : Constraint) → Rising j ps → take_class k cs ps ≡ some (low, c) → (v : ℕ) → (first_constrained k cs v ≡ none → ⊥) → Memᴰ (v, v) ps → (m : ℕ) × Memᴰ (m, low) ps × (m ≤ v)
unfolding take_class
first_taken k cs j [] low c R e v h q = elim q [ ]
first_taken k cs j ((n, w) ∷ ps) low c R e v h q = go (first_constrained k cs w) refl (λ d r. first_taken k cs (suc n) ps low c R.1 d v h r) e q
  where
    go : (o : Option (ℕ × Constraint)) → first_constrained k cs w ≡ o → (take_class k cs ps ≡ some (low, c) → Memᴰ (v, v) ps → (m : ℕ) × Memᴰ (m, low) ps × (m ≤ v)) →
        ◌≡◌ {A = Option (ℕ × Constraint)} (elim (with_low w o) as (λ _. Option (ℕ × Constraint)) [ some q ↦ some q | none ↦ take_class k cs ps ]) (some (low, c)) → Memᴰ {A = ℕ × ℕ} (v, v) ((n, w) ∷ ps) → (m : ℕ) × Memᴰ {A = ℕ × ℕ} (m, low) ((n, w) ∷ ps) × (m ≤ v)
    go none p f d (Memᴰ.head r) = let z = ap (λ u. u.1) r in absurd (h (ap (first_constrained k cs) z ∙ p))
    go none p f d (Memᴰ.tail r) = let x = f d r in (x.0, Memᴰ.tail x.1, x.2)
    go (some b) p f d r =
        let u : ◌≡◌ {A = ℕ × Constraint} (w, b.1) (low, c) = cc in
        let z = ap (λ u. u.0) u in
        (n, rw z (Memᴰ.head refl), above n ((n, w) ∷ ps) (v, v) (omega arith, R.1) r)

-- no class with a constrained member has a lower label
pub takes_lowest : (s : Solving) → Fair s → (low : ℕ) (c : Constraint) → take_class s.classes s.constraints s.classes ≡ some (low, c) → (n v : ℕ) (d : Constraint) → look s.classes n ≡ some v → look s.constraints n ≡ some d → low ≤ v
takes_lowest s F low c e n v d p q =
    let own = own_label s.classes F.classes.sound n v p in
    let x = first_taken s.classes s.constraints 0 s.classes low c F.classes.rising e v (constrained_class s.classes s.constraints n v d p q) (look_in s.classes v v own) in
    let y = lowest_is s.classes x.0 low (in_look 0 s.classes (x.0, low) F.classes.rising x.1) in
    let l = F.classes.sound.function.low x.0 in
    let z = x.2 in
    omega arith

-- no class is taken exactly when no class has a constrained member
none_taken : (k : Labels) (cs : Constraints) (ps : Labels) → take_class k cs ps ≡ none → (p : ℕ × ℕ) → Memᴰ p ps → first_constrained k cs p.1 ≡ none
unfolding take_class
none_taken k cs [] e p m = elim m [ ]
none_taken k cs (q ∷ ps) e p m = go (first_constrained k cs q.1) refl (λ d r. none_taken k cs ps d p r) e m
  where
    go : (o : Option (ℕ × Constraint)) → first_constrained k cs q.1 ≡ o → (take_class k cs ps ≡ none → Memᴰ p ps → first_constrained k cs p.1 ≡ none) →
        ◌≡◌ {A = Option (ℕ × Constraint)} (elim (with_low q.1 o) as (λ _. Option (ℕ × Constraint)) [ some q ↦ some q | none ↦ take_class k cs ps ]) none → Memᴰ p (q ∷ ps) → first_constrained k cs p.1 ≡ none
    go none f h d (Memᴰ.head r) = ap (λ u. first_constrained k cs u.1) r ∙ f
    go none f h d (Memᴰ.tail r) = h d r
    go (some b) f h d r = absurd (never (sym d))

pub none_left : (s : Solving) → Fair s → (take_class s.classes s.constraints s.classes ≡ none) ↔ ((n v : ℕ) → look s.classes n ≡ some v → look s.constraints n ≡ none)
none_left s F = (λ e n v p. there e n v p (look s.constraints n) refl, λ h. back h (take_class s.classes s.constraints s.classes) refl)
  where
    there : take_class s.classes s.constraints s.classes ≡ none → (n v : ℕ) → look s.classes n ≡ some v → (o : Option Constraint) → look s.constraints n ≡ o → look s.constraints n ≡ none
    there e n v p none q = q
    there e n v p (some d) q = absurd (constrained_class s.classes s.constraints n v d p q (none_taken s.classes s.constraints s.classes e (n, v) (look_in s.classes n v p)))

    back : ((n v : ℕ) → look s.classes n ≡ some v → look s.constraints n ≡ none) → (o : Option (ℕ × Constraint)) → take_class s.classes s.constraints s.classes ≡ o → take_class s.classes s.constraints s.classes ≡ none
    back h none q = q
    back h (some (low, c)) q = let T = taken s F low c q in absurd (never (sym (h T.member low T.labelled) ∙ T.constrained))

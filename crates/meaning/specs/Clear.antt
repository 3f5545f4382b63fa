-- Outcomes that are not refused with 4 or 6: how they follow from their parts, and that adding sites and the rounds are such.
use Rattle.std.specs.Prelude.{◌≡◌, refl, Bool, true, false, not, ◌&&◌, List, [], ◌∷◌, ℕ, zero, suc, length, eqb, ltb, leb}
use Rattle.std.proofs.Common.{ap, inl, inr, arith}
use Rattle.std.proofs.Math.Option.{Option, none, some}
use Rattle.paper.specs.declared.Constraint.{Constraint}
use Rattle.paper.specs.declared.Refusal.{Refusal}
use Rattle.paper.specs.declared.Refusal.TheVariants.{Unknown, TooManySites, TooManySources, TermTooHigh}
use Rattle.paper.specs.Words.{first}
use Rattle.paper.specs.Numbers.{max_sites, max_sources, max_term, number, Outcome, done, refused, ◌>>=◌, demand}
use Rattle.paper.specs.Sites.{Site, Sites, sources, term_of, known, number_of, children, missing_source, term_fits, or_next, add, add_all}
use Rattle.paper.specs.Loading.{Solving, members, take_class, grow_all, round, rounds}
use Rattle.meaning.specs.RuleSites.{FourOrSix}

-- the numbers of the others
abbrev pub other : ℕ → Bool
other n = not (eqb n 4) && not (eqb n 6)

is_other : (r : Refusal) → other (number r) ≡ true → FourOrSix r → ⊥
is_other r e (inl f) = let z : false ≡ true = rw f at e in let y : ◌≡◌ {A = ℕ} 0 1 = cc in omega arith
is_other r e (inr f) = let z : false ≡ true = rw f at e in let y : ◌≡◌ {A = ℕ} 0 1 = cc in omega arith

abbrev pub Clear : {A : Type 0} → Outcome A → Type 0
Clear o = (x : Refusal) → o ≡ refused x → FourOrSix x → ⊥

pub clear_done : {A : Type 0} (a : A) → Clear (done a)
clear_done a x e u = let z : ◌≡◌ {A = ℕ} 0 1 = cc in omega arith

pub clear_refused : {A : Type 0} (r : Refusal) → other (number r) ≡ true → Clear {A = A} (refused r)
clear_refused r h x e u = let q : x ≡ r = cc in is_other r h (rw q at u)

pub clear_then : {A B : Type 0} (o : Outcome A) (f : A → Outcome B) → Clear o → ((a : A) → o ≡ done a → Clear (f a)) → Clear (o >>= f)
clear_then (done a) f p q x e u = q a refl x e u
clear_then (refused r) f p q x e u = let z : r ≡ x = cc in p x (ap refused z) u

pub clear_demand : {A : Type 0} (b : Bool) (r : Refusal) (f : Unit {0} → Outcome A) → other (number r) ≡ true → Clear (f tt) → Clear (demand b r >>= f)
clear_demand true r f h q = q
clear_demand false r f h q = clear_refused r h

-- ---- adding sites

missing_clear : (o : Option ℕ) → Clear (missing_source o)
unfolding number
missing_clear none = clear_done tt
missing_clear (some n) = clear_refused (Unknown n) refl

term_clear : (o : Option ℕ) → Clear (term_fits o)
unfolding number
term_clear none = clear_done tt
term_clear (some n) = go (leb n max_term)
  where
    go : (b : Bool) → Clear (demand b (TermTooHigh n))
    go true = clear_done tt
    go false = clear_refused (TermTooHigh n) refl

next_clear : (t : Sites) (at : ℕ) (s : Site) (o : Option ℕ) → Clear (or_next t at s o)
unfolding number
next_clear t at s (some n) = clear_done _
next_clear t at s none = clear_demand (ltb (length t) max_sites) (TooManySites (suc (length t)) at) _ refl (clear_done _)

add_clear : (t : Sites) (at : ℕ) (s : Site) → Clear (add t at s)
unfolding add number
add_clear t at s =
    clear_then (missing_source (first (λ n. not (known t n)) (sources s))) _ (missing_clear (first (λ n. not (known t n)) (sources s))) (λ a e.
    clear_demand (leb (length (sources s)) max_sources) (TooManySources (length (sources s)) at) _ refl
    (clear_then (term_fits (term_of s)) _ (term_clear (term_of s)) (λ a e. next_clear t at s (number_of t s))))

pub add_all_clear : (t : Sites) (at : ℕ) (ss : List Site) → Clear (add_all t at ss)
unfolding add_all
add_all_clear t at [] = clear_done t
add_all_clear t at (s ∷ ss) = clear_then (add t at s) _ (add_clear t at s) (λ a e. add_all_clear a.sites at ss)

-- ---- the rounds

grow_clear : (t : Sites) (at : ℕ) (ns : List ℕ) (c : Constraint) → Clear (grow_all t at ns c)
unfolding grow_all
grow_clear t at [] c = clear_done t
grow_clear t at (n ∷ ns) c = clear_then (add_all t at (children n c)) _ (add_all_clear t at (children n c)) (λ t' e. grow_clear t' at ns c)

round_clear : (s : Solving) (at low : ℕ) (c : Constraint) → Clear (round s at low c)
unfolding round
round_clear s at low c =
    clear_then (grow_all s.sites at (members s.classes low) c) _ (grow_clear s.sites at (members s.classes low) c) (λ t e. clear_done _)

pub rounds_clear : (n at : ℕ) (s : Solving) → Clear (rounds n at s)
unfolding rounds
rounds_clear zero at s = clear_done s
rounds_clear (suc n) at s = go (take_class s.classes s.constraints s.classes) (λ s'. rounds_clear n at s')
  where
    go : (o : Option (ℕ × Constraint)) → ((s' : Solving) → Clear (rounds n at s')) →
        Clear {A = Solving} (elim o as (λ _. Outcome Solving) [ none ↦ done s | some p ↦ round s at p.0 p.1 >>= rounds n at ])
    go none r = clear_done s
    go (some p) r = clear_then (round s at p.0 p.1) (rounds n at) (round_clear s at p.0 p.1) (λ s' e. r s')

-- The list words of paper, as facts.
use Rattle.std.specs.Prelude.{◌≡◌, refl, Bool, true, false, ◌||◌, ℕ, min}
use Rattle.std.proofs.Common.{sym, ap, ◌∙◌, arith}
use Rattle.std.proofs.Math.Option.{Option, none, some}
use mathlib.Core.List.{List, [], ◌∷◌, Memᴰ}
use Rattle.std.proofs.Math.Decide.{ℕ_discrete}
use Rattle.paper.specs.Words.{any, least, first}
use Rattle.paper.proofs.Labels.{never}

pub of_any : {A : Type 0} (p : A → Bool) (xs : List A) → any p xs ≡ true → (x : A) × Memᴰ x xs × (p x ≡ true)
unfolding any
of_any p [] e = let z : ◌≡◌ {A = ℕ} 0 1 = cc in absurd (omega arith)
of_any p (y ∷ xs) e = go (p y) refl e (λ q. of_any p xs q)
  where
    go : (b : Bool) → p y ≡ b → (b || any p xs) ≡ true → (any p xs ≡ true → (x : _) × Memᴰ x xs × (p x ≡ true)) →
        (x : _) × Memᴰ x (y ∷ xs) × (p x ≡ true)
    go true q f r = (y, Memᴰ.head refl, q)
    go false q f r = let w = r f in (w.0, Memᴰ.tail w.1, w.2)

pub in_any : {A : Type 0} (p : A → Bool) (xs : List A) (x : A) → Memᴰ x xs → p x ≡ true → any p xs ≡ true
unfolding any
in_any {A = A} p [] x x4 e = elim x4 [ ]
in_any p (y ∷ xs) x (Memᴰ.head q) e = let z : p y ≡ true = ap p (sym q) ∙ e in rw z
in_any p (y ∷ xs) x (Memᴰ.tail m) e = go (p y) (in_any p xs x m e)
  where
    go : (b : Bool) → any p xs ≡ true → (b || any p xs) ≡ true
    go true f = refl
    go false f = f

pub least_none : (xs : List ℕ) (x : ℕ) → least xs ≡ none → Memᴰ x xs → ⊥
unfolding least
least_none [] x e m = elim m [ ]
least_none (y ∷ xs) x e m = go (least xs) e
  where
    go : (o : Option ℕ) → ◌≡◌ {A = Option ℕ} (elim o as (λ _. Option ℕ) [ none ↦ some y | some z ↦ some (min y z) ]) none → ⊥
    go none q = never (sym q)
    go (some z) q = never (sym q)

pub least_some : (xs : List ℕ) (n : ℕ) → least xs ≡ some n → Memᴰ n xs
unfolding least
least_some [] n e = absurd (never e)
least_some (y ∷ xs) n e = go (least xs) refl e (λ m q. least_some xs m q)
  where
    go : (o : Option ℕ) → least xs ≡ o → elim o as (λ _. Option ℕ) [ none ↦ some y | some z ↦ some (min y z) ] ≡ some n →
        ((m : ℕ) → least xs ≡ some m → Memᴰ m xs) → Memᴰ n (y ∷ xs)
    go none q f r = let z : y ≡ n = cc in Memᴰ.head (sym z)
    go (some z) q f r = pick (ℕ_discrete y n)
      where
        pick : Dec (y ≡ n) → Memᴰ n (y ∷ xs)
        pick (yes p) = Memᴰ.head (sym p)
        pick (no p) = let w : min y z ≡ n = cc in let u : z ≡ n = omega arith in Memᴰ.tail (r n (q ∙ ap some u))

pub first_some : {A : Type 0} (p : A → Bool) (xs : List A) (x : A) → first p xs ≡ some x → Memᴰ x xs × (p x ≡ true)
unfolding first
first_some p [] x e = absurd (never e)
first_some {A} p (y ∷ xs) x e = go (p y) refl e (λ q. first_some p xs x q)
  where
    go : (b : Bool) → p y ≡ b → elim b as (λ _. Option A) [ true ↦ some y | false ↦ first p xs ] ≡ some x →
        (first p xs ≡ some x → Memᴰ x xs × (p x ≡ true)) → Memᴰ x (y ∷ xs) × (p x ≡ true)
    go true f q r = let z : y ≡ x = cc in (Memᴰ.head (sym z), ap p (sym z) ∙ f)
    go false f q r = let w = r q in (Memᴰ.tail w.0, w.1)

pub first_none : {A : Type 0} (p : A → Bool) (xs : List A) → first p xs ≡ none → (x : A) → Memᴰ x xs → p x ≡ false
unfolding first
first_none {A = A} p [] e x m = elim m [ ]
first_none {A} p (y ∷ xs) e x m = go (p y) refl e m (λ q k. first_none p xs q x k)
  where
    go : (b : Bool) → p y ≡ b → ◌≡◌ {A = Option A} (elim b as (λ _. Option A) [ true ↦ some y | false ↦ first p xs ]) none → Memᴰ x (y ∷ xs) →
        (first p xs ≡ none → Memᴰ x xs → p x ≡ false) → p x ≡ false
    go true f q k r = absurd (never (sym q))
    go false f q (Memᴰ.head w) r = rw w f
    go false f q (Memᴰ.tail w) r = r q w

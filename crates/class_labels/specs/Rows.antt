-- Ascending tables as rows: for the numbers below c, ascending, those that pass a test, each with what a function gives.
use Rattle.std.specs.Prelude.{◌≡◌, refl, Bool, true, false, length}
use Rattle.std.proofs.Math.Path.{sym, ap, subst}
use Rattle.std.proofs.Common.{◌∙◌, length-append}
use Rattle.std.proofs.Math.Option.{Option, none, some}
use mathlib.Core.List.Memᴰ
use mathlib.Core.List.{List, [], ◌∷◌, ◌++◌, map, Memᴰ}
use Prim.Native.Nat.{ℕ, zero, suc, ◌+◌, ◌≤◌, ◌<◌}
use native.Mathlib.Omega.{arith}
use Rattle.paper.specs.Words.{keep, below, Table, look}
use Rattle.paper.specs.Loading.{Labels}
use Rattle.paper.proofs.Tables.{of_keep, in_keep, Rising, keep_rising, look_in, above}
use Rattle.paper.proofs.Closure.{of_below, in_below}
use Rattle.paper.proofs.Lists.{map_last}
use Rattle.classes.specs.Well.{cnt, bit}
use Rattle.classes.proofs.Tables.{Once}

-- ---- ascending tables

-- t has the entries of s
abbrev pub Has : {A : Type 0} → Table A → Table A → Type 0
Has {A} t s = (p : ℕ × A) → Memᴰ p s → Memᴰ p t

-- two that have the same entries are one
pub rising_same : {A : Type 0} (n : ℕ) (s t : Table A) → Rising n s → Rising n t → Has t s → Has s t → s ≡ t
rising_same n [] [] R S f g = refl
rising_same n [] (q ∷ t) R S f g = elim (g q (Memᴰ.head refl)) [ ]
rising_same n (p ∷ s) [] R S f g = elim (f p (Memᴰ.head refl)) [ ]
rising_same {A} n (p ∷ s) (q ∷ t) R S f g =
    by (f p (Memᴰ.head refl)) (g q (Memᴰ.head refl)) (λ S' h i. rising_same (suc p.0) s t R.1 S' h i)
  where
    rest : (a b : ℕ × A) (l : Table A) → a ≡ b → Rising (suc a.0) l → (x : ℕ × A) → x ≡ b → Memᴰ x l → ⊥
    rest a b l e r x d m = let z = above (suc a.0) l x r m in let y : x.0 ≡ a.0 = ap (λ (w : ℕ × A). w.0) (d ∙ sym e) in omega arith

    out : (a b : ℕ × A) (l k : Table A) → a ≡ b → Rising (suc a.0) l → (x : ℕ × A) → Memᴰ x l → Memᴰ x (b ∷ k) → Memᴰ x k
    out a b l k e r x m (Memᴰ.head d) = absurd (rest a b l e r x d m)
    out a b l k e r x m (Memᴰ.tail d) = d

    both : p ≡ q → (Rising (suc p.0) t → Has t s → Has s t → s ≡ t) → ◌≡◌ {A = Table A} (p ∷ s) (q ∷ t)
    both e ih =
        let S' : Rising (suc p.0) t = subst (λ (x : ℕ × A). Rising (suc x.0) t) (sym e) S.1 in
        let w : s ≡ t = ih S' (λ x m. out p q s t e R.1 x m (f x (Memᴰ.tail m))) (λ x m. out q p t s (sym e) S.1 x m (g x (Memᴰ.tail m))) in
        rw (e, w)

    by : Memᴰ p (q ∷ t) → Memᴰ q (p ∷ s) → (Rising (suc p.0) t → Has t s → Has s t → s ≡ t)
        → ◌≡◌ {A = Table A} (p ∷ s) (q ∷ t)
    by (Memᴰ.head e) y ih = both e ih
    by (Memᴰ.tail m) (Memᴰ.head e) ih = both (sym e) ih
    by (Memᴰ.tail m) (Memᴰ.tail o) ih =
        let u = above (suc q.0) t p S.1 m in
        let v = above (suc p.0) s q R.1 o in
        absurd (omega arith)

rising_none : {A : Type 0} (n j : ℕ) (t : Table A) → Rising j t → n < j → look t n ≡ none
rising_none {A} n j t R h = go (look t n) refl
  where
    go : (o : Option A) → look t n ≡ o → look t n ≡ none
    go none e = e
    go (some a) e = let z = above j t (n, a) R (look_in t n a e) in absurd (omega arith)

pub rising_once : (j : ℕ) (t : Labels) → Rising j t → Once t
rising_once j [] R = tt
rising_once j ((n, v) ∷ t) R = (rising_none n (suc n) t R.1 (omega arith), rising_once (suc n) t R.1)

rising_last : {A : Type 0} (n : ℕ) (t : Table A) (a : ℕ) (v : A) → Rising n t → ((p : ℕ × A) → Memᴰ p t → p.0 < a) → n ≤ a → Rising n (t ++ ((a, v) ∷ []))
rising_last n [] a v R h l = (l, tt)
rising_last n (p ∷ t) a v R h l = (R.0, rising_last (suc p.0) t a v R.1 (λ q m. h q (Memᴰ.tail m)) (h p (Memᴰ.head refl)))

-- ---- lists

pub keep_all : {A : Type 0} (f : A → Bool) (xs : List A) → ((x : A) → Memᴰ x xs → f x ≡ true) → keep f xs ≡ xs
unfolding keep
keep_all f [] h = refl
keep_all f (x ∷ xs) h = rw (h x (Memᴰ.head refl), keep) (ap (λ l. x ∷ l) (keep_all f xs (λ y m. h y (Memᴰ.tail m))))

pub keep_most : {A : Type 0} (f : A → Bool) (xs : List A) → length (keep f xs) ≤ length xs
unfolding keep
keep_most f [] = omega arith
keep_most {A} f (x ∷ xs) = go (f x) (keep_most f xs)
  where
    go : (b : Bool) → length (keep f xs) ≤ length xs → length {A = A} (elim b as (λ _. List A) [ true ↦ x ∷ keep f xs | false ↦ keep f xs ]) ≤ suc (length xs)
    go true h = omega arith
    go false h = omega arith

pub below_length : {A : Type 0} (c : ℕ) (f : ℕ → A) → length (below c f) ≡ c
unfolding below
below_length zero f = refl
below_length (suc c) f = let h = below_length c f in simp length-append (omega arith)

kept_last : (f : ℕ → Bool) (xs : List ℕ) (y : ℕ) → length (keep f (xs ++ (y ∷ []))) ≡ bit (f y) + length (keep f xs)
unfolding keep
kept_last f [] y = go (f y)
  where
    go : (b : Bool) → length {A = ℕ} (elim b as (λ _. List ℕ) [ true ↦ y ∷ [] | false ↦ [] ]) ≡ bit b + 0
    go true = refl
    go false = refl
kept_last f (x ∷ xs) y = go (f x) (kept_last f xs y)
  where
    go : (b : Bool) → length (keep f (xs ++ (y ∷ []))) ≡ bit (f y) + length (keep f xs)
        → length {A = ℕ} (elim b as (λ _. List ℕ) [ true ↦ x ∷ keep f (xs ++ (y ∷ [])) | false ↦ keep f (xs ++ (y ∷ [])) ])
        ≡ bit (f y) + length {A = ℕ} (elim b as (λ _. List ℕ) [ true ↦ x ∷ keep f xs | false ↦ keep f xs ])
    go true i = omega arith
    go false i = i

-- how many numbers below c are kept
pub kept_count : (f : ℕ → Bool) (c : ℕ) → length (keep f (below c (λ z. z))) ≡ cnt f c
unfolding keep below cnt
kept_count f zero = refl
kept_count f (suc c) = let i = kept_count f c in kept_last f (below c (λ z. z)) c ∙ omega arith

-- ---- rows

abbrev pub beside : {A : Type 0} → (ℕ → A) → ℕ → ℕ × A
beside g z = (z, g z)

unfoldable pub row : {A : Type 0} → ℕ → (ℕ → A) → (ℕ → Bool) → Table A
row c g f = map (beside g) (keep f (below c (λ z. z)))

pairs_keep : {A : Type 0} (g : ℕ → A) (f : ℕ → Bool) (xs : List ℕ) → map (beside g) (keep f xs) ≡ keep (λ p. f p.0) (map (beside g) xs)
unfolding keep
pairs_keep g f [] = refl
pairs_keep {A} g f (x ∷ xs) = go (f x) (pairs_keep g f xs)
  where
    go : (b : Bool) → map (beside g) (keep f xs) ≡ keep (λ p. f p.0) (map (beside g) xs)
        → map (beside g) (elim b as (λ _. List ℕ) [ true ↦ x ∷ keep f xs | false ↦ keep f xs ])
        ≡ elim b as (λ _. Table A) [ true ↦ (x, g x) ∷ keep (λ p. f p.0) (map (beside g) xs) | false ↦ keep (λ p. f p.0) (map (beside g) xs) ]
    go true i = ap (λ l. (x, g x) ∷ l) i
    go false i = i

all_rise : {A : Type 0} (c : ℕ) (g : ℕ → A) → Rising 0 (map (beside g) (below c (λ z. z)))
unfolding below
all_rise zero g = tt
all_rise {A} (suc c) g =
    subst (λ (t : Table A). Rising 0 t) (sym (map_last (beside g) (below c (λ z. z)) c))
    (rising_last 0 (map (beside g) (below c (λ z. z))) c (g c) (all_rise c g) less (omega arith))
  where
    less : (p : ℕ × A) → Memᴰ p (map (beside g) (below c (λ z. z))) → p.0 < c
    less p m =
        let x = Memᴰ.of_map (beside g) (below c (λ z. z)) m in
        let y = of_below c (λ z. z) x.0 x.1 in
        let e : x.0 ≡ p.0 = ap (λ (w : ℕ × A). w.0) x.2 in
        let d : x.0 ≡ y.0 = y.2 in
        let l = y.1 in
        omega arith

module _ {A : Type 0} (c : ℕ) (g : ℕ → A) (f : ℕ → Bool) where
  pub row_rising : Rising 0 (row c g f)
  unfolding row
  row_rising =
      subst (λ (t : Table A). Rising 0 t) (sym (pairs_keep g f (below c (λ z. z))))
      (keep_rising (λ p. f p.0) 0 (map (beside g) (below c (λ z. z))) (all_rise c g))

  pub in_row : (z : ℕ) → z < c → f z ≡ true → Memᴰ (z, g z) (row c g f)
  unfolding row
  in_row z l e = Memᴰ.map (beside g) (in_keep f (below c (λ z. z)) z (in_below c (λ z. z) z l) e)

  pub of_row : (p : ℕ × A) → Memᴰ p (row c g f) → (p.0 < c) × (f p.0 ≡ true) × (p.1 ≡ g p.0)
  unfolding row
  of_row p m =
      let x = Memᴰ.of_map (beside g) (keep f (below c (λ z. z))) m in
      let y = of_keep f (below c (λ z. z)) x.0 x.1 in
      let w = of_below c (λ z. z) x.0 y.0 in
      let e : x.0 ≡ p.0 = ap (λ (w : ℕ × A). w.0) x.2 in
      let d : g x.0 ≡ p.1 = ap (λ (w : ℕ × A). w.1) x.2 in
      let u : x.0 ≡ w.0 = w.2 in
      let l = w.1 in
      (omega arith, ap f (sym e) ∙ y.1, sym d ∙ ap g e)

  firsts : (xs : List ℕ) → map (λ (p : ℕ × A). p.0) (map (beside g) xs) ≡ xs
  firsts [] = refl
  firsts (x ∷ xs) = ap (λ l. x ∷ l) (firsts xs)

  pub row_firsts : map (λ p. p.0) (row c g f) ≡ keep f (below c (λ z. z))
  unfolding row
  row_firsts = firsts (keep f (below c (λ z. z)))

-- Laws of tests and lists that the proofs use.
use mathlib.Core.Path.{◌≡◌, refl, sym, ap, ◌∙◌}
use mathlib.Core.Bool.{Bool, true, false, ◌&&◌, ◌||◌}
use mathlib.Core.Option.{Option, none, some}
use mathlib.Core.Logic.{◌⊎◌, inl, inr}
use mathlib.Core.List.Memᴰ
use mathlib.Core.List.{List, [], ◌∷◌, ◌++◌, Memᴰ}
use Prim.Native.Nat.{ℕ, zero, suc, ◌≤◌, ◌<◌}
use native.Mathlib.Omega.{arith}
use native.Mathlib.Decide.{ℕ_discrete}
use lib.ListN.{length, get_or, length-append, get_or-append}
use lib.Seq.{get_or_at}
use Rattle.paper.specs.declared.Constraint.{Constraint}
use Rattle.paper.specs.Words.{any, keep, below, every, joined}
use Rattle.paper.specs.Sites.{same_constraint}
use Rattle.paper.proofs.Labels.{never}
use Rattle.paper.proofs.Laws.{same_list_refl}
use Rattle.plan.specs.Plans.{first_of}

-- ---- tests

pub apart : {b : Bool} → b ≡ true → b ≡ false → ⊥
apart p q = let z : ◌≡◌ {A = ℕ} 0 1 = cc in omega arith

pub either : (b : Bool) → (b ≡ true) ⊎ (b ≡ false)
either true = inl refl
either false = inr refl

pub is_false : (b : Bool) → (b ≡ true → ⊥) → b ≡ false
is_false true f = absurd (f refl)
is_false false f = refl

pub and_true : (a b : Bool) → (a && b) ≡ true → (a ≡ true) × (b ≡ true)
and_true true b e = (refl, e)
and_true false b e = absurd (apart e refl)

pub true_and : (a b : Bool) → a ≡ true → b ≡ true → (a && b) ≡ true
true_and true b e f = f
true_and false b e f = absurd (apart e refl)

pub and_not : (a b : Bool) → (a ≡ true → b ≡ true → ⊥) → (a && b) ≡ false
and_not true b f = is_false b (f refl)
and_not false b f = refl

pub or_true : (a b : Bool) → (a || b) ≡ true → (a ≡ true) ⊎ (b ≡ true)
or_true true b e = inl refl
or_true false b e = inr e

pub true_or : (a b : Bool) → a ≡ true → (a || b) ≡ true
true_or true b e = refl
true_or false b e = absurd (apart e refl)

pub or_so : (a b : Bool) → b ≡ true → (a || b) ≡ true
or_so true b e = refl
or_so false b e = e

-- ---- the first that is found

abbrev or_next : {A : Type 0} → Option A → Option A → Option A
or_next (some a) o = some a
or_next none o = o

first_next : {A : Type 0} (n : ℕ) (f : ℕ → Option A) → first_of (suc n) f ≡ or_next (first_of n f) (f n)
unfolding first_of
first_next {A} n f = go (first_of n f)
  where
    go : (o : Option A) → elim o as (λ _. Option A) [ some a ↦ some a | none ↦ f n ] ≡ or_next o (f n)
    go (some a) = refl
    go none = refl

next_none : {A : Type 0} (o x : Option A) → or_next o x ≡ none → (o ≡ none) × (x ≡ none)
next_none (some a) x e = absurd (never (sym e))
next_none none x e = (refl, e)

next_some : {A : Type 0} (o x : Option A) (a : A) → or_next o x ≡ some a → (o ≡ some a) ⊎ ((o ≡ none) × (x ≡ some a))
next_some (some b) x a e = inl e
next_some none x a e = inr (refl, e)

pub none_of : {A : Type 0} (n : ℕ) (f : ℕ → Option A) → first_of n f ≡ none → (k : ℕ) → k < n → f k ≡ none
none_of zero f e k h = absurd (omega arith)
none_of (suc n) f e k h = go (ℕ_discrete k n) (next_none (first_of n f) (f n) (sym (first_next n f) ∙ e)) (λ q l. none_of n f q k l)
  where
    go : Dec (k ≡ n) → (first_of n f ≡ none) × (f n ≡ none) → (first_of n f ≡ none → k < n → f k ≡ none) → f k ≡ none
    go (yes q) r s = ap f q ∙ r.1
    go (no q) r s = s r.0 (omega arith)

pub of_none : {A : Type 0} (n : ℕ) (f : ℕ → Option A) → ((k : ℕ) → k < n → f k ≡ none) → first_of n f ≡ none
unfolding first_of
of_none zero f h = refl
of_none (suc n) f h =
    let a = of_none n f (λ k l. h k (omega arith)) in
    let b = h n (omega arith) in
    first_next n f ∙ rw (a, b) refl

pub some_of : {A : Type 0} (n : ℕ) (f : ℕ → Option A) (a : A) → first_of n f ≡ some a → (k : ℕ) × (k < n) × (f k ≡ some a) × ((m : ℕ) → m < k → f m ≡ none)
unfolding first_of
some_of zero f a e = absurd (never e)
some_of (suc n) f a e = go (next_some (first_of n f) (f n) a (sym (first_next n f) ∙ e)) (λ q. some_of n f a q)
  where
    go : (first_of n f ≡ some a) ⊎ ((first_of n f ≡ none) × (f n ≡ some a)) → (first_of n f ≡ some a → (k : ℕ) × (k < n) × (f k ≡ some a) × ((m : ℕ) → m < k → f m ≡ none)) → (k : ℕ) × (k < suc n) × (f k ≡ some a) × ((m : ℕ) → m < k → f m ≡ none)
    go (inl q) s = let w = s q in let l = w.1 in (w.0, (omega arith), w.2, w.3)
    go (inr q) s = (n, (omega arith), q.1, none_of n f q.0)

pub of_some : {A : Type 0} (n : ℕ) (f : ℕ → Option A) (k : ℕ) (a : A) → k < n → f k ≡ some a → ((m : ℕ) → m < k → f m ≡ none) → first_of n f ≡ some a
of_some zero f k a h e m = absurd (omega arith)
of_some (suc n) f k a h e m = first_next n f ∙ go (ℕ_discrete k n) (λ l. of_some n f k a l e m)
  where
    go : Dec (k ≡ n) → (k < n → first_of n f ≡ some a) → or_next (first_of n f) (f n) ≡ some a
    go (yes q) s = let z = of_none n f (λ x l. m x (omega arith)) in let y : f n ≡ some a = rw (← q) e in rw (z, y) refl
    go (no q) s = let z = s (omega arith) in rw z refl

-- ---- f 0, f 1 .. f (n - 1)

pub below_length : {A : Type 0} (n : ℕ) (f : ℕ → A) → length (below n f) ≡ n
unfolding below
below_length zero f = refl
below_length (suc n) f = let e = length-append (below n f) (f n ∷ []) in let i = below_length n f in omega (arith, e, i)

pub below_at : {A : Type 0} (n : ℕ) (f : ℕ → A) (i : ℕ) (d : A) → i < n → get_or (below n f) i d ≡ f i
unfolding below
below_at zero f i d h = absurd (omega arith)
below_at (suc n) f i d h = go (ℕ_discrete i n) (λ l. below_at n f i d l)
  where
    go : Dec (i ≡ n) → (i < n → get_or (below n f) i d ≡ f i) → get_or (below n f ++ (f n ∷ [])) i d ≡ f i
    go (yes q) s = get_or_at (below n f) (f n) [] d i (below_length n f ∙ sym q) ∙ ap f (sym q)
    go (no q) s = let e = below_length n f in get_or-append (below n f) (f n ∷ []) d i (omega arith) ∙ s (omega arith)

-- ---- counting those that pass a test

pub keep_here : {A : Type 0} (f : A → Bool) (x : A) (l : List A) → f x ≡ true → keep f (x ∷ l) ≡ x ∷ keep f l
unfolding keep
keep_here f x l e = rw (e, keep)

pub keep_past : {A : Type 0} (f : A → Bool) (x : A) (l : List A) → f x ≡ false → keep f (x ∷ l) ≡ keep f l
unfolding keep
keep_past f x l e = rw (e, keep)

pub keep_fewer : {A : Type 0} (f k : A → Bool) (l : List A) → ((x : A) → f x ≡ true → k x ≡ true) → length (keep f l) ≤ length (keep k l)
unfolding keep
keep_fewer f k [] h = omega arith
keep_fewer f k (x ∷ l) h = go (either (f x)) (either (k x)) (keep_fewer f k l h)
  where
    go : (f x ≡ true) ⊎ (f x ≡ false) → (k x ≡ true) ⊎ (k x ≡ false) → length (keep f l) ≤ length (keep k l) → length (keep f (x ∷ l)) ≤ length (keep k (x ∷ l))
    go (inl p) (inl q) i = rw (keep_here f x l p, keep_here k x l q) (omega arith)
    go (inl p) (inr q) i = absurd (apart (h x p) q)
    go (inr p) (inl q) i = rw (keep_past f x l p, keep_here k x l q) (omega arith)
    go (inr p) (inr q) i = rw (keep_past f x l p, keep_past k x l q) i

-- and one more, if some element passes only the second
pub keep_fewer_still : {A : Type 0} (f k : A → Bool) (l : List A) (y : A) → ((x : A) → f x ≡ true → k x ≡ true) → Memᴰ y l → f y ≡ false → k y ≡ true → length (keep f l) < length (keep k l)
keep_fewer_still {A = A} f k [] y h x4 e g = elim x4 [ ]
keep_fewer_still f k (x ∷ l) y h (Memᴰ.head q) e g =
    let p : f x ≡ false = rw (← q) e in
    let r : k x ≡ true = rw (← q) g in
    let i = keep_fewer f k l h in
    rw (keep_past f x l p, keep_here k x l r) (omega arith)
keep_fewer_still f k (x ∷ l) y h (Memᴰ.tail q) e g = go (either (f x)) (either (k x)) (keep_fewer_still f k l y h q e g)
  where
    go : (f x ≡ true) ⊎ (f x ≡ false) → (k x ≡ true) ⊎ (k x ≡ false) → length (keep f l) < length (keep k l) → length (keep f (x ∷ l)) < length (keep k (x ∷ l))
    go (inl p) (inl r) i = rw (keep_here f x l p, keep_here k x l r) (omega arith)
    go (inl p) (inr r) i = absurd (apart (h x p) r)
    go (inr p) (inl r) i = rw (keep_past f x l p, keep_here k x l r) (omega arith)
    go (inr p) (inr r) i = rw (keep_past f x l p, keep_past k x l r) i

pub keep_all : {A : Type 0} (l : List A) → keep (λ _. true) l ≡ l
unfolding keep
keep_all [] = refl
keep_all (x ∷ l) = ap (λ z. x ∷ z) (keep_all l)

pub same_test : (a b : Bool) → (a ≡ true → b ≡ true) → (b ≡ true → a ≡ true) → a ≡ b
same_test true b f k = sym (f refl)
same_test false b f k = sym (is_false b (λ e. apart (k e) refl))

pub of_every : {A : Type 0} (f : A → Bool) (l : List A) → every f l ≡ true → (x : A) → Memᴰ x l → f x ≡ true
unfolding every
of_every {A = A} f [] e x x4 = elim x4 [ ]
of_every f (y ∷ l) e x (Memᴰ.head q) = rw q (and_true (f y) (every f l) e).0
of_every f (y ∷ l) e x (Memᴰ.tail m) = of_every f l (and_true (f y) (every f l) e).1 x m

pub in_every : {A : Type 0} (f : A → Bool) (l : List A) → ((x : A) → Memᴰ x l → f x ≡ true) → every f l ≡ true
unfolding every
in_every f [] h = refl
in_every f (y ∷ l) h = true_and (f y) (every f l) (h y (Memᴰ.head refl)) (in_every f l (λ x m. h x (Memᴰ.tail m)))

-- ---- members

pub of_any : {A : Type 0} (p : A → Bool) (xs : List A) → any p xs ≡ true → (x : A) × Memᴰ x xs × (p x ≡ true)
unfolding any
of_any p [] e = absurd (apart e refl)
of_any p (y ∷ xs) e = go (p y) refl e (λ q. of_any p xs q)
  where
    go : (b : Bool) → p y ≡ b → (b || any p xs) ≡ true → (any p xs ≡ true → (x : _) × Memᴰ x xs × (p x ≡ true)) → (x : _) × Memᴰ x (y ∷ xs) × (p x ≡ true)
    go true q f r = (y, Memᴰ.head refl, q)
    go false q f r = let w = r f in (w.0, Memᴰ.tail w.1, w.2)

pub in_any : {A : Type 0} (p : A → Bool) (xs : List A) (x : A) → Memᴰ x xs → p x ≡ true → any p xs ≡ true
unfolding any
in_any {A = A} p [] x x4 e = elim x4 [ ]
in_any p (y ∷ xs) x (Memᴰ.head q) e = let z : p y ≡ true = ap p (sym q) ∙ e in rw z
in_any p (y ∷ xs) x (Memᴰ.tail m) e = or_so (p y) (any p xs) (in_any p xs x m e)

pub of_joined : {A : Type 0} (xss : List (List A)) (x : A) → Memᴰ x (joined xss) → (xs : List A) × Memᴰ xs xss × Memᴰ x xs
unfolding joined
of_joined [] x m = elim m [ ]
of_joined (ys ∷ xss) x m = go (Memᴰ.append_cases ys m) (λ q. of_joined xss x q)
  where
    go : Memᴰ x ys ⊎ Memᴰ x (joined xss) → (Memᴰ x (joined xss) → (xs : List _) × Memᴰ xs xss × Memᴰ x xs) → (xs : List _) × Memᴰ xs (ys ∷ xss) × Memᴰ x xs
    go (inl q) r = (ys, Memᴰ.head refl, q)
    go (inr q) r = let w = r q in (w.0, Memᴰ.tail w.1, w.2)

pub in_joined : {A : Type 0} (xss : List (List A)) (xs : List A) (x : A) → Memᴰ xs xss → Memᴰ x xs → Memᴰ x (joined xss)
unfolding joined
in_joined {A = A} [] xs x x4 m = elim x4 [ ]
in_joined (ys ∷ xss) xs x (Memᴰ.head e) m = Memᴰ.append_left (joined xss) (rw e at m)
in_joined (ys ∷ xss) xs x (Memᴰ.tail k) m = Memᴰ.append_right ys (in_joined xss xs x k m)

pub same_constraint_refl : (c : Constraint) → same_constraint c c ≡ true
unfolding same_constraint
same_constraint_refl c = same_list_refl _

-- Ascending lists are known by their members.
use mathlib.Core.Path.{◌≡◌, refl, sym, ◌∙◌, ap}
use mathlib.Core.Bool.{Bool, true, false}
use mathlib.Core.Logic.{◌↔◌, ◌⊎◌, inl, inr, ⊎_elim}
use mathlib.Core.List.Memᴰ
use mathlib.Core.List.{List, [], ◌∷◌, ◌++◌, Memᴰ}
use Prim.Native.Nat.{ℕ, zero, suc, ◌≤◌, ◌<◌, compare, Ordering}
use native.Mathlib.Omega.{arith}
use lib.Dec.{compare_is_eq, is_le}
use borrow.Author.Tests.{eqb-true, eqb-false, leb-true, leb-false}
use Rattle.paper.specs.Words.{keep, below, insert, ascending}
use Rattle.term_table.proofs.Lists.{mem_keep, mem_numbers, keep_in, keep_out, keep_nil}

pub data Asc : List ℕ → Type 0 where
  empty : Asc []
  front : {x : ℕ} {xs : List ℕ} → ((y : ℕ) → Memᴰ y xs → x < y) → Asc xs → Asc (x ∷ xs)

pub asc_same : (xs ys : List ℕ) → Asc xs → Asc ys → ((a : ℕ) → Memᴰ a xs ↔ Memᴰ a ys) → xs ≡ ys
asc_same [] [] p q f = refl
asc_same [] (y ∷ ys) p q f = absurd (Memᴰ.not-nil ((f y).1 (Memᴰ.head refl)))
asc_same (x ∷ xs) [] p q f = absurd (Memᴰ.not-nil ((f x).0 (Memᴰ.head refl)))
asc_same (x ∷ xs) (y ∷ ys) (front h p) (front k q) f = cc (same, asc_same xs ys p q (λ a. (of a, to a)))
  where
    same : x ≡ y
    same = go (Memᴰ.cases_cons ((f x).0 (Memᴰ.head refl))) (Memᴰ.cases_cons ((f y).1 (Memᴰ.head refl)))
      where
        go : (x ≡ y) ⊎ Memᴰ x ys → (y ≡ x) ⊎ Memᴰ y xs → x ≡ y
        go (inl e) w = e
        go (inr m) (inl e) = sym e
        go (inr m) (inr n) = let i = k x m in let j = h y n in absurd (omega arith)

    of : (a : ℕ) → Memᴰ a xs → Memᴰ a ys
    of a m = go (Memᴰ.cases_cons ((f a).0 (Memᴰ.tail m)))
      where
        go : (a ≡ y) ⊎ Memᴰ a ys → Memᴰ a ys
        go (inl e) = let i = h a m in let s = same in absurd (omega arith)
        go (inr n) = n

    to : (a : ℕ) → Memᴰ a ys → Memᴰ a xs
    to a m = go (Memᴰ.cases_cons ((f a).1 (Memᴰ.tail m)))
      where
        go : (a ≡ x) ⊎ Memᴰ a xs → Memᴰ a xs
        go (inl e) = let i = k a m in let s = same in absurd (omega arith)
        go (inr n) = n

-- ---- `ascending`

mem_insert : (n a : ℕ) (xs : List ℕ) → Memᴰ a (insert n xs) ↔ ((a ≡ n) ⊎ Memᴰ a xs)
unfolding insert
mem_insert n a [] = (λ m. inl (Memᴰ.eq_of_singleton m), λ w. ⊎_elim (λ e. Memᴰ.head e) (λ m. absurd (Memᴰ.not-nil m)) w)
mem_insert n a (x ∷ xs) = go (compare n x) refl (mem_insert n a xs)
  where
    go : (o : Ordering) → compare n x ≡ o → Memᴰ a (insert n xs) ↔ ((a ≡ n) ⊎ Memᴰ a xs) → Memᴰ a (insert n (x ∷ xs)) ↔ ((a ≡ n) ⊎ Memᴰ a (x ∷ xs))
    go Ordering.lt e h = rw (e, insert) (λ m. Memᴰ.cases_cons m, λ w. ⊎_elim (λ q. Memᴰ.head q) (λ q. Memᴰ.tail q) w)
    go Ordering.eq e h = rw (e, insert) (λ m. inr m, λ w. ⊎_elim (λ q. Memᴰ.head (q ∙ eqb-true n x (ap compare_is_eq e))) (λ q. q) w)
    go Ordering.gt e h = rw (e, insert) (of, to)
      where
        of : Memᴰ a (x ∷ insert n xs) → (a ≡ n) ⊎ Memᴰ a (x ∷ xs)
        of (Memᴰ.head q) = inr (Memᴰ.head q)
        of (Memᴰ.tail q) = ⊎_elim (λ s. inl s) (λ s. inr (Memᴰ.tail s)) (h.0 q)

        to : (a ≡ n) ⊎ Memᴰ a (x ∷ xs) → Memᴰ a (x ∷ insert n xs)
        to (inl q) = Memᴰ.tail (h.1 (inl q))
        to (inr (Memᴰ.head q)) = Memᴰ.head q
        to (inr (Memᴰ.tail q)) = Memᴰ.tail (h.1 (inr q))

asc_insert : (n : ℕ) (xs : List ℕ) → Asc xs → Asc (insert n xs)
unfolding insert
asc_insert n [] p = front (λ y m. absurd (Memᴰ.not-nil m)) empty
asc_insert n (x ∷ xs) (front h p) = go (compare n x) refl (asc_insert n xs p)
  where
    first : n < x → (y : ℕ) → (y ≡ x) ⊎ Memᴰ y xs → n < y
    first l y (inl e) = omega arith
    first l y (inr m) = let i = h y m in omega arith

    later : x < n → (y : ℕ) → (y ≡ n) ⊎ Memᴰ y xs → x < y
    later l y (inl e) = omega arith
    later l y (inr m) = h y m

    under : n ≤ x → (n ≡ x → ⊥) → n < x
    under l d = omega arith

    go : (o : Ordering) → compare n x ≡ o → Asc (insert n xs) → Asc (insert n (x ∷ xs))
    go Ordering.lt e q =
        let l : n < x = under (leb-true n x (ap is_le e)) (eqb-false n x (ap compare_is_eq e)) in
        rw (e, insert) (front {xs = x ∷ xs} (λ y m. first l y (Memᴰ.cases_cons m)) (front h p))
    go Ordering.eq e q = rw (e, insert) (front h p)
    go Ordering.gt e q =
        let l : x < n = leb-false n x (ap is_le e) in
        rw (e, insert) (front {xs = insert n xs} (λ y m. later l y ((mem_insert n y xs).0 m)) q)

pub mem_ascending : (a : ℕ) (xs : List ℕ) → Memᴰ a (ascending xs) ↔ Memᴰ a xs
unfolding ascending
mem_ascending a [] = (λ m. m, λ m. m)
mem_ascending a (x ∷ xs) =
    let I = mem_ascending a xs in
    let J = mem_insert x a (ascending xs) in (
      λ m. ⊎_elim (λ e. Memᴰ.head e) (λ n. Memᴰ.tail (I.0 n)) (J.0 m),
      λ m. J.1 (⊎_elim (λ e. inl e) (λ n. inr (I.1 n)) (Memᴰ.cases_cons m)),
    )

pub asc_ascending : (xs : List ℕ) → Asc (ascending xs)
unfolding ascending
asc_ascending [] = empty
asc_ascending (x ∷ xs) = asc_insert x (ascending xs) (asc_ascending xs)

-- ---- what is kept of the numbers below n

asc_snoc : (xs : List ℕ) (n : ℕ) → Asc xs → ((a : ℕ) → Memᴰ a xs → a < n) → Asc (xs ++ (n ∷ []))
asc_snoc [] n p h = front (λ y m. absurd (Memᴰ.not-nil m)) empty
asc_snoc (x ∷ xs) n (front k p) h =
    front
    (λ y m. ⊎_elim (λ q. k y q) (λ q. let e : y ≡ n = Memᴰ.eq_of_singleton q in let l : x < n = h x (Memᴰ.head refl) in omega arith) (Memᴰ.append_cases xs m))
    (asc_snoc xs n p (λ a m. h a (Memᴰ.tail m)))

pub asc_numbers : (n : ℕ) → Asc (below n (λ a. a))
unfolding below
asc_numbers zero = empty
asc_numbers (suc n) = asc_snoc (below n (λ a. a)) n (asc_numbers n) (λ a m. (mem_numbers n a).0 m)

pub asc_keep : (p : ℕ → Bool) (xs : List ℕ) → Asc xs → Asc (keep p xs)
asc_keep p [] q = rw (keep_nil p) empty
asc_keep p (x ∷ xs) (front h q) = go (p x) refl (asc_keep p xs q)
  where
    go : (b : Bool) → p x ≡ b → Asc (keep p xs) → Asc (keep p (x ∷ xs))
    go true e r = rw (keep_in p x xs e) (front (λ y m. h y ((mem_keep p y xs).0 m).0) r)
    go false e r = rw (keep_out p x xs e) r

-- Lists of numbers, and the words of their bits.
use mathlib.Core.Path.{◌≡◌, refl, sym, ap, ◌∙◌}
use mathlib.Core.Bool.{Bool, true, false}
use mathlib.Core.List.{List, [], ◌∷◌, ◌++◌, map, append_assoc, append-nil}
use Prim.Native.Nat.{ℕ, zero, suc, ◌+◌, ◌<◌}
use native.Mathlib.Omega.{arith}
use lib.ListN.{length, get_or, length-append}
use lib.Dec.{ltb}
use Rattle.paper.specs.Words.{keep, below, joined, place_by, sort_by, flag}
use Rattle.paper.proofs.Lists.{map_append}
use Rattle.rule_words.specs.Stored.{run}
use Rattle.report.specs.Rows.{bits}
use Rattle.report.proofs.RowLaws.{tally, bits_none}

abbrev pub numbers : ℕ → List ℕ
numbers n = below n (λ j. j)

-- ---- keep
pub keep_yes : {A : Type 0} (t : A → Bool) (x : A) (xs : List A) → t x ≡ true → keep t (x ∷ xs) ≡ x ∷ keep t xs
unfolding keep
keep_yes t x xs e = rw (e, keep)

pub keep_no : {A : Type 0} (t : A → Bool) (x : A) (xs : List A) → t x ≡ false → keep t (x ∷ xs) ≡ keep t xs
unfolding keep
keep_no t x xs e = rw (e, keep)

keep_none : {A : Type 0} (t : A → Bool) → keep t [] ≡ []
unfolding keep
keep_none t = refl

pub keep_append : {A : Type 0} (t : A → Bool) (xs ys : List A) → keep t (xs ++ ys) ≡ keep t xs ++ keep t ys
keep_append t [] ys = rw (keep_none t)
keep_append {A} t (x ∷ xs) ys = go (t x) refl (keep_append t xs ys)
  where
    go : (b : Bool) → t x ≡ b → keep t (xs ++ ys) ≡ keep t xs ++ keep t ys → keep t (x ∷ (xs ++ ys)) ≡ keep t (x ∷ xs) ++ keep t ys
    go true e h = keep_yes t x (xs ++ ys) e ∙ rw (keep_yes t x xs e, h)
    go false e h = keep_no t x (xs ++ ys) e ∙ rw (keep_no t x xs e, h)

pub keep_map : {A B : Type 0} (t : B → Bool) (f : A → B) (xs : List A) → keep t (map f xs) ≡ map f (keep (λ x. t (f x)) xs)
keep_map t f [] = rw (keep_none t, keep_none (λ x. t (f x)))
keep_map {A} {B} t f (x ∷ xs) = go (t (f x)) refl (keep_map t f xs)
  where
    go : (b : Bool) → t (f x) ≡ b → keep t (map f xs) ≡ map f (keep (λ x. t (f x)) xs) → keep t (f x ∷ map f xs) ≡ map f (keep (λ x. t (f x)) (x ∷ xs))
    go true e h = keep_yes t (f x) (map f xs) e ∙ rw (keep_yes (λ x. t (f x)) x xs e, h)
    go false e h = keep_no t (f x) (map f xs) e ∙ rw (keep_no (λ x. t (f x)) x xs e, h)

-- ---- map, joined, below

pub map_map : {A B C : Type 0} (f : B → C) (g : A → B) (xs : List A) → map f (map g xs) ≡ map (λ x. f (g x)) xs
map_map f g [] = refl
map_map f g (x ∷ xs) = rw (map_map f g xs)

pub joined_append : {A : Type 0} (xs ys : List (List A)) → joined (xs ++ ys) ≡ joined xs ++ joined ys
unfolding joined
joined_append [] ys = refl
joined_append (x ∷ xs) ys = rw (joined_append xs ys) (sym (append_assoc x (joined xs) (joined ys)))

pub joined_one : {A : Type 0} (x : List A) → joined (x ∷ []) ≡ x
unfolding joined
joined_one x = append-nil x

pub joined_cons : {A : Type 0} (x : List A) (xs : List (List A)) → joined (x ∷ xs) ≡ x ++ joined xs
unfolding joined
joined_cons x xs = refl

pub joined_none : {A : Type 0} → ◌≡◌ {A = List A} (joined []) []
unfolding joined
joined_none = refl

pub below_next : {A : Type 0} (n : ℕ) (f : ℕ → A) → below (suc n) f ≡ below n f ++ (f n ∷ [])
unfolding below
below_next n f = refl

pub below_none : {A : Type 0} (f : ℕ → A) → below 0 f ≡ []
unfolding below
below_none f = refl

pub below_map : {A : Type 0} (n : ℕ) (f : ℕ → A) → below n f ≡ map f (numbers n)
below_map zero f = rw (below_none f, below_none (λ j. j))
below_map (suc n) f = rw (below_next n f, below_next n (λ j. j), map_append f (numbers n) (n ∷ []), below_map n f)

run_next : {A : Type 0} (f : ℕ → A) (i n : ℕ) → run f i (suc n) ≡ run f i n ++ (f (i + n) ∷ [])
unfolding run
run_next f i zero = let z : i + 0 ≡ i = omega arith in rw z
run_next f i (suc n) = let z : suc i + n ≡ i + suc n = omega arith in rw (run_next f (suc i) n, z)

run_start : {A : Type 0} (f : ℕ → A) → run f 0 0 ≡ below 0 f
unfolding run below
run_start f = refl

pub run_below : {A : Type 0} (f : ℕ → A) (n : ℕ) → run f 0 n ≡ below n f
run_below f zero = run_start f
run_below f (suc n) = let z : 0 + n ≡ n = omega arith in run_next f 0 n ∙ rw (run_below f n, z, below_next n f)

-- ---- the numbers of a word's bits
pub kept_next : (f : ℕ → Bool) (k : ℕ) → keep f (numbers (suc k)) ≡ keep f (numbers k) ++ keep f (k ∷ [])
kept_next f k = ap (keep f) (below_next k (λ j. j)) ∙ keep_append f (numbers k) (k ∷ [])

tally_next : (f : ℕ → Bool) (k : ℕ) → tally f (suc k) ≡ flag (f k) + tally f k
unfolding tally
tally_next f k = refl

tally_none : (f : ℕ → Bool) → tally f 0 ≡ 0
unfolding tally
tally_none f = refl

pub count_kept : (f : ℕ → Bool) (n : ℕ) → length (keep f (numbers n)) ≡ tally f n
count_kept f zero = rw (below_none {A = ℕ} (λ j. j), keep_none f, tally_none f)
count_kept f (suc n) = go (f n) refl (count_kept f n)
  where
    go : (t : Bool) → f n ≡ t → length (keep f (numbers n)) ≡ tally f n → length (keep f (numbers (suc n))) ≡ tally f (suc n)
    go true e h =
        let a : keep f (n ∷ []) ≡ n ∷ [] = keep_yes f n [] e ∙ rw (keep_none f) in
        ap length (kept_next f n) ∙ (length-append (keep f (numbers n)) (keep f (n ∷ [])) ∙ (rw (a, h, tally_next f n, e) (omega arith)))
    go false e h =
        let a : keep f (n ∷ []) ≡ [] = keep_no f n [] e ∙ keep_none f in
        ap length (kept_next f n) ∙ (length-append (keep f (numbers n)) (keep f (n ∷ [])) ∙ (rw (a, h, tally_next f n, e) (omega arith)))

bits_next_word : (f : ℕ → Bool) (k : ℕ) → f k ≡ false → bits f (suc k) ≡ bits f k
unfolding bits
bits_next_word f k e = rw e (omega arith)

-- no bit is there where none is counted
pub none_counted : (f : ℕ → Bool) (n : ℕ) → tally f n ≡ 0 → bits f n ≡ 0
none_counted f zero h = sym (bits_none f)
none_counted f (suc n) h = go (f n) refl (none_counted f n)
  where
    go : (t : Bool) → f n ≡ t → (tally f n ≡ 0 → bits f n ≡ 0) → bits f (suc n) ≡ 0
    go true e g = absurd (omega (arith, tally_next f n, h, ap flag e))
    go false e g = bits_next_word f n e ∙ g (omega (arith, tally_next f n, h))

-- ---- sorting goes through a map
place_map : {A B : Type 0} (K : B → ℕ) (f : A → B) (x : A) (ys : List A) → map f (place_by (λ a. K (f a)) x ys) ≡ place_by K (f x) (map f ys)
unfolding place_by
place_map K f x [] = refl
place_map {A} {B} K f x (y ∷ ys) = go (ltb (K (f y)) (K (f x))) (place_map K f x ys)
  where
    go : (t : Bool) → map f (place_by (λ a. K (f a)) x ys) ≡ place_by K (f x) (map f ys)
        → map f (elim t as (λ _. List A) [ true ↦ y ∷ place_by (λ a. K (f a)) x ys | false ↦ x ∷ y ∷ ys ]) ≡ elim t as (λ _. List B) [ true ↦ f y ∷ place_by K (f x) (map f ys) | false ↦ f x ∷ f y ∷ map f ys ]
    go true h = ap (λ z. f y ∷ z) h
    go false h = refl

pub sort_map : {A B : Type 0} (K : B → ℕ) (f : A → B) (xs : List A) → map f (sort_by (λ a. K (f a)) xs) ≡ sort_by K (map f xs)
unfolding sort_by
sort_map K f [] = refl
sort_map K f (x ∷ xs) = place_map K f x (sort_by (λ a. K (f a)) xs) ∙ ap (place_by K (f x)) (sort_map K f xs)

pub map_run : {A : Type 0} (f : ℕ → A) (i n : ℕ) → map f (run (λ j. j) i n) ≡ run f i n
unfolding run
map_run f i zero = refl
map_run f i (suc n) = rw (map_run f (suc i) n)

pub get_d_any : {A : Type 0} (xs : List A) (p : ℕ) (d e : A) → p < length xs → get_or xs p d ≡ get_or xs p e
get_d_any [] p d e h = absurd (omega arith)
get_d_any (x ∷ xs) zero d e h = refl
get_d_any (x ∷ xs) (suc p) d e h = get_d_any xs p d e (omega arith)

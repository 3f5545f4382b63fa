-- What the words say: two rows are alike exactly when their words are, and a row has as many children as its constraint. x is a row that was widened.
use mathlib.Core.Path.{◌≡◌, refl, sym, ap, ◌∙◌}
use mathlib.Core.Bool.{Bool, true, false, ◌&&◌}
use mathlib.Core.Option.{Option, none, some}
use mathlib.Core.List.{List, [], ◌∷◌, ◌++◌}
use Prim.Native.Nat.{ℕ, zero, suc, ◌+◌, ◌*◌, ◌/◌, ◌%◌, ◌≤◌, ◌<◌, min}
use native.Mathlib.Omega.{arith}
use native.Mathlib.Numerals.{add-one}
use native.Mathlib.Decide.{ℕ_discrete}
use lib.ListN.{length, get_or, drop}
use lib.Seq.{drop-cons, drop-length}
use lib.Dec.{eqb, ltb, leb}
use borrow.Author.Tests.{eqb-true, leb-true, leb-false, eq-eqb, ne_eqb, le-leb, lt-leb}
use Rattle.paper.specs.declared.Constraint.{Constraint}
use Rattle.paper.specs.declared.Constraint.TheVariants.{Some}
use Rattle.std.specs.Prelude.{if◌then◌else◌}
use Rattle.paper.specs.Words.{or_else, first}
use Rattle.paper.specs.Numbers.{max_sites, max_fields}
use Rattle.paper.specs.Sites.{same_constraint, child_count}
use Rattle.paper.proofs.Lists.{and_both}
use Rattle.rule_words.specs.Packing.{unpack}
use Rattle.rule_words.specs.Stored.{constraint_at}
use Rattle.rule_words.proofs.PackLaws.{same_words, other_head, other_second, other_third, as_other}
use Rattle.rule_rows.specs.Holding.{Inside, shape_in, kid_count, kid_in, stray}

-- ---- alike

module _ (words : List ℕ) (i j x y : ℕ) (ex : x ≡ i) (ey : y ≡ j) where
  pub differ_1 : (get_or words (3 * x) 0 ≡ get_or words (3 * y) 0 → ⊥) → false ≡ same_constraint (shape_in words i) (shape_in words j)
  unfolding shape_in constraint_at
  differ_1 n = sym (rw (← ex, ← ey) (other_head _ _ _ _ _ _ n))

  pub differ_2 : (get_or words (3 * x + 1) 0 ≡ get_or words (3 * y + 1) 0 → ⊥) → false ≡ same_constraint (shape_in words i) (shape_in words j)
  unfolding shape_in constraint_at
  differ_2 n = sym (rw (← ex, ← ey) (other_second _ _ _ _ _ _ n))

  pub last_3 : get_or words (3 * x) 0 ≡ get_or words (3 * y) 0 → get_or words (3 * x + 1) 0 ≡ get_or words (3 * y + 1) 0
      → eqb (get_or words (3 * x + 2) 0) (get_or words (3 * y + 2) 0) ≡ same_constraint (shape_in words i) (shape_in words j)
  unfolding shape_in constraint_at
  last_3 p q = rw (← ex, ← ey) (go (ℕ_discrete (get_or words (3 * x + 2) 0) (get_or words (3 * y + 2) 0)))
    where
      go : Dec (get_or words (3 * x + 2) 0 ≡ get_or words (3 * y + 2) 0)
          → eqb (get_or words (3 * x + 2) 0) (get_or words (3 * y + 2) 0) ≡ same_constraint (constraint_at words (3 * x)) (constraint_at words (3 * y))
      go (yes e) = eq-eqb _ _ e ∙ sym (same_words _ _ _ _ _ _ p q e)
      go (no n) = ne_eqb _ _ n ∙ sym (other_third _ _ _ _ _ _ n)

-- ---- how many children

choose : (P : Constraint → Type 0) (t : Bool) (x y : Constraint) → (t ≡ true → P x) → P y → P (if t then x else y)
choose P true x y f h = f refl
choose P false x y f h = h

module _ (a b c : ℕ) where
  count_int : a / 65536 ≡ 3 → child_count (unpack a b c) ≡ 0
  unfolding unpack
  count_int k = rw k

  count_struct : c ≡ 0 → a / 65536 ≡ 1 → child_count (unpack a b c) ≡ b
  unfolding unpack
  count_struct z k = rw (z, k)

  count_some : c ≡ 0 → b ≡ 0 → a ≡ 327680 → child_count (unpack a b c) ≡ 1
  unfolding unpack
  count_some z y k = rw (z, y, k)

  -- neither a structure with fields nor Some
  count_none : c ≡ 0 → (a / 65536 ≡ 1 → ⊥) → (a ≡ 327680 → b ≡ 0 → ⊥) → child_count (unpack a b c) ≡ 0
  unfolding unpack
  count_none z k s =
      choose (λ t. child_count t ≡ 0) (eqb (a / 65536) 1 && eqb c 0) _ _ (λ e. absurd (k (eqb-true (a / 65536) 1 (and_both _ _ e).0)))
      (choose (λ t. child_count t ≡ 0) (eqb (a / 65536) 2 && (ltb b 2 && eqb c 0)) _ _ (λ e. refl)
      (choose (λ t. child_count t ≡ 0) (eqb (a / 65536) 3) _ _ (λ e. refl)
      (choose (λ t. child_count t ≡ 0) (eqb (a / 65536) 4 && (eqb b 0 && eqb c 0)) _ _ (λ e. refl)
      (choose (λ t. child_count t ≡ 0) (eqb (a / 65536) 5 && (eqb (a % 65536) 0 && (eqb b 0 && eqb c 0))) _ _ some_one z))))
    where
      some_one : (eqb (a / 65536) 5 && (eqb (a % 65536) 0 && (eqb b 0 && eqb c 0))) ≡ true → child_count Some ≡ 0
      some_one e =
          let u = and_both (eqb (a / 65536) 5) (eqb (a % 65536) 0 && (eqb b 0 && eqb c 0)) e in
          let v = and_both (eqb (a % 65536) 0) (eqb b 0 && eqb c 0) u.1 in
          let w = and_both (eqb b 0) (eqb c 0) v.1 in
          let p = eqb-true (a / 65536) 5 u.0 in
          let q = eqb-true (a % 65536) 0 v.0 in
          absurd (s (omega arith) (eqb-true b 0 w.0))

module _ (words : List ℕ) (i x : ℕ) (ex : x ≡ i) (a b c : ℕ) (ea : a ≡ get_or words (3 * x) 0) (eb : b ≡ get_or words (3 * x + 1) 0) (ec : c ≡ get_or words (3 * x + 2) 0) where
  counted : (v : ℕ) → child_count (unpack a b c) ≡ v → min v max_fields ≡ kid_count words i
  unfolding kid_count shape_in constraint_at
  counted v e = rw (← ex, ← ea, ← eb, ← ec, e)

  pub fields_int : a / 65536 ≡ 3 → 0 ≡ kid_count words i
  fields_int k = counted 0 (count_int a b c k)

  pub fields_third : (a / 65536 ≡ 3 → ⊥) → (c ≡ 0 → ⊥) → (r : ℕ) → r ≡ min c max_fields → r ≡ kid_count words i
  fields_third k z r e = e ∙ counted c (ap child_count (as_other a b c k z))

  pub fields_second : c ≡ 0 → a / 65536 ≡ 1 → (r : ℕ) → r ≡ min b max_fields → r ≡ kid_count words i
  fields_second z k r e = e ∙ counted b (count_struct a b c z k)

  pub fields_none : c ≡ 0 → (a / 65536 ≡ 1 → ⊥) → (a ≡ 327680 → b ≡ 0 → ⊥) → 0 ≡ kid_count words i
  fields_none z k s = counted 0 (count_none a b c z k s)

  pub fields_one : c ≡ 0 → b ≡ 0 → a ≡ 327680 → 1 ≡ kid_count words i
  fields_one z y k = counted 1 (count_some a b c z y k)

pub few_kids : (words : List ℕ) (i : ℕ) → kid_count words i ≤ max_fields
unfolding kid_count
few_kids words i = omega arith

pub kid_at : (kids : List ℕ) (i x f y r : ℕ) → x ≡ i → y ≡ f → r ≡ get_or kids (max_fields * x + y) 0 → r ≡ kid_in kids i f
unfolding kid_in
kid_at kids i x f y r e d q = rw (← e, ← d) q

pub kid_inside : (kids : List ℕ) (i f : ℕ) → ((k : ℕ) → get_or kids k 0 < max_sites) → kid_in kids i f < max_sites
unfolding kid_in
kid_inside kids i f h = h (max_fields * i + f)

-- ---- a number that is no site

abbrev pub or_first : Option ℕ → Option ℕ → Option ℕ
or_first (some x) o = some x
or_first none o = o

stray_cons : (x : ℕ) (xs : List ℕ) → stray (x ∷ xs) ≡ (if leb max_sites x then some x else stray xs)
unfolding stray first
stray_cons x xs = go (leb max_sites x) refl
  where
    go : (t : Bool) → leb max_sites x ≡ t → first (leb max_sites) (x ∷ xs) ≡ (if leb max_sites x then some x else first (leb max_sites) xs)
    go true e = rw (e, first)
    go false e = rw (e, first)

stray_out : (x : ℕ) (xs : List ℕ) → max_sites ≤ x → stray (x ∷ xs) ≡ some x
stray_out x xs h = stray_cons x xs ∙ rw (le-leb max_sites x h)

stray_in : (x : ℕ) (xs : List ℕ) → x < max_sites → stray (x ∷ xs) ≡ stray xs
stray_in x xs h = stray_cons x xs ∙ rw (lt-leb max_sites x h)

stray_none : stray [] ≡ none
unfolding stray first
stray_none = refl

-- ---- where all numbers are low

pub low_clean : (xs : List ℕ) (r : ℕ) → ((k : ℕ) → get_or xs k 0 ≤ r) → r < max_sites → stray xs ≡ none
low_clean [] r h l = stray_none
low_clean (x ∷ xs) r h l = let a = h 0 in stray_in x xs (omega arith) ∙ low_clean xs r (λ k. h (suc k)) l

pub stray_low : (xs : List ℕ) (r : ℕ) → ((k : ℕ) → get_or xs k 0 ≤ r) → r < max_sites → 0 ≡ or_else (stray xs) 0
stray_low xs r h l = sym (ap (λ o. or_else o 0) (low_clean xs r h l))

-- the loop: nothing stray before k
pub stray_step : (xs : List ℕ) (k : ℕ) → k < length xs → get_or xs k 0 < max_sites → stray xs ≡ stray (drop k xs) → stray xs ≡ stray (drop (k + 1) xs)
stray_step xs k l h e = e ∙ (ap stray (drop-cons xs k 0 l) ∙ (stray_in (get_or xs k 0) (drop (suc k) xs) h ∙ rw add-one refl))

pub stray_found : (xs : List ℕ) (k : ℕ) → k < length xs → max_sites ≤ get_or xs k 0 → stray xs ≡ stray (drop k xs) → get_or xs k 0 ≡ or_else (stray xs) 0
stray_found xs k l h e = sym (ap (λ o. or_else o 0) (e ∙ (ap stray (drop-cons xs k 0 l) ∙ stray_out (get_or xs k 0) (drop (suc k) xs) h)))

pub stray_end : (xs : List ℕ) (k : ℕ) → k ≡ length xs → stray xs ≡ stray (drop k xs) → 0 ≡ or_else (stray xs) 0
stray_end xs k l e = sym (ap (λ o. or_else o 0) (e ∙ (ap (λ n. stray (drop n xs)) l ∙ (ap stray (drop-length xs) ∙ stray_none))))

-- what is found is no site
pub data Strays (xs : List ℕ) : Type 0 where
  clean : stray xs ≡ none → ((k : ℕ) → get_or xs k 0 < max_sites) → Strays xs
  dirty : (n : ℕ) → stray xs ≡ some n → max_sites ≤ n → Strays xs

pub strays : (xs : List ℕ) → Strays xs
strays [] = clean stray_none (λ k. omega arith)
strays (x ∷ xs) = go (leb max_sites x) refl (strays xs)
  where
    go : (t : Bool) → leb max_sites x ≡ t → Strays xs → Strays (x ∷ xs)
    go true e s = dirty x (stray_out x xs (leb-true max_sites x e)) (leb-true max_sites x e)
    go false e (clean n h) = clean (stray_in x xs (leb-false max_sites x e) ∙ n) (at (leb-false max_sites x e) h)
      where
        at : x < max_sites → ((k : ℕ) → get_or xs k 0 < max_sites) → (k : ℕ) → get_or (x ∷ xs) k 0 < max_sites
        at l h zero = l
        at l h (suc k) = h k
    go false e (dirty n q h) = dirty n (stray_in x xs (leb-false max_sites x e) ∙ q) h

pub stray_append : (xs ys : List ℕ) → stray (xs ++ ys) ≡ or_first (stray xs) (stray ys)
stray_append [] ys = rw stray_none
stray_append (x ∷ xs) ys = go (leb max_sites x) refl (stray_append xs ys)
  where
    go : (t : Bool) → leb max_sites x ≡ t → stray (xs ++ ys) ≡ or_first (stray xs) (stray ys) → stray (x ∷ (xs ++ ys)) ≡ or_first (stray (x ∷ xs)) (stray ys)
    go true e h = let l = leb-true max_sites x e in stray_out x (xs ++ ys) l ∙ sym (ap (λ o. or_first o (stray ys)) (stray_out x xs l))
    go false e h = let l = leb-false max_sites x e in stray_in x (xs ++ ys) l ∙ (h ∙ sym (ap (λ o. or_first o (stray ys)) (stray_in x xs l)))

pub strays_are : (xs ys zs : List ℕ) → stray (xs ++ (ys ++ zs)) ≡ or_first (stray xs) (or_first (stray ys) (stray zs))
strays_are xs ys zs = stray_append xs (ys ++ zs) ∙ ap (or_first (stray xs)) (stray_append ys zs)

-- what first_stray answers
pub told_stray : (xs : List ℕ) (a : ℕ) → a ≡ or_else (stray xs) 0 → (a ≡ 0 → ⊥) → stray xs ≡ some a
told_stray xs a e n = go (strays xs)
  where
    go : Strays xs → stray xs ≡ some a
    go (clean q h) = absurd (n (e ∙ ap (λ o. or_else o 0) q))
    go (dirty m q h) = q ∙ ap some (sym (e ∙ ap (λ o. or_else o 0) q))

pub told_clean : (xs : List ℕ) (a : ℕ) → a ≡ or_else (stray xs) 0 → a ≡ 0 → (stray xs ≡ none) × ((k : ℕ) → get_or xs k 0 < max_sites)
told_clean xs a e z = go (strays xs)
  where
    go : Strays xs → (stray xs ≡ none) × ((k : ℕ) → get_or xs k 0 < max_sites)
    go (clean q h) = (q, h)
    go (dirty m q h) = let w = sym z ∙ (e ∙ ap (λ o. or_else o 0) q) in absurd (omega arith)

pub clean_inside : (xs ys zs : List ℕ) → stray (xs ++ (ys ++ zs)) ≡ none → Inside ys × Inside zs
clean_inside xs ys zs e = go (strays xs) (strays ys) (strays zs)
  where
    e' : or_first (stray xs) (or_first (stray ys) (stray zs)) ≡ none
    e' = sym (strays_are xs ys zs) ∙ e

    no : {A : Type 0} (n : ℕ) → ◌≡◌ {A = Option ℕ} (some n) none → A
    no n q = let z : ◌≡◌ {A = ℕ} 0 1 = cc in absurd (omega arith)

    go : Strays xs → Strays ys → Strays zs → Inside ys × Inside zs
    go (dirty n q h) b d = no n (rw q at e')
    go (clean p h) (dirty n q i) d = no n (rw (p, q) at e')
    go (clean p h) (clean q i) (dirty n r j) = no n (rw (p, q, r) at e')
    go (clean p h) (clean q i) (clean r j) = (i, j)

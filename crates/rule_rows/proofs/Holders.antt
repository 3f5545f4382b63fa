-- The holders of the lent lists, and their children by field.
use mathlib.Core.Path.{◌≡◌, refl, sym, ap, ◌∙◌, subst, subst⁻¹}
use mathlib.Core.List.{List, [], ◌∷◌, ◌++◌, Memᴰ}
use Prim.Native.Nat.{ℕ, zero, suc, ◌<◌}
use native.Mathlib.Omega.{arith}
use lib.ListN.{length}
use Rattle.paper.specs.Words.{below, zip}
use Rattle.paper.specs.Loading.{Holder}
use Rattle.paper.proofs.Closure.{in_below, of_below}
use Rattle.rule_rows.specs.Holding.{Held, kid_count, shape_of, count_of, kid_of, holder_in, holders_to}

-- ---- children by field

zip_snoc : {A B : Type 0} (xs : List A) (ys : List B) (x : A) (y : B) → length xs ≡ length ys → zip (xs ++ (x ∷ [])) (ys ++ (y ∷ [])) ≡ zip xs ys ++ ((x, y) ∷ [])
unfolding zip
zip_snoc [] [] x y e = refl
zip_snoc [] (b ∷ ys) x y e = absurd (omega arith)
zip_snoc (a ∷ xs) [] x y e = absurd (omega arith)
zip_snoc (a ∷ xs) (b ∷ ys) x y e = ap (λ l. (a, b) ∷ l) (zip_snoc xs ys x y (omega arith))

length_snoc : {A : Type 0} (xs : List A) (x : A) → length (xs ++ (x ∷ [])) ≡ suc (length xs)
length_snoc [] x = refl
length_snoc (a ∷ xs) x = ap suc (length_snoc xs x)

pub length_below : {A : Type 0} (n : ℕ) (f : ℕ → A) → length (below n f) ≡ n
unfolding below
length_below zero f = refl
length_below (suc n) f = length_snoc (below n f) (f n) ∙ ap suc (length_below n f)

zip_below : {A B : Type 0} (n : ℕ) (f : ℕ → A) (g : ℕ → B) → zip (below n f) (below n g) ≡ below n (λ i. (f i, g i))
unfolding below zip
zip_below zero f g = refl
zip_below (suc n) f g = zip_snoc (below n f) (below n g) (f n) (g n) (length_below n f ∙ sym (length_below n g)) ∙ ap (λ l. l ++ ((f n, g n) ∷ [])) (zip_below n f g)

-- ---- holders

module _ (H : Held) where
  pub same_count : (g h : ℕ) → shape_of H g ≡ shape_of H h → count_of H g ≡ count_of H h
  unfolding kid_count
  same_count g h e = rw e

  pub in_holders : (m h : ℕ) → h < m → Memᴰ (holder_in H h) (holders_to H m)
  unfolding holders_to
  in_holders m h l = in_below m (holder_in H) h l

  pub of_holders : (m : ℕ) (x : Holder) → Memᴰ x (holders_to H m) → (h : ℕ) × (h < m) × (x ≡ holder_in H h)
  unfolding holders_to
  of_holders m x l = of_below m (holder_in H) x l

  pub in_zip : (g h f : ℕ) → shape_of H g ≡ shape_of H h → f < count_of H g → Memᴰ (kid_of H g f, kid_of H h f) (zip (holder_in H g).kids (holder_in H h).kids)
  in_zip g h f e l =
      subst (λ (n : ℕ). Memᴰ (kid_of H g f, kid_of H h f) (zip (below (count_of H g) (kid_of H g)) (below n (kid_of H h)))) (same_count g h e)
      (rw zip_below (in_below (count_of H g) (λ i. (kid_of H g i, kid_of H h i)) f l))

  pub of_zip : (g h : ℕ) → shape_of H g ≡ shape_of H h → (x : ℕ × ℕ) → Memᴰ x (zip (holder_in H g).kids (holder_in H h).kids)
      → (f : ℕ) × (f < count_of H g) × (x ≡ (kid_of H g f, kid_of H h f))
  of_zip g h e x l =
      let l' : Memᴰ x (zip (below (count_of H g) (kid_of H g)) (below (count_of H g) (kid_of H h))) =
      subst⁻¹ (λ (n : ℕ). Memᴰ x (zip (below (count_of H g) (kid_of H g)) (below n (kid_of H h)))) (same_count g h e) l in
      of_below (count_of H g) (λ i. (kid_of H g i, kid_of H h i)) x (rw zip_below at l')

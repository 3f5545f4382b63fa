-- The lists that a kept rule is written from are those of paper's rule.
use mathlib.Core.Path.{◌≡◌, refl, sym, ap, ◌∙◌}
use mathlib.Core.List.{List, [], ◌∷◌, ◌++◌, map, append_assoc, append-nil}
use Prim.Native.Nat.{ℕ, zero, suc, ◌+◌, ◌*◌, ◌/◌, ◌%◌, ◌≤◌, ◌<◌}
use native.Mathlib.Omega.{arith}
use lib.ListN.{length, get_or, take, drop, length-append, length-map, get_or-map}
use lib.Seq.{length-take-le, get_or-take, ext_get_or, drop_at}
use Rattle.paper.specs.declared.Constraint.{Constraint}
use Rattle.paper.specs.Words.{below, joined}
use Rattle.paper.specs.Numbers.{max_equal}
use Rattle.paper.specs.Loading.{Labels}
use Rattle.paper.proofs.Lists.{map_append}
use Rattle.rule_words.specs.Stored.{constraint_at}
use Rattle.rule_words.proofs.PackLaws.{pack_unpack}
use Rattle.sites.specs.Slots.{sites_in}
use Rattle.sites.proofs.Places.{sites_length}
use Rattle.rule_children.specs.Tail.{site_of_word, table}
use Rattle.rule_rows.specs.Holding.{shape_in}
use Rattle.rule_rows.proofs.Holders.{length_below}
use Rattle.rule_rows.proofs.Agreeing.{below_is}
use Rattle.rule_hanging.specs.Seen.{shown}
use Rattle.rule_rounds.specs.Rounding.{Listed}
use Rattle.rule_load.specs.Parts.{new_sites, gathered}
use Rattle.rule_load.specs.Whole.{three}

-- ---- lists by index
pub below_same : {A : Type 0} (n : ℕ) (f g : ℕ → A) → ((i : ℕ) → i < n → f i ≡ g i) → below n f ≡ below n g
unfolding below
below_same zero f g h = refl
below_same (suc n) f g h = let x = below_same n f g (λ i l. h i (omega arith)) in let y = h n (omega arith) in rw (x, y)

pub map_below : {A B : Type 0} (f : A → B) (n : ℕ) (g : ℕ → A) → map f (below n g) ≡ below n (λ i. f (g i))
unfolding below
map_below f zero g = refl
map_below f (suc n) g = map_append f (below n g) (g n ∷ []) ∙ ap (λ l. l ++ (f (g n) ∷ [])) (map_below f n g)

pub take_below : (n : ℕ) (xs : List ℕ) → n ≤ length xs → take n xs ≡ below n (λ i. get_or xs i 0)
take_below n xs h = sym (below_is n (λ i. get_or xs i 0) (take n xs) 0 (length-take-le n xs h) (λ i l. get_or-take n xs i 0 l))

joined_append : (x y : List (List ℕ)) → joined (x ++ y) ≡ joined x ++ joined y
unfolding joined
joined_append [] y = refl
joined_append (a ∷ x) y = ap (λ l. a ++ l) (joined_append x y) ∙ sym (append_assoc a (joined x) (joined y))

-- ---- the table
module _ (m : List ℕ) (n : ℕ) (tail : List ℕ) (t : ℕ) where
  pub table_long : length (table m n tail t) ≡ n + t
  unfolding table
  table_long = length-append (sites_in m n) (below t (λ i. site_of_word (get_or tail i 0))) ∙ (let a = sites_length m n in let b = length_below t (λ i. site_of_word (get_or tail i 0)) in omega arith)

  pub table_new : drop n (table m n tail t) ≡ new_sites tail t
  unfolding table new_sites
  table_new = drop_at (sites_in m n) (below t (λ i. site_of_word (get_or tail i 0))) n (sites_length m n)

-- ---- the constrained sites
module _ (sites rows words : List ℕ) where
  pub shown_long : (held : ℕ) → length (shown sites rows words held) ≡ held
  unfolding shown
  shown_long held = length_below held _

  pub laid_sites : (held : ℕ) → held ≤ length sites → take held sites ≡ map (λ p. p.0) (shown sites rows words held)
  unfolding shown
  laid_sites held h = take_below held sites h ∙ sym (map_below (λ (p : ℕ × Constraint). p.0) held (λ i. (get_or sites i 0, shape_in words (get_or rows i 0))))

  abbrev third_word : ℕ → ℕ
  third_word i = get_or words (3 * get_or rows (i / 3) 0 + i % 3) 0

  abbrev row : ℕ → ℕ × Constraint
  row i = (get_or sites i 0, shape_in words (get_or rows i 0))

  word_at : (i h j : ℕ) → i ≡ 3 * h + j → j < 3 → third_word i ≡ get_or words (3 * get_or rows h 0 + j) 0
  word_at i h j e l = let a : i / 3 ≡ h = omega arith in let b : i % 3 ≡ j = omega arith in rw (a, b)

  three_words : (h : ℕ) → three (row h) ≡ third_word (3 * h) ∷ third_word (suc (3 * h)) ∷ third_word (suc (suc (3 * h))) ∷ []
  unfolding shape_in constraint_at
  three_words h =
      let w = pack_unpack (get_or words (3 * get_or rows h 0) 0) (get_or words (3 * get_or rows h 0 + 1) 0) (get_or words (3 * get_or rows h 0 + 2) 0) in
      let z : 3 * get_or rows h 0 + 0 ≡ 3 * get_or rows h 0 = omega arith in
      let a : third_word (3 * h) ≡ get_or words (3 * get_or rows h 0) 0 = word_at (3 * h) h 0 (omega arith) (omega arith) ∙ ap (λ i. get_or words i 0) z in
      let b = word_at (suc (3 * h)) h 1 (omega arith) (omega arith) in
      let c = word_at (suc (suc (3 * h))) h 2 (omega arith) (omega arith) in
      rw (w.0, w.1.0, w.1.1, a, b, c)

  pub laid_words : (held : ℕ) → gathered rows words (3 * held) ≡ joined (map three (shown sites rows words held))
  unfolding gathered shown joined below
  laid_words zero = refl
  laid_words (suc h) =
      let e : 3 * suc h ≡ suc (suc (suc (3 * h))) = omega arith in
      let f = laid_words h in
      let g : joined (map three (below h row ++ (row h ∷ []))) ≡ joined (map three (below h row)) ++ three (row h) =
      ap joined (map_append three (below h row) (row h ∷ [])) ∙ joined_append (map three (below h row)) (three (row h) ∷ []) ∙ ap (λ l. joined (map three (below h row)) ++ l) (append-nil (three (row h))) in
      rw (e, g, three_words h, ← f) (snoc_three (below (3 * h) third_word) (third_word (3 * h)) (third_word (suc (3 * h))) (third_word (suc (suc (3 * h)))))
    where
      snoc_three : (x : List ℕ) (a b c : ℕ) → ((x ++ (a ∷ [])) ++ (b ∷ [])) ++ (c ∷ []) ≡ x ++ (a ∷ b ∷ c ∷ [])
      snoc_three [] a b c = refl
      snoc_three (y ∷ x) a b c = ap (λ l. y ∷ l) (snoc_three x a b c)

-- ---- the equal sites
module _ (equal low : List ℕ) (k : Labels) (L : Listed equal low k) (few : length k ≤ max_equal) where
  pub laid_equal : (e : ℕ) → e ≡ length k → e ≤ length equal → take e equal ≡ map (λ p. p.0) k
  laid_equal e q h =
      let a = length-take-le e equal h in
      let b = length-map k (λ (p : ℕ × ℕ). p.0) in
      ext_get_or 0 (take e equal) (map (λ p. p.0) k) (omega arith)
      (λ i l. get_or-take e equal i 0 (omega arith) ∙ (ap (λ (p : ℕ × ℕ). p.0) (L.each i (omega arith) (omega arith)) ∙ sym (get_or-map (λ (p : ℕ × ℕ). p.0) k i (0, 0))))

  pub laid_low : (e : ℕ) → e ≡ length k → e ≤ length low → take e low ≡ map (λ p. p.1) k
  laid_low e q h =
      let a = length-take-le e low h in
      let b = length-map k (λ (p : ℕ × ℕ). p.1) in
      ext_get_or 0 (take e low) (map (λ p. p.1) k) (omega arith)
      (λ i l. get_or-take e low i 0 (omega arith) ∙ (ap (λ (p : ℕ × ℕ). p.1) (L.each i (omega arith) (omega arith)) ∙ sym (get_or-map (λ (p : ℕ × ℕ). p.1) k i (0, 0))))

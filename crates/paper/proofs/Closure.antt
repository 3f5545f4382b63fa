-- The classes of the check, as computed, are the least equivalence that 01 names: `closure_is`.
use mathlib.Core.Path.{◌≡◌, refl, sym, ap, ◌∙◌, subst}
use mathlib.Core.Bool.{Bool, true, false, ◌&&◌}
use mathlib.Core.Option.{Option, none, some}
use mathlib.Core.Logic.{◌↔◌, ◌⊎◌, inl, inr}
use mathlib.Core.List.{List, [], ◌∷◌, ◌++◌, map, Memᴰ}
use Prim.Native.Nat.{ℕ, zero, suc, ◌+◌, ◌≤◌, ◌<◌, max}
use native.Mathlib.Nat.{not-suc-le-zero}
use native.Mathlib.Omega.{arith}
use native.Mathlib.Decide.{ℕ_discrete, dec_le}
use lib.ListN.{length}
use lib.Dec.{eqb}
use borrow.Author.Tests.{eqb-true, eq-eqb, ne_eqb}
use Rattle.paper.specs.declared.Constraint.{Constraint}
use Rattle.std.specs.Prelude.{if◌then◌else◌}
use Rattle.paper.specs.Words.{or_else, look, below, pairs, zip}
use Rattle.paper.specs.Sites.{Site, Sites, child, child_count, child_number, number_of, same_site, same_constraint}
use Rattle.paper.specs.Loading.{Loading, Labels, Constraints, Holder, holder, holders, lowest, join, join_all, Together, written_so, itself, back, through, like, alike, turn, pass, same_classes, close, closure_of, closure}
use Rattle.paper.proofs.Joins.{Gen, base, self, back as back-g, via, Pair, was, new, Joined, high, same, joined, join_only, join_keeps, join_joins}
use Rattle.paper.proofs.Laws.{same_constraint_true, same_list_refl}
use Rattle.paper.proofs.Labels.{Sound, lowest_join, join_sound, none_sound, join_same, never}

abbrev Like : Type 0
Like = Holder × Holder

-- ---- lists

pub of_below : {A : Type 0} (n : ℕ) (f : ℕ → A) (x : A) → Memᴰ x (below n f) → (i : ℕ) × (i < n) × (x ≡ f i)
unfolding below
of_below zero f x m = elim m [ ]
of_below (suc n) f x m = go (λ q. of_below n f x q) (mathlib.Core.List.Memᴰ.append_cases (below n f) m)
  where
    go : (Memᴰ x (below n f) → (i : ℕ) × (i < n) × (x ≡ f i)) → Memᴰ x (below n f) ⊎ Memᴰ x (f n ∷ []) → (i : ℕ) × (i < suc n) × (x ≡ f i)
    go h (inl q) = let r = h q in (r.0, omega arith, r.2)
    go h (inr q) = (n, omega arith, mathlib.Core.List.Memᴰ.eq_of_singleton q)

pub in_below : {A : Type 0} (n : ℕ) (f : ℕ → A) (i : ℕ) → i < n → Memᴰ (f i) (below n f)
unfolding below
in_below zero f i h = absurd (not-suc-le-zero h)
in_below (suc n) f i h = go (λ l. in_below n f i l) (ℕ_discrete i n)
  where
    go : (i < n → Memᴰ (f i) (below n f)) → Dec (i ≡ n) → Memᴰ (f i) (below n f ++ (f n ∷ []))
    go r (yes e) = mathlib.Core.List.Memᴰ.append_right (below n f) (mathlib.Core.List.Memᴰ.head (ap f e))
    go r (no e) = mathlib.Core.List.Memᴰ.append_left (f n ∷ []) (r (omega arith))

pub of_pairs : {A : Type 0} (xs : List A) (p : A × A) → Memᴰ p (pairs xs) → Memᴰ p.0 xs × Memᴰ p.1 xs
unfolding pairs
of_pairs [] p m = elim m [ ]
of_pairs (x ∷ xs) p m = go (λ q. of_pairs xs p q) (mathlib.Core.List.Memᴰ.append_cases (map (λ y. (x, y)) xs) m)
  where
    go : (Memᴰ p (pairs xs) → Memᴰ p.0 xs × Memᴰ p.1 xs) → Memᴰ p (map (λ y. (x, y)) xs) ⊎ Memᴰ p (pairs xs) → Memᴰ p.0 (x ∷ xs) × Memᴰ p.1 (x ∷ xs)
    go h (inl q) = let r = mathlib.Core.List.Memᴰ.of_map (λ y. (x, y)) xs q in let t : Memᴰ p.1 xs = rw (← r.2) r.1 in (mathlib.Core.List.Memᴰ.head (ap (λ z. z.0) (sym r.2)), mathlib.Core.List.Memᴰ.tail t)
    go h (inr q) = let r = h q in (mathlib.Core.List.Memᴰ.tail r.0, mathlib.Core.List.Memᴰ.tail r.1)

pub in_pairs : {A : Type 0} (xs : List A) (a b : A) → Memᴰ a xs → Memᴰ b xs → (a ≡ b) ⊎ (Memᴰ (a, b) (pairs xs) ⊎ Memᴰ (b, a) (pairs xs))
unfolding pairs
in_pairs {A = A} [] a b x'' _ = elim x'' [ ]
in_pairs (x ∷ xs) a b (mathlib.Core.List.Memᴰ.head e) (mathlib.Core.List.Memᴰ.head f) = inl (e ∙ sym f)
in_pairs {A} (x ∷ xs) a b (mathlib.Core.List.Memᴰ.head e) (mathlib.Core.List.Memᴰ.tail n) = let t : Memᴰ {A = A × A} (a, b) (map (λ y. (x, y)) xs) = rw e (mathlib.Core.List.Memᴰ.map (λ y. (x, y)) n) in inr (inl (mathlib.Core.List.Memᴰ.append_left (pairs xs) t))
in_pairs {A} (x ∷ xs) a b (mathlib.Core.List.Memᴰ.tail m) (mathlib.Core.List.Memᴰ.head f) = let t : Memᴰ {A = A × A} (b, a) (map (λ y. (x, y)) xs) = rw f (mathlib.Core.List.Memᴰ.map (λ y. (x, y)) m) in inr (inr (mathlib.Core.List.Memᴰ.append_left (pairs xs) t))
in_pairs (x ∷ xs) a b (mathlib.Core.List.Memᴰ.tail m) (mathlib.Core.List.Memᴰ.tail n) = go (in_pairs xs a b m n)
  where
    go : (a ≡ b) ⊎ (Memᴰ (a, b) (pairs xs) ⊎ Memᴰ (b, a) (pairs xs)) → (a ≡ b) ⊎ (Memᴰ (a, b) (map (λ y. (x, y)) xs ++ pairs xs) ⊎ Memᴰ (b, a) (map (λ y. (x, y)) xs ++ pairs xs))
    go (inl e) = inl e
    go (inr (inl q)) = inr (inl (mathlib.Core.List.Memᴰ.append_right (map (λ y. (x, y)) xs) q))
    go (inr (inr q)) = inr (inr (mathlib.Core.List.Memᴰ.append_right (map (λ y. (x, y)) xs) q))

zip_same : (xs : List ℕ) (a b : ℕ) → Memᴰ (a, b) (zip xs xs) → a ≡ b
unfolding zip
zip_same [] a b m = elim m [ ]
zip_same (x ∷ xs) a b (mathlib.Core.List.Memᴰ.head e) = ap (λ z. z.0) e ∙ sym (ap (λ z. z.1) e)
zip_same (x ∷ xs) a b (mathlib.Core.List.Memᴰ.tail m) = zip_same xs a b m

zip_back : (xs ys : List ℕ) (a b : ℕ) → Memᴰ (a, b) (zip xs ys) → Memᴰ (b, a) (zip ys xs)
unfolding zip
zip_back [] ys a b m = elim m [ ]
zip_back (x ∷ xs) [] a b m = elim m [ ]
zip_back (x ∷ xs) (y ∷ ys) a b (mathlib.Core.List.Memᴰ.head e) = mathlib.Core.List.Memᴰ.head (ap (λ z. (z.1, z.0)) e)
zip_back (x ∷ xs) (y ∷ ys) a b (mathlib.Core.List.Memᴰ.tail m) = mathlib.Core.List.Memᴰ.tail (zip_back xs ys a b m)

of_zip : (xs ys : List ℕ) (p : ℕ × ℕ) → Memᴰ p (zip xs ys) → Memᴰ p.0 xs × Memᴰ p.1 ys
unfolding zip
of_zip [] ys p m = elim m [ ]
of_zip (x ∷ xs) [] p m = elim m [ ]
of_zip (x ∷ xs) (y ∷ ys) p (mathlib.Core.List.Memᴰ.head e) = (mathlib.Core.List.Memᴰ.head (ap (λ z. z.0) e), mathlib.Core.List.Memᴰ.head (ap (λ z. z.1) e))
of_zip (x ∷ xs) (y ∷ ys) p (mathlib.Core.List.Memᴰ.tail m) = let r = of_zip xs ys p m in (mathlib.Core.List.Memᴰ.tail r.0, mathlib.Core.List.Memᴰ.tail r.1)

-- ---- what a join does to who is with whom

keeps : (k : Labels) (a b : ℕ) → Sound k → (x y : ℕ) → lowest k x ≡ lowest k y → lowest (join k a b) x ≡ lowest (join k a b) y
keeps k a b S x y e = lowest_join k a b S x ∙ (join_keeps (lowest k) a b x y e ∙ sym (lowest_join k a b S y))

joins : (k : Labels) (a b : ℕ) → Sound k → lowest (join k a b) a ≡ lowest (join k a b) b
joins k a b S = lowest_join k a b S a ∙ (join_joins (lowest k) a b ∙ sym (lowest_join k a b S b))

all_sound : (ps : List (ℕ × ℕ)) (k : Labels) → Sound k → Sound (join_all k ps)
unfolding join_all
all_sound [] k S = S
all_sound (p ∷ ps) k S = all_sound ps (join k p.0 p.1) (join_sound k p.0 p.1 S)

all_keeps : (ps : List (ℕ × ℕ)) (k : Labels) → Sound k → (x y : ℕ) → lowest k x ≡ lowest k y → lowest (join_all k ps) x ≡ lowest (join_all k ps) y
unfolding join_all
all_keeps [] k S x y e = e
all_keeps (p ∷ ps) k S x y e = all_keeps ps (join k p.0 p.1) (join_sound k p.0 p.1 S) x y (keeps k p.0 p.1 S x y e)

all_joins : (ps : List (ℕ × ℕ)) (k : Labels) → Sound k → (p : ℕ × ℕ) → Memᴰ p ps → lowest (join_all k ps) p.0 ≡ lowest (join_all k ps) p.1
unfolding join_all
all_joins [] k S p x'' = elim x'' [ ]
all_joins (q ∷ ps) k S p (mathlib.Core.List.Memᴰ.head e) = rw e (all_keeps ps (join k q.0 q.1) (join_sound k q.0 q.1 S) q.0 q.1 (joins k q.0 q.1 S))
all_joins (q ∷ ps) k S p (mathlib.Core.List.Memᴰ.tail m) = all_joins ps (join k q.0 q.1) (join_sound k q.0 q.1 S) p m

-- ---- a turn: either nothing, or the children of two sites of one class under one constraint are joined

data Turned (k : Labels) (p : Like) (k' : Labels) : Type 0 where
  idle : k' ≡ k → Turned k p k'
  joined_like : lowest k p.0.site ≡ lowest k p.1.site → p.0.shape ≡ p.1.shape → k' ≡ join_all k (zip p.0.kids p.1.kids) → Turned k p k'

turned : (k : Labels) (p : Like) → Turned k p (turn k p)
unfolding turn alike
turned k p = go (eqb (lowest k p.0.site) (lowest k p.1.site)) refl (same_constraint p.0.shape p.1.shape) refl
  where
    go : (s : Bool) → eqb (lowest k p.0.site) (lowest k p.1.site) ≡ s → (u : Bool) → same_constraint p.0.shape p.1.shape ≡ u →
        Turned k p (if eqb (lowest k p.0.site) (lowest k p.1.site) && same_constraint p.0.shape p.1.shape then join_all k (zip p.0.kids p.1.kids) else k)
    go true e true f = joined_like (eqb-true (lowest k p.0.site) (lowest k p.1.site) e) (same_constraint_true p.0.shape p.1.shape f) (rw (e, f))
    go true e false f = idle (rw (e, f))
    go false e u f = idle (rw e)

-- ---- soundness: whoever the labels put together is together

gen_to : {R : ℕ → ℕ → Type 0} {x y : ℕ} (eqs : List (ℕ × ℕ)) (hs : List Holder) → ((a b : ℕ) → R a b → Together eqs hs a b) → Gen R x y → Together eqs hs x y
gen_to eqs hs h (base {a = a} {b = b} r) = h a b r
gen_to eqs hs h self = itself
gen_to eqs hs h (back-g g) = back (gen_to eqs hs h g)
gen_to eqs hs h (via g g') = through (gen_to eqs hs h g) (gen_to eqs hs h g')

module _ (eqs : List (ℕ × ℕ)) (hs : List Holder) where
  -- sound labels that put together only what is together
  record Right (k : Labels) : Type 0 where
    sound : Sound k
    only : (x y : ℕ) → lowest k x ≡ lowest k y → Together eqs hs x y

  join_right : (k : Labels) (a b : ℕ) → Together eqs hs a b → Right k → Right (join k a b)
  join_right k a b g R = record {
    sound = join_sound k a b R.sound;
    only = λ x y e. gen_to eqs hs pair (join_only (lowest k) a b R.sound.function x y (sym (lowest_join k a b R.sound x) ∙ (e ∙ lowest_join k a b R.sound y)));
  }
    where
      pair : (x y : ℕ) → Pair (lowest k) a b x y → Together eqs hs x y
      pair x y (was e) = R.only x y e
      pair x y new = g

  all_right : (ps : List (ℕ × ℕ)) (k : Labels) → ((p : ℕ × ℕ) → Memᴰ p ps → Together eqs hs p.0 p.1) → Right k → Right (join_all k ps)
  unfolding join_all
  all_right [] k h R = R
  all_right (p ∷ ps) k h R = all_right ps (join k p.0 p.1) (λ q m. h q (mathlib.Core.List.Memᴰ.tail m)) (join_right k p.0 p.1 (h p (mathlib.Core.List.Memᴰ.head refl)) R)

  turn_right : (k : Labels) (p : Like) → Memᴰ p.0 hs → Memᴰ p.1 hs → Right k → Right (turn k p)
  turn_right k p m n R = go (turned k p)
    where
      go : {k' : Labels} → Turned k p k' → Right k'
      go (idle e) = rw e R
      go (joined_like e f g) = rw g (all_right (zip p.0.kids p.1.kids) k (λ q w. like p.0 p.1 m n f (R.only p.0.site p.1.site e) w) R)

  pass_right : (ps : List Like) (k : Labels) → ((p : Like) → Memᴰ p ps → Memᴰ p.0 hs × Memᴰ p.1 hs) → Right k → Right (pass k ps)
  unfolding pass
  pass_right [] k h R = R
  pass_right (p ∷ ps) k h R =
      let w = h p (mathlib.Core.List.Memᴰ.head refl) in
      pass_right ps (turn k p) (λ q m. h q (mathlib.Core.List.Memᴰ.tail m)) (turn_right k p w.0 w.1 R)

  close_right : (n : ℕ) (k : Labels) → Right k → Right (close n hs k)
  unfolding close
  close_right zero k R = R
  close_right (suc n) k R = go (same_classes (pass k (pairs hs)) k) refl (close_right n (pass k (pairs hs)) (pass_right (pairs hs) k (of_pairs hs) R))
    where
      go : (s : Bool) → same_classes (pass k (pairs hs)) k ≡ s → Right (close n hs (pass k (pairs hs))) → Right (close (suc n) hs k)
      go true e r = rw (e, close) R
      go false e r = rw (e, close) r

-- ---- completeness: what a pass leaves is coarser, and has the children joined

turn_sound : (k : Labels) (p : Like) → Sound k → Sound (turn k p)
turn_sound k p S = go (turned k p)
  where
    go : {k' : Labels} → Turned k p k' → Sound k'
    go (idle e) = rw e S
    go (joined_like e f g) = rw g (all_sound (zip p.0.kids p.1.kids) k S)

turn_keeps : (k : Labels) (p : Like) → Sound k → (x y : ℕ) → lowest k x ≡ lowest k y → lowest (turn k p) x ≡ lowest (turn k p) y
turn_keeps k p S x y h = go (turned k p)
  where
    go : {k' : Labels} → Turned k p k' → lowest k' x ≡ lowest k' y
    go (idle e) = rw e h
    go (joined_like e f g) = rw g (all_keeps (zip p.0.kids p.1.kids) k S x y h)

pass_sound : (ps : List Like) (k : Labels) → Sound k → Sound (pass k ps)
unfolding pass
pass_sound [] k S = S
pass_sound (p ∷ ps) k S = pass_sound ps (turn k p) (turn_sound k p S)

pass_keeps : (ps : List Like) (k : Labels) → Sound k → (x y : ℕ) → lowest k x ≡ lowest k y → lowest (pass k ps) x ≡ lowest (pass k ps) y
unfolding pass
pass_keeps [] k S x y h = h
pass_keeps (p ∷ ps) k S x y h = pass_keeps ps (turn k p) (turn_sound k p S) x y (turn_keeps k p S x y h)

turn_joins : (k : Labels) (p : Like) (a b : ℕ) → Sound k → p.0.shape ≡ p.1.shape → lowest k p.0.site ≡ lowest k p.1.site → Memᴰ (a, b) (zip p.0.kids p.1.kids) → lowest (turn k p) a ≡ lowest (turn k p) b
unfolding turn alike same_constraint
turn_joins k p a b S f e m = rw (eq-eqb (lowest k p.0.site) (lowest k p.1.site) e, f, same_list_refl) (all_joins (zip p.0.kids p.1.kids) k S (a, b) m)

pass_joins : (ps : List Like) (k : Labels) (p : Like) (a b : ℕ) → Sound k → Memᴰ p ps → p.0.shape ≡ p.1.shape → lowest k p.0.site ≡ lowest k p.1.site → Memᴰ (a, b) (zip p.0.kids p.1.kids) → lowest (pass k ps) a ≡ lowest (pass k ps) b
unfolding pass
pass_joins [] k p a b S x5 f e m = elim x5 [ ]
pass_joins (q ∷ ps) k p a b S (mathlib.Core.List.Memᴰ.head w) f e m = rw (← w) (pass_keeps ps (turn k p) (turn_sound k p S) a b (turn_joins k p a b S f e m))
pass_joins (q ∷ ps) k p a b S (mathlib.Core.List.Memᴰ.tail w) f e m = pass_joins ps (turn k q) p a b (turn_sound k q S) w f (turn_keeps k q S p.0.site p.1.site e) m

-- ---- so many passes are enough: a pass that changes something leaves fewer classes among the first N sites

abbrev bit : Bool → ℕ
bit true = 1
bit false = 0

abbrev tally : ℕ → (ℕ → Bool) → ℕ
tally zero f = 0
tally (suc n) f = bit (f n) + tally n f

bit_le : (a b : Bool) → (a ≡ true → b ≡ true) → bit a ≤ bit b
bit_le true b h = rw (h refl) (omega arith)
bit_le false b h = omega arith

tally_le : (n : ℕ) (f g : ℕ → Bool) → ((k : ℕ) → f k ≡ true → g k ≡ true) → tally n f ≤ tally n g
tally_le zero f g h = omega arith
tally_le (suc n) f g h = let a = bit_le (f n) (g n) (h n) in let b = tally_le n f g h in omega arith

tally_less : (n x : ℕ) (f g : ℕ → Bool) → ((k : ℕ) → f k ≡ true → g k ≡ true) → x < n → f x ≡ false → g x ≡ true → tally n f < tally n g
tally_less zero x f g h l p q = absurd (not-suc-le-zero l)
tally_less (suc n) x f g h l p q = go (λ k. tally_less n x f g h k p q) (ℕ_discrete n x)
  where
    go : (x < n → tally n f < tally n g) → Dec (n ≡ x) → tally (suc n) f < tally (suc n) g
    go rest (yes e) =
        let a = ap bit (ap f e ∙ p) in
        let b = ap bit (ap g e ∙ q) in
        let r = tally_le n f g h in
        omega arith
    go rest (no e) = let a = bit_le (f n) (g n) (h n) in let r = rest (omega arith) in omega arith

tally_most : (n : ℕ) (f : ℕ → Bool) → tally n f ≤ n
tally_most zero f = omega arith
tally_most (suc n) f = let a = bit_le (f n) true (λ e. refl) in let r = tally_most n f in omega arith

measure : ℕ → Labels → ℕ
measure N k = tally N (λ n. eqb (lowest k n) n)

module _ (N : ℕ) where
  join_falls : (k : Labels) (a b : ℕ) → Sound k → a < N → b < N → (join k a b ≡ k) ⊎ (measure N (join k a b) < measure N k)
  unfolding measure
  join_falls k a b S la lb = go (ℕ_discrete (lowest k a) (lowest k b))
    where
      top : Dec (lowest k a ≤ lowest k b) → lowest k (max (lowest k a) (lowest k b)) ≡ max (lowest k a) (lowest k b)
      top (yes h) = let q : max (lowest k a) (lowest k b) ≡ lowest k b = omega arith in rw q (S.function.idem b)
      top (no h) = let q : max (lowest k a) (lowest k b) ≡ lowest k a = omega arith in rw q (S.function.idem a)

      was_low : (lowest k a ≡ lowest k b → ⊥) → (n : ℕ) {v : ℕ} → Joined (lowest k) a b n v → v ≡ n → lowest k n ≡ n
      was_low d n (high e f) q = let l = S.function.low n in absurd (omega arith)
      was_low d n (same e f) q = sym f ∙ q

      now_higher : (lowest k a ≡ lowest k b → ⊥) → {v : ℕ} → Joined (lowest k) a b (max (lowest k a) (lowest k b)) v → v ≡ max (lowest k a) (lowest k b) → ⊥
      now_higher d (high e f) q = omega arith
      now_higher d (same e f) q = e (top (dec_le (lowest k a) (lowest k b)))

      go : Dec (lowest k a ≡ lowest k b) → (join k a b ≡ k) ⊎ (tally N (λ n. eqb (lowest (join k a b) n) n) < tally N (λ n. eqb (lowest k n) n))
      go (yes e) = inl (join_same k a b e)
      go (no d) =
          let x = max (lowest k a) (lowest k b) in
          let ha = S.function.low a in
          let hb = S.function.low b in
          inr (tally_less N x (λ n. eqb (lowest (join k a b) n) n) (λ n. eqb (lowest k n) n)
          (λ n e. eq-eqb (lowest k n) n (was_low d n (joined (lowest k) a b n) (sym (lowest_join k a b S n) ∙ eqb-true (lowest (join k a b) n) n e)))
          (omega arith)
          (ne_eqb (lowest (join k a b) x) x (λ q. now_higher d (joined (lowest k) a b x) (sym (lowest_join k a b S x) ∙ q)))
          (eq-eqb (lowest k x) x (top (dec_le (lowest k a) (lowest k b)))))

  falls_on : (k k' k'' : Labels) → (k' ≡ k) ⊎ (measure N k' < measure N k) → (k'' ≡ k') ⊎ (measure N k'' < measure N k') → (k'' ≡ k) ⊎ (measure N k'' < measure N k)
  falls_on k k' k'' (inl e) (inl f) = inl (f ∙ e)
  falls_on k k' k'' (inl e) (inr h) = inr (rw (← e) h)
  falls_on k k' k'' (inr g) (inl f) = inr (rw f g)
  falls_on k k' k'' (inr g) (inr h) = inr (omega arith)

  all_falls : (ps : List (ℕ × ℕ)) (k : Labels) → Sound k → ((p : ℕ × ℕ) → Memᴰ p ps → (p.0 < N) × (p.1 < N)) → (join_all k ps ≡ k) ⊎ (measure N (join_all k ps) < measure N k)
  unfolding join_all
  all_falls [] k S h = inl refl
  all_falls (p ∷ ps) k S h =
      let w = h p (mathlib.Core.List.Memᴰ.head refl) in
      falls_on k (join k p.0 p.1) (join_all (join k p.0 p.1) ps) (join_falls k p.0 p.1 S w.0 w.1) (all_falls ps (join k p.0 p.1) (join_sound k p.0 p.1 S) (λ q m. h q (mathlib.Core.List.Memᴰ.tail m)))

  turn_falls : (k : Labels) (p : Like) → Sound k → ((q : ℕ × ℕ) → Memᴰ q (zip p.0.kids p.1.kids) → (q.0 < N) × (q.1 < N)) → (turn k p ≡ k) ⊎ (measure N (turn k p) < measure N k)
  turn_falls k p S h = go (turned k p)
    where
      go : {k' : Labels} → Turned k p k' → (k' ≡ k) ⊎ (measure N k' < measure N k)
      go (idle e) = inl e
      go (joined_like e f g) = rw g (all_falls (zip p.0.kids p.1.kids) k S h)

  pass_falls : (ps : List Like) (k : Labels) → Sound k → ((p : Like) → Memᴰ p ps → (q : ℕ × ℕ) → Memᴰ q (zip p.0.kids p.1.kids) → (q.0 < N) × (q.1 < N)) → (pass k ps ≡ k) ⊎ (measure N (pass k ps) < measure N k)
  unfolding pass
  pass_falls [] k S h = inl refl
  pass_falls (p ∷ ps) k S h = falls_on k (turn k p) (pass (turn k p) ps) (turn_falls k p S (h p (mathlib.Core.List.Memᴰ.head refl))) (pass_falls ps (turn k p) (turn_sound k p S) (λ q m. h q (mathlib.Core.List.Memᴰ.tail m)))

same_classes_true : (j k : Labels) → same_classes j k ≡ true → j ≡ k
unfolding same_classes
same_classes_true [] [] e = refl
same_classes_true [] (q ∷ qs) e = let z : ◌≡◌ {A = ℕ} 0 1 = cc in absurd (omega arith)
same_classes_true (p ∷ ps) [] e = let z : ◌≡◌ {A = ℕ} 0 1 = cc in absurd (omega arith)
same_classes_true ((a, v) ∷ ps) ((b, w) ∷ qs) e = go (eqb a b) refl (eqb v w) refl (λ q. same_classes_true ps qs q) e
  where
    go : (s : Bool) → eqb a b ≡ s → (u : Bool) → eqb v w ≡ u → (same_classes ps qs ≡ true → ps ≡ qs) → elim (s && u) as (λ _. Bool) [ true ↦ same_classes ps qs | false ↦ false ] ≡ true → ◌≡◌ {A = Labels} ((a, v) ∷ ps) ((b, w) ∷ qs)
    go true p true q h r = let x = eqb-true a b p in let y = eqb-true v w q in let z = h r in rw (x, y, z) refl
    go true p false q h r = let z : ◌≡◌ {A = ℕ} 0 1 = cc in absurd (omega arith)
    go false p u q h r = let z : ◌≡◌ {A = ℕ} 0 1 = cc in absurd (omega arith)

same_classes_refl : (k : Labels) → same_classes k k ≡ true
unfolding same_classes
same_classes_refl [] = refl
same_classes_refl ((a, v) ∷ k) = rw (eq-eqb a a refl, eq-eqb v v refl, same_classes) (same_classes_refl k)

-- what `close` leaves, a pass leaves alone; it is sound, and coarser than the start
record Closed (hs : List Holder) (k r : Labels) : Type 0 where
  sound : Sound r
  rests : pass r (pairs hs) ≡ r
  coarser : (x y : ℕ) → lowest k x ≡ lowest k y → lowest r x ≡ lowest r y

closed : (N : ℕ) (hs : List Holder) → ((p : Like) → Memᴰ p (pairs hs) → (q : ℕ × ℕ) → Memᴰ q (zip p.0.kids p.1.kids) → (q.0 < N) × (q.1 < N)) → (n : ℕ) (k : Labels) → Sound k → measure N k < n → Closed hs k (close n hs k)
unfolding close
closed N hs h zero k S m = absurd (not-suc-le-zero m)
closed N hs h (suc n) k S m = go (same_classes next k) refl (pass_falls N (pairs hs) k S h) (λ l. closed N hs h n next (pass_sound (pairs hs) k S) l)
  where
    next : Labels
    next = pass k (pairs hs)

    go : (s : Bool) → same_classes next k ≡ s → (next ≡ k) ⊎ (measure N next < measure N k) → (measure N next < n → Closed hs next (close n hs next)) → Closed hs k (close (suc n) hs k)
    go true e f r = rw (e, close) (record { sound = S; rests = same_classes_true next k e; coarser = λ x y q. q })
    go false e (inl f) r = let q : same_classes next k ≡ true = rw f (same_classes_refl k) in let z : ◌≡◌ {A = ℕ} 0 1 = cc in absurd (omega arith)
    go false e (inr f) r =
        let w = r (omega arith) in
        rw (e, close) (record { sound = w.sound; rests = w.rests; coarser = λ x y q. w.coarser x y (pass_keeps (pairs hs) k S x y q) })

like_closed : (hs : List Holder) (k r : Labels) → Closed hs k r → (h g : Holder) (a b : ℕ) → Memᴰ h hs → Memᴰ g hs → h.shape ≡ g.shape → lowest r h.site ≡ lowest r g.site → Memᴰ (a, b) (zip h.kids g.kids) → lowest r a ≡ lowest r b
like_closed hs k r C h g a b m n f e z = go (in_pairs hs h g m n)
  where
    one_way : (p : Like) (x y : ℕ) → Memᴰ p (pairs hs) → p.0.shape ≡ p.1.shape → lowest r p.0.site ≡ lowest r p.1.site → Memᴰ (x, y) (zip p.0.kids p.1.kids) → lowest r x ≡ lowest r y
    one_way p x y q s d w = sym (ap (λ u. lowest u x) C.rests) ∙ (pass_joins (pairs hs) r p x y C.sound q s d w ∙ ap (λ u. lowest u y) C.rests)

    go : (h ≡ g) ⊎ (Memᴰ {A = Like} (h, g) (pairs hs) ⊎ Memᴰ {A = Like} (g, h) (pairs hs)) → lowest r a ≡ lowest r b
    go (inl q) = let w : Memᴰ (a, b) (zip h.kids h.kids) = subst (λ (u : Holder). Memᴰ (a, b) (zip h.kids u.kids)) (sym q) z in ap (lowest r) (zip_same h.kids a b w)
    go (inr (inl q)) = one_way (h, g) a b q f e z
    go (inr (inr q)) = sym (one_way (g, h) b a q (sym f) (sym e) (zip_back h.kids g.kids a b z))

number_inside : (t : Sites) (s : Site) (n : ℕ) → number_of t s ≡ some n → n < length t
unfolding number_of
number_inside [] s n e = absurd (never e)
number_inside (x ∷ t) s n e = go (same_site x s) refl (number_of t s) refl (λ m q. number_inside t s m q) e
  where
    go : (u : Bool) → same_site x s ≡ u → (o : Option ℕ) → number_of t s ≡ o → ((m : ℕ) → number_of t s ≡ some m → m < length t) →
        elim u as (λ _. Option ℕ) [ true ↦ some 0 | false ↦ elim o as (λ _. Option ℕ) [ none ↦ none | some m ↦ some (suc m) ] ] ≡ some n → n < length (x ∷ t)
    go true p o q h r = let z : 0 ≡ n = cc in omega arith
    go false p none q h r = absurd (never r)
    go false p (some m) q h r = let z : suc m ≡ n = cc in let w = h m q in omega arith

child_inside : (t : Sites) → 0 < length t → (n : ℕ) (c : Constraint) (i : ℕ) → child_number t n c i < length t
unfolding child_number
child_inside t h n c i = go (number_of t (child n c i)) refl
  where
    go : (o : Option ℕ) → number_of t (child n c i) ≡ o → or_else o 0 < length t
    go none e = h
    go (some m) e = number_inside t (child n c i) m e

-- the children of the constrained sites are sites
pub kids_inside : (t : Sites) (cs : Constraints) → 0 < length t → (h : Holder) → Memᴰ h (map (holder t) cs) → (n : ℕ) → Memᴰ n h.kids → n < length t
unfolding holder
kids_inside t cs z h m n w =
    let r = mathlib.Core.List.Memᴰ.of_map (holder t) cs m in
    let p = r.0 in
    let w' : Memᴰ n (below (child_count p.1) (child_number t p.0 p.1)) = subst (λ (u : Holder). Memᴰ n u.kids) (sym r.2) w in
    let q = of_below (child_count p.1) (child_number t p.0 p.1) n w' in
    rw q.2 (child_inside t z p.0 p.1 q.0)

-- ---- the theorem

-- of any equalities and holders, where the children are below N
module _ (N : ℕ) (eqs : List (ℕ × ℕ)) (hs : List Holder) (inside : (h : Holder) → Memᴰ h hs → (n : ℕ) → Memᴰ n h.kids → n < N) where
  start : Labels
  start = join_all [] eqs

  start_sound : Sound start
  unfolding start
  start_sound = all_sound eqs [] none_sound

  is_closed : Closed hs start (closure_of N eqs hs)
  unfolding closure_of start measure
  is_closed = closed N hs
      (λ p m q w. let r = of_pairs hs p m in let z = of_zip p.0.kids p.1.kids q w in (inside p.0 r.0 q.0 z.0, inside p.1 r.1 q.1 z.1))
      (suc N) start start_sound (let m = tally_most N (λ n. eqb (lowest start n) n) in omega arith)

  from_together : {x y : ℕ} → Together eqs hs x y → lowest (closure_of N eqs hs) x ≡ lowest (closure_of N eqs hs) y
  unfolding start
  from_together (written_so {a = a} {b = b} m) = is_closed.coarser a b (all_joins eqs [] none_sound (a, b) m)
  from_together itself = refl
  from_together (back g) = sym (from_together g)
  from_together (through g h) = from_together g ∙ from_together h
  from_together (like {a = a} {b = b} h g m n f t z) = like_closed hs start (closure_of N eqs hs) is_closed h g a b m n f (from_together t) z

  right_start : Right eqs hs start
  unfolding start lowest look
  right_start = all_right eqs hs eqs [] (λ p m. written_so m) (record { sound = none_sound; only = λ x y e. let q : x ≡ y = e in rw q itself })

  pub closure_of_is : (x y : ℕ) → (lowest (closure_of N eqs hs) x ≡ lowest (closure_of N eqs hs) y) ↔ Together eqs hs x y
  unfolding closure_of start
  closure_of_is x y = ((close_right eqs hs (suc N) start right_start).only x y, from_together)

  pub closure_sound : Sound (closure_of N eqs hs)
  closure_sound = is_closed.sound

-- and of a rule on its way
pub closure_is : (l : Loading) → 0 < length l.sites → (x y : ℕ) → (lowest (closure l) x ≡ lowest (closure l) y) ↔ Together l.equalities (holders l) x y
unfolding closure holders
closure_is l some-site = closure_of_is (length l.sites) l.equalities (holders l) (kids_inside l.sites l.constraints some-site)

-- No second answer: two solved forms of a set that match the same inputs have the same constraints and the same equal sites (`one_form`). So the kept rule
-- is the only solved form that matches the inputs of the written one (`only_kept`).
use Rattle.std.specs.Prelude.{◌≡◌, refl, ◌↔◌, [], ◌∷◌, ℕ, suc, ◌≤◌, ◌<◌, length}
use Rattle.std.proofs.Common.{sym, ap, ◌∙◌, arith}
use Rattle.std.proofs.Math.Option.{Option, none, some}
use Rattle.std.proofs.Math.Decide.{ℕ_discrete, dec_le}
use Rattle.paper.specs.declared.Constraint.{Constraint}
use Rattle.paper.specs.Words.{Table, look}
use Rattle.paper.specs.Sites.{Sites, child_number, Sound}
use Rattle.paper.specs.Inputs.{Given, Input, Matches, MatchesKept}
use Rattle.paper.specs.Loading.{Set, Written, Kept, lowest}
use Rattle.paper.proofs.Labels.{never, look_here, look_past}
use Rattle.paper.proofs.Tables.{Rising, look_in, above, lowest_is}
use Rattle.paper.proofs.Making.{load_sound}
use Rattle.meaning.specs.Kinds.{kind_in, input_is}
use Rattle.meaning.specs.Model.{forced_equal}
use Rattle.meaning.specs.Places.{places_of}
use Rattle.meaning.specs.Joining.{label_of}
use Rattle.meaning.specs.Answers.{Stands, form, fulfils_kept}
use Rattle.meaning.specs.Pairs.{stands_shape}
use Rattle.meaning.specs.Answers as A
use Rattle.meaning.specs.Demand3.{Keeps, demand_2}

-- ---- two ascending tables in which the same is found are one

not_below : {A : Type 0} (n m : ℕ) (t : Table A) → Rising n t → m < n → look t m ≡ none
not_below n m t R h = go (look t m) refl
  where
    go : (o : Option _) → look t m ≡ o → look t m ≡ none
    go none e = e
    go (some a) e = let l = above n t (m, a) R (look_in t m a e) in absurd (omega arith)

same_table : {A : Type 0} (lo hi : ℕ) (s t : Table A) → Rising lo s → Rising hi t → ((n : ℕ) → look s n ≡ look t n) → s ≡ t
unfolding look
same_table lo hi [] [] R Q f = refl
same_table lo hi [] ((m, b) ∷ t) R Q f = absurd (never (f m ∙ look_here m b t))
same_table lo hi ((n, a) ∷ s) [] R Q f = absurd (never (sym (f n) ∙ look_here n a s))
same_table {A} lo hi ((n, a) ∷ s) ((m, b) ∷ t) R Q f = go (ℕ_discrete n m) (λ g. same_table (suc n) (suc m) s t R.1 Q.1 g)
  where
    low : (x y : ℕ) (c d : A) (u v : Table A) → Rising (suc y) v → x < y → look ((x, c) ∷ u) x ≡ look ((y, d) ∷ v) x → ⊥
    low x y c d u v P h e = never (sym (not_below y x ((y, d) ∷ v) (omega arith, P) h) ∙ (sym e ∙ look_here x c u))

    apart : (n ≡ m → ⊥) → Dec (n ≤ m) → ⊥
    apart d (yes h) = low n m a b s t Q.1 (omega arith) (f n)
    apart d (no h) = low m n b a t s R.1 (omega arith) (sym (f m))

    tails : n ≡ m → (x : ℕ) → Dec (n ≡ x) → look s x ≡ look t x
    tails e x (yes q) = not_below (suc n) x s R.1 (omega arith) ∙ sym (not_below (suc m) x t Q.1 (omega arith))
    tails e x (no q) = sym (look_past n x a s q) ∙ (f x ∙ look_past m x b t (λ z. q (e ∙ z)))

    go : Dec (n ≡ m) → (((x : ℕ) → look s x ≡ look t x) → s ≡ t) → ◌≡◌ {A = Table A} ((n, a) ∷ s) ((m, b) ∷ t)
    go (no d) r = absurd (apart d (dec_le n m))
    go (yes e) r =
        let h : some a ≡ some b = sym (look_here n a s) ∙ (f n ∙ (rw e (look_here m b t))) in
        let c : a ≡ b = cc in
        let q = r (λ x. tails e x (ℕ_discrete n x)) in
        rw (e, c, q) refl

-- ---- two solved forms

abbrev Within : Sites → Kept → Kept → Type 0
Within t j k = (at : Given) → Input t at → MatchesKept at k → MatchesKept at j

module _ (t : Sites) (S : Sound t) (j k : Kept) (J : Stands t j) (K : Stands t k) (within : Within t j k) where
  -- what j constrains, k constrains so
  same_constraint_at : (n : ℕ) (c : Constraint) → look j.constraints n ≡ some c → look k.constraints n ≡ some c
  same_constraint_at n c e = (stands_shape t S k K n c).1 (λ at I M. (within at I M).meets n c e)

  -- what j holds equal, k does, unless it is constrained there
  same_class_at : ((n : ℕ) → look j.constraints n ≡ look k.constraints n) → (a b : ℕ) → lowest j.equals a ≡ lowest j.equals b →
      lowest k.equals a ≡ lowest k.equals b
  same_class_at con a b e = go (ℕ_discrete a b)
    where
      go : Dec (a ≡ b) → lowest k.equals a ≡ lowest k.equals b
      go (yes q) = ap (lowest k.equals) q
      go (no d) = (forced_equal (kind_in t) (length t) (look k.constraints) (child_number t) (lowest k.equals) (places_of t S) (form t k K) a b d
          (sym (con a) ∙ J.free a b e d) (sym (con b) ∙ J.free b a (sym e) (λ z. d (sym z)))
          (λ at I F. ((fulfils_kept j J.well at).0 (within at ((input_is t at).1 I) ((fulfils_kept k K.well at).1 F))).agrees a b
          (record { same = e; two = d }))).same

  -- so k's lowest members are no higher, and who has a label in j has one in k
  lower_at : ((n : ℕ) → look j.constraints n ≡ look k.constraints n) → (n : ℕ) → lowest k.equals n ≤ lowest j.equals n
  lower_at con n =
      let e = same_class_at con (lowest j.equals n) n (J.well.sound.function.idem n) in
      let l = K.well.sound.function.low (lowest j.equals n) in
      omega arith

  label_at : ((n : ℕ) → look j.constraints n ≡ look k.constraints n) → (n v : ℕ) → look j.equals n ≡ some v →
      look k.equals n ≡ some (lowest k.equals n)
  label_at con n v e = let m = J.well.mate n v e in label_of k.equals K.well n m.0 (same_class_at con n m.0 (sym m.2)) (λ z. m.1 (sym z))

both_ways : {A : Type 0} (s t : Table A) (n : ℕ) → ((a : A) → look s n ≡ some a → look t n ≡ some a) → ((a : A) → look t n ≡ some a → look s n ≡ some a) →
    look s n ≡ look t n
both_ways {A} s t n f g = go (look s n) refl (look t n) refl
  where
    go : (o : Option A) → look s n ≡ o → (p : Option A) → look t n ≡ p → look s n ≡ look t n
    go (some a) e p q = e ∙ sym (f a e)
    go none e none q = e ∙ sym q
    go none e (some a) q = absurd (never (sym e ∙ g a q))

pub one_form : (t : Sites) → Sound t → (j k : Kept) → Stands t j → Stands t k → ((at : Given) → Input t at → MatchesKept at j ↔ MatchesKept at k) →
    (j.constraints ≡ k.constraints) × (j.equals ≡ k.equals)
one_form t S j k J K same = (
  same_table 0 0 j.constraints k.constraints J.rising K.rising con,
  same_table 0 0 j.equals k.equals J.well.rising K.well.rising (λ n. both_ways j.equals k.equals n (λ v e. one n v e) (λ v e. other n v e)),
)
  where
    in_k : (at : Given) → Input t at → MatchesKept at k → MatchesKept at j
    in_k at I = (same at I).1

    in_j : (at : Given) → Input t at → MatchesKept at j → MatchesKept at k
    in_j at I = (same at I).0

    con : (n : ℕ) → look j.constraints n ≡ look k.constraints n
    con n = both_ways j.constraints k.constraints n (same_constraint_at t S j k J K in_k n) (same_constraint_at t S k j K J in_j n)

    lowest_same : (n : ℕ) → lowest j.equals n ≡ lowest k.equals n
    lowest_same n = let a = lower_at t S j k J K in_k con n in let b = lower_at t S k j K J in_j (λ n. sym (con n)) n in omega arith

    one : (n v : ℕ) → look j.equals n ≡ some v → look k.equals n ≡ some v
    one n v e = label_at t S j k J K in_k con n v e ∙ ap some (sym (lowest_same n) ∙ lowest_is j.equals n v e)

    other : (n v : ℕ) → look k.equals n ≡ some v → look j.equals n ≡ some v
    other n v e = label_at t S k j K J in_j (λ n. sym (con n)) n v e ∙ ap some (lowest_same n ∙ lowest_is k.equals n v e)

-- the kept rule
pub only_kept : (g : Set) (r : Written) (h : Set) (k j : Kept) → Sound g.sites → Keeps g r h k → Stands h.sites j →
    ((at : Given) → Input h.sites at → Matches at r.items ↔ MatchesKept at j) → (j.constraints ≡ k.constraints) × (j.equals ≡ k.equals)
only_kept g r h k j S K J same = one_form h.sites (load_sound g r h S K.loaded) j k J (A.new_stands g r S h k K.loaded K.last)
    (λ at I. let x = same at I in let y = demand_2 g r h k S K at I in (λ M. y.0 (x.1 M), λ M. x.0 (y.1 M)))

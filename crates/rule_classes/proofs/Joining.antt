-- A join as the classes' laws give it, and how growths follow one another.
use mathlib.Core.Path.{◌≡◌, refl, sym, ap, ◌∙◌, subst, subst⁻¹}
use mathlib.Core.Bool.{Bool, true, false, not}
use mathlib.Core.Logic.{◌⊎◌, inl, inr}
use mathlib.Core.List.{List, [], ◌∷◌, ◌++◌, foldl}
use Prim.Native.Nat.{ℕ, zero, suc, ◌+◌, ◌*◌, ◌/◌, ◌≤◌, ◌<◌}
use native.Mathlib.Omega.{arith}
use native.Mathlib.Numerals.{add-one}
use native.Mathlib.Decide.{ℕ_discrete, dec_lt}
use lib.ListN.{length, replicate, get_or-replicate}
use lib.Dec.{eqb}
use borrow.Author.Tests.{eqb-true, eqb-false, not-true, not-false}
use borrow.Author.Count.{below_more}
use Rattle.std.specs.declared.result.Result.TheVariants.{Err, Ok}
use Rattle.std.specs.Result.{result_unwrap_or}
use Rattle.paper.specs.declared.Refusal.{Refusal}
use Rattle.paper.specs.declared.Refusal.TheVariants.{Itself}
use Rattle.paper.specs.Words.{below}
use Rattle.paper.specs.Numbers.{max_sites, Outcome, done, refused}
use Rattle.paper.specs.Classes.{Classes, classes, no_classes, enter, unite, merge}
use Rattle.paper.specs.Loading.{Holder, Together, written_so, itself, back, through}
use Rattle.paper.proofs.Closure.{in_below}
use Rattle.paper.proofs.Lists.{no_way}
use Rattle.paper.specs.Answered.{Answer}
use Rattle.classes.specs.Answers.{rep, joined, joined_by, two_classes}
use Rattle.classes.specs.Well.{Well, WellMade}
use Rattle.classes.specs.Equal.{class_count, Only, before, forth, Unites}
use Rattle.classes.specs.Equal as Eq
use Rattle.classes.proofs.Counting.{cnt_ext}
use Rattle.classes.proofs.Calls.{merge_same, merge_done}
use Rattle.classes.proofs.Uniting.{unites, rep_lone, rep_outside}
use Rattle.classes.proofs.Merging.{empty_well}
use Rattle.rule_rows.specs.Holding.{kid_in, eq_at, eqs_in, kept_by, merged, merge_each, Inside}
use Rattle.rule_classes.specs.Growing.{One, Right, Grown, Equates, JoinsKids}

-- ---- one join

unites_equates : (c d : Classes) (x y : ℕ) (k : Bool) → Unites c d x y k → Equates c.parents d.parents d.ranks d.count x y k
unites_equates c d x y k U = record {
  grown = record { well = U.well; grows = U.grows; same = U.same; fewer = λ e. let h = U.fewer e in omega arith };
  joins = U.joins;
  only = U.only;
}

self_equates : (c : Classes) (x y : ℕ) → WellMade c → x ≡ y → Equates c.parents c.parents c.ranks c.count x y false
self_equates c x y W e = record {
  grown = record { well = W; grows = λ u v o. o; same = λ o z. refl; fewer = λ o. no_way (sym o) };
  joins = ap (rep c.parents) e;
  only = λ u v o. before o;
}

-- what a join answers, and what it leaves
data Answered (c : Classes) (x y : ℕ) : Classes × Answer Bool → Type 0 where
  was_one : (e : Refusal) → Equates c.parents c.parents c.ranks c.count x y false → Answered c x y (c, Err e)
  now_one : (d : Classes) (k : Bool) → Equates c.parents d.parents d.ranks d.count x y k → Answered c x y (d, Ok k)

answer : (c : Classes) (x y : ℕ) → WellMade c → x < max_sites → y < max_sites → Answered c x y (joined c x y)
unfolding unite
answer c x y W hx hy = go (ℕ_discrete x y)
  where
    k : Bool
    k = not (eqb (enter c x).root (enter (enter c x).after y).root)

    go : Dec (x ≡ y) → Answered c x y (joined c x y)
    go (yes e) = rw (← merge_same c x y hx hy e) (was_one (Itself x) (self_equates c x y W e))
    go (no n) =
        rw (← merge_done c x y hx hy n (enter c x) (enter (enter c x).after y) (unite c x y) refl refl refl)
        (now_one (unite c x y) k (unites_equates c (unite c x y) x y k
        (unites c W x y hx hy k (λ e. eqb-true _ _ (not-false _ e)) (λ e. eqb-false _ _ (not-true _ e)))))

-- what was joined, or false where the join is refused
pub equated : (p r : List ℕ) (n x y : ℕ) → Well p r n → x < max_sites → y < max_sites → (q s : List ℕ) (m : ℕ) (j : Answer Bool) (k : Bool)
    → ◌≡◌ {A = Classes × Answer Bool} (classes q s m, j) (joined (classes p r n) x y) → k ≡ result_unwrap_or j false → Equates p q s m x y k
equated p r n x y W hx hy q s m j k e o = go (answer (classes p r n) x y W hx hy) e
  where
    go : {w : Classes × Answer Bool} → Answered (classes p r n) x y w → ◌≡◌ {A = Classes × Answer Bool} (classes q s m, j) w → Equates p q s m x y k
    go (was_one f E) w =
        let ed : classes q s m ≡ classes p r n = ap (λ (u : Classes × Answer Bool). u.0) w in
        let ej : j ≡ Err f = ap (λ (u : Classes × Answer Bool). u.1) w in
        let ek : k ≡ false = o ∙ ap (λ (u : Answer Bool). result_unwrap_or u false) ej in
        rw ek (subst⁻¹ (λ (u : Classes). Equates p u.parents u.ranks u.count x y false) ed E)
    go (now_one d h E) w =
        let ed : classes q s m ≡ d = ap (λ (u : Classes × Answer Bool). u.0) w in
        let ej : j ≡ Ok h = ap (λ (u : Classes × Answer Bool). u.1) w in
        let ek : k ≡ h = o ∙ ap (λ (u : Answer Bool). result_unwrap_or u false) ej in
        rw ek (subst⁻¹ (λ (u : Classes). Equates p u.parents u.ranks u.count x y h) ed E)

-- ---- growths

-- a flag j that a step with the answer k may have set
abbrev pub Moved : Bool → Bool → Bool → Type 0
Moved k j j' = ((k ≡ true) × (j' ≡ true)) ⊎ ((k ≡ false) × (j' ≡ j))

pub not_moved : (k j j' : Bool) → Moved k j j' → j' ≡ false → (k ≡ false) × (j ≡ false)
not_moved k j j' (inl e) f = no_way (sym e.1 ∙ f)
not_moved k j j' (inr e) f = (e.0, sym e.1 ∙ f)

pub grown_none : (p r : List ℕ) (n : ℕ) → Well p r n → Grown p p r n false
grown_none p r n W = record { well = W; grows = λ u v o. o; same = λ o z. refl; fewer = λ o. no_way (sym o) }

count_same : (p q : List ℕ) → ((z : ℕ) → rep q z ≡ rep p z) → class_count q ≡ class_count p
unfolding class_count
count_same p q h = cnt_ext (λ z. eqb (rep q z) z) (λ z. eqb (rep p z) z) max_sites (λ z l. ap (λ (k : ℕ). eqb k z) (h z))

no_more : (p q r : List ℕ) (n : ℕ) (j : Bool) → Grown p q r n j → class_count q ≤ class_count p
no_more p q r n true G = let h = G.fewer refl in omega arith
no_more p q r n false G = let h = count_same p q (G.same refl) in omega arith

pub grown_then : (p q s r t : List ℕ) (n m : ℕ) (j k j' : Bool) → Grown p q r n j → Grown q s t m k → Moved k j j' → Grown p s t m j'
grown_then p q s r t n m j k j' G H w = record {
  well = H.well;
  grows = λ u v o. H.grows u v (G.grows u v o);
  same = λ o z. let f = not_moved k j j' w o in H.same f.0 z ∙ G.same f.1 z;
  fewer = less w;
}
  where
    less : Moved k j j' → j' ≡ true → class_count s < class_count p
    less (inl e) o = let h = H.fewer e.0 in let g = no_more p q r n j G in omega arith
    less (inr e) o = let h = count_same q s (H.same e.0) in let g = G.fewer (sym e.1 ∙ o) in omega arith

-- ---- the children of two rows

module _ (kids : List ℕ) (i j : ℕ) where
  pub kids_none : (p r : List ℕ) (n : ℕ) → Well p r n → JoinsKids kids p p r n i j 0 false
  kids_none p r n W = record { grown = grown_none p r n W; joined = λ f l. absurd (omega arith); sound = λ E hs R L. R }

  pub kids_step : (p q s r t : List ℕ) (n m f : ℕ) (a k b : Bool) → JoinsKids kids p q r n i j f a → Equates q s t m (kid_in kids i f) (kid_in kids j f) k → Moved k a b
      → JoinsKids kids p s t m i j (f + 1) b
  kids_step p q s r t n m f a k b K U w = record {
    grown = grown_then p q s r t n m a k b K.grown U.grown w;
    joined = below_more _ _ (λ g l. U.grown.grows (kid_in kids i g) (kid_in kids j g) (K.joined g l)) U.joins;
    sound = λ E hs R L u v o. by E hs (K.sound E hs R (λ g l. L g (omega arith))) (L f (omega arith)) u v (U.only u v o);
  }
    where
      by : (E : List (ℕ × ℕ)) (hs : List Holder) → Right E hs q → Together E hs (kid_in kids i f) (kid_in kids j f) → (u v : ℕ) → Only q (kid_in kids i f) (kid_in kids j f) u v → Together E hs u v
      by E hs R T u v (before e) = R u v e
      by E hs R T u v (forth e g) = through (R _ _ e) (through T (back (R _ _ g)))
      by E hs R T u v (Eq.back e g) = through (R _ _ e) (through (back T) (back (R _ _ g)))

-- ---- the written equalities

foldl_snoc : {A B : Type 0} (g : A → B → A) (a : A) (xs : List B) (x : B) → foldl g a (xs ++ (x ∷ [])) ≡ g (foldl g a xs) x
foldl_snoc g a [] x = refl
foldl_snoc g a (y ∷ xs) x = foldl_snoc g (g a y) xs x

pub all_none : (c : Classes) (f : ℕ → ℕ × ℕ) → c ≡ merge_each c (below 0 f)
unfolding merge_each below
all_none c f = refl

all_more : (c : Classes) (f : ℕ → ℕ × ℕ) (k : ℕ) → merge_each c (below (suc k) f) ≡ merged (merge_each c (below k f)) (f k)
unfolding merge_each below
all_more c f k = foldl_snoc merged c (below k f) (f k)

kept_joined : (c : Classes) (b : Bool) (o : Outcome Classes) → (joined_by c b o).0 ≡ kept_by c o
kept_joined c b (done d) = refl
kept_joined c b (refused e) = refl

pub all_step : (c : Classes) (eqs : List ℕ) (k : ℕ) (d e : Classes) (j : Answer Bool) → d ≡ merge_each c (below k (eq_at eqs))
    → ◌≡◌ {A = Classes × Answer Bool} (e, j) (joined d (eq_at eqs k).0 (eq_at eqs k).1) → e ≡ merge_each c (below (k + 1) (eq_at eqs))
unfolding merged
all_step c eqs k d e j h q =
    ap (λ (u : Classes × Answer Bool). u.0) q
    ∙ (kept_joined d (two_classes d (eq_at eqs k).0 (eq_at eqs k).1) (merge d (eq_at eqs k).0 (eq_at eqs k).1)
    ∙ (ap (λ (u : Classes). merged u (eq_at eqs k)) h ∙ (sym (all_more c (eq_at eqs) k) ∙ rw add-one refl)))

pub all_done : (c d : Classes) (eqs : List ℕ) (k m : ℕ) → k ≡ m → m ≡ length eqs / 2 → d ≡ merge_each c (below k (eq_at eqs)) → d ≡ merge_each c (eqs_in eqs)
unfolding eqs_in
all_done c d eqs k m e f h = h ∙ ap (λ n. merge_each c (below n (eq_at eqs))) (e ∙ f)

-- the classes that they make: no more than the least equivalence, and each joined
pub record Starts (eqs : List ℕ) (hs : List Holder) (c : Classes) (k : ℕ) : Type 0 where
  pub well : WellMade c
  pub right : Right (eqs_in eqs) hs c.parents
  pub written : (i : ℕ) → i < k → One c.parents (eq_at eqs i).0 (eq_at eqs i).1

lone_rep : (z : ℕ) → rep (replicate max_sites max_sites) z ≡ z
lone_rep z = go (dec_lt z max_sites)
  where
    go : Dec (z < max_sites) → rep (replicate max_sites max_sites) z ≡ z
    go (yes h) = rep_lone (replicate max_sites max_sites) z h (omega (arith, get_or-replicate {A = ℕ} max_sites z max_sites 0 h))
    go (no n) = rep_outside (replicate max_sites max_sites) z (omega arith)

module _ (eqs : List ℕ) (hs : List Holder) (I : Inside eqs) where
  starts_none : Starts eqs hs no_classes 0
  starts_none = record {
    well = empty_well;
    right = λ u v o. let e : u ≡ v = sym (lone_rep u) ∙ (o ∙ lone_rep v) in rw e itself;
    written = λ i l. absurd (omega arith);
  }

  starts_more : (c d : Classes) (k : ℕ) (b : Bool) → k < length eqs / 2 → Starts eqs hs c k → Equates c.parents d.parents d.ranks d.count (eq_at eqs k).0 (eq_at eqs k).1 b → Starts eqs hs d (suc k)
  unfolding eqs_in
  starts_more c d k b l S U = record {
    well = U.grown.well;
    right = λ u v o. by u v (U.only u v o);
    written = λ i h. at i (ℕ_discrete i k) h;
  }
    where
      T : Together (eqs_in eqs) hs (eq_at eqs k).0 (eq_at eqs k).1
      T = written_so (in_below (length eqs / 2) (eq_at eqs) k l)

      by : (u v : ℕ) → Only c.parents (eq_at eqs k).0 (eq_at eqs k).1 u v → Together (eqs_in eqs) hs u v
      by u v (before e) = S.right u v e
      by u v (forth e g) = through (S.right _ _ e) (through T (back (S.right _ _ g)))
      by u v (Eq.back e g) = through (S.right _ _ e) (through (back T) (back (S.right _ _ g)))

      at : (i : ℕ) → Dec (i ≡ k) → i < suc k → One d.parents (eq_at eqs i).0 (eq_at eqs i).1
      at i (yes e) h = rw e U.joins
      at i (no n) h = U.grown.grows _ _ (S.written i (omega arith))

  starts : (k : ℕ) → k ≤ length eqs / 2 → Starts eqs hs (merge_each no_classes (below k (eq_at eqs))) k
  unfolding merged
  starts zero l = rw (← all_none no_classes (eq_at eqs)) starts_none
  starts (suc k) l = rw all_more (go (starts k (omega arith)))
    where
      c : Classes
      c = merge_each no_classes (below k (eq_at eqs))

      made : Starts eqs hs c k → {w : Classes × Answer Bool} → Answered c (eq_at eqs k).0 (eq_at eqs k).1 w → Starts eqs hs w.0 (suc k)
      made S (was_one f E) = starts_more c c k false (omega arith) S E
      made S (now_one d h E) = starts_more c d k h (omega arith) S E

      go : Starts eqs hs c k → Starts eqs hs (merged c (eq_at eqs k)) (suc k)
      go S =
          subst (λ (d : Classes). Starts eqs hs d (suc k)) (kept_joined c (two_classes c (eq_at eqs k).0 (eq_at eqs k).1) (merge c (eq_at eqs k).0 (eq_at eqs k).1))
          (made S (answer c (eq_at eqs k).0 (eq_at eqs k).1 S.well (I (2 * k)) (I (2 * k + 1))))

  pub written_starts : Starts eqs hs (merge_each no_classes (eqs_in eqs)) (length eqs / 2)
  unfolding eqs_in
  written_starts = starts (length eqs / 2) (omega arith)

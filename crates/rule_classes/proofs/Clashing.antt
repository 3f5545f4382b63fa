-- What the code finds over roots is what paper says over labels: check 4.
use mathlib.Core.Path.{◌≡◌, refl, ap, ◌∙◌, subst}
use mathlib.Core.Bool.{Bool, true, false}
use mathlib.Core.Option.{Option, none, some}
use mathlib.Core.Logic.{◌↔◌}
use mathlib.Core.List.{List, [], ◌∷◌, ◌++◌, Memᴰ}
use Prim.Native.Nat.{ℕ, zero, suc, ◌<◌}
use native.Mathlib.Omega.{arith}
use native.Mathlib.Nat.{not-suc-le-zero}
use native.Mathlib.Decide.{ℕ_discrete}
use lib.Dec.{eqb}
use borrow.Author.Tests.{eq-eqb, ne_eqb}
use Rattle.std.specs.declared.option.Option.TheVariants.{Some}
use Rattle.paper.specs.declared.Refusal.TheVariants.{Unreachable}
use Rattle.paper.specs.Words.{below, first}
use Rattle.paper.specs.Numbers.{max_sites, done, refused}
use Rattle.paper.proofs.Labels.{Sound}
use Rattle.paper.specs.Loading.{Holder, Labels, Together, lowest, closure_of, first_holder, differs, conflict, told_4, check_4}
use Rattle.paper.proofs.Closure.{of_below, closure_of_is, closure_sound}
use Rattle.rule_rows.specs.Holding.{Held, bare, site_of, row_of, count_of, kid_of, holder_in, holders_to, class_check, Inside}
use Rattle.rule_classes.specs.Growing.{One}
use Rattle.rule_classes.specs.Meeting.{FirstOf, Like, Unlike, ClashAt, ClashIs}
use Rattle.rule_rows.proofs.Reading.{kid_inside}
use Rattle.rule_rows.proofs.Holders.{of_holders}

-- ---- lists

first_more : {A : Type 0} (P : A → Bool) (xs ys : List A) (a : A) → first P xs ≡ some a → first P (xs ++ ys) ≡ some a
unfolding first
first_more P [] ys a e = let z : ◌≡◌ {A = ℕ} 0 1 = cc in absurd (omega arith)
first_more {A} P (x ∷ xs) ys a e = go (P x) refl (λ q. first_more P xs ys a q) e
  where
    go : (t : Bool) → P x ≡ t → (first P xs ≡ some a → first P (xs ++ ys) ≡ some a) → elim t as (λ _. Option A) [ true ↦ some x | false ↦ first P xs ] ≡ some a → first P (x ∷ (xs ++ ys)) ≡ some a
    go true p h q = rw (p, first) q
    go false p h q = rw (p, first) (h q)

first_last : {A : Type 0} (P : A → Bool) (xs : List A) (x : A) (o : Option A) → first P xs ≡ none → first P (x ∷ []) ≡ o → first P (xs ++ (x ∷ [])) ≡ o
unfolding first
first_last P [] x o e f = f
first_last {A} P (y ∷ xs) x o e f = go (P y) refl (λ q. first_last P xs x o q f) e
  where
    go : (t : Bool) → P y ≡ t → (first P xs ≡ none → first P (xs ++ (x ∷ [])) ≡ o) → ◌≡◌ {A = Option A} (elim t as (λ _. Option A) [ true ↦ some y | false ↦ first P xs ]) none → first P (y ∷ (xs ++ (x ∷ []))) ≡ o
    go true p h q = let z : ◌≡◌ {A = ℕ} 0 1 = cc in absurd (omega arith)
    go false p h q = rw (p, first) (h q)

first_yes : {A : Type 0} (P : A → Bool) (x : A) → P x ≡ true → first P (x ∷ []) ≡ some x
unfolding first
first_yes P x e = rw (e, first)

first_no : {A : Type 0} (P : A → Bool) (x : A) → P x ≡ false → first P (x ∷ []) ≡ none
unfolding first
first_no P x e = rw (e, first)

first_none : {A : Type 0} (P : A → Bool) (f : ℕ → A) (n : ℕ) → ((g : ℕ) → g < n → P (f g) ≡ false) → first P (below n f) ≡ none
unfolding below first
first_none P f zero h = refl
first_none P f (suc n) h = first_last P (below n f) (f n) none (first_none P f n (λ g l. h g (omega arith))) (first_no P (f n) (h n (omega arith)))

first_below : {A : Type 0} (P : A → Bool) (f : ℕ → A) (n h : ℕ) → h < n → P (f h) ≡ true → ((g : ℕ) → g < h → P (f g) ≡ false) → first P (below n f) ≡ some (f h)
unfolding below
first_below P f zero h l e N = absurd (not-suc-le-zero l)
first_below P f (suc n) h l e N = go (λ k. first_below P f n h k e N) (ℕ_discrete h n)
  where
    go : (h < n → first P (below n f) ≡ some (f h)) → Dec (h ≡ n) → first P (below n f ++ (f n ∷ [])) ≡ some (f h)
    go r (yes q) = first_last P (below n f) (f n) (some (f h)) (first_none P f n (λ g k. N g (omega arith))) (rw q (first_yes P (f n) (rw q at e)))
    go r (no d) = first_more P (below n f) (f n ∷ []) (f h) (r (omega arith))

-- ---- classes and labels

-- the labels of the least equivalence
unfoldable pub labels : Held → List (ℕ × ℕ) → ℕ → Labels
labels H E m = closure_of max_sites E (holders_to H m)

-- the classes of q and the labels are the same
pub record Agree (H : Held) (E : List (ℕ × ℕ)) (q : List ℕ) (m : ℕ) : Type 0 where
  pub to : (u v : ℕ) → One q u v → lowest (labels H E m) u ≡ lowest (labels H E m) v
  pub fro : (u v : ℕ) → lowest (labels H E m) u ≡ lowest (labels H E m) v → One q u v
  pub sound : Sound (labels H E m)

pub agree : (H : Held) (E : List (ℕ × ℕ)) (q : List ℕ) (m : ℕ) → ((u v : ℕ) → One q u v ↔ Together E (holders_to H m) u v) → Inside H.kids → Agree H E q m
unfolding labels
agree H E q m exact IK = record {
  to = λ u v o. (closure_of_is max_sites E (holders_to H m) inside u v).1 ((exact u v).0 o);
  fro = λ u v e. (exact u v).1 ((closure_of_is max_sites E (holders_to H m) inside u v).0 e);
  sound = closure_sound max_sites E (holders_to H m) inside;
}
  where
    inside : (h : Holder) → Memᴰ h (holders_to H m) → (n : ℕ) → Memᴰ n h.kids → n < max_sites
    inside h l n b =
        let w = of_holders H m h l in
        let b' : Memᴰ n (holder_in H w.0).kids = subst (λ (x : Holder). Memᴰ n x.kids) w.2 b in
        let v = of_below (count_of H w.0) (kid_of H w.0) n b' in
        rw v.2 (kid_inside H.kids (row_of H w.0) v.0 IK)

-- ---- 4 over the classes of q

module _ (H : Held) (E : List (ℕ × ℕ)) (q : List ℕ) (m : ℕ) (A : Agree H E q m) where
  abbrev hs : List Holder
  hs = holders_to H m

  abbrev k : Labels
  k = labels H E m

  first_is : (g h : ℕ) → h < m → FirstOf (bare H.sites H.rows H.words) q g h → first_holder k hs (lowest k (site_of H h)) ≡ some (holder_in H g)
  unfolding first_holder holders_to
  first_is g h l F =
      first_below (λ x. eqb (lowest k x.site) (lowest k (site_of H h))) (holder_in H) m g (let b = F.before in omega arith)
      (eq-eqb _ _ (A.to (site_of H g) (site_of H h) F.one))
      (λ f i. ne_eqb _ _ (λ e. F.least f i (A.fro (site_of H f) (site_of H h) e)))

  unlike_is : (h g : ℕ) → h < m → Unlike (bare H.sites H.rows H.words) q h g → differs (holder_in H h) (first_holder k hs (lowest k (site_of H h))) ≡ true
  unlike_is h g l U = rw (first_is g h l U.first, U.differ)

  like_is : (h : ℕ) → h < m → Like (bare H.sites H.rows H.words) q h → differs (holder_in H h) (first_holder k hs (lowest k (site_of H h))) ≡ false
  like_is h l L = rw (first_is L.boss h l L.first, L.same)

  clash_found : (s b : ℕ) (C : ClashAt (bare H.sites H.rows H.words) q m s b) → conflict k hs ≡ some (holder_in H C.at)
  unfolding conflict holders_to
  clash_found s b C =
      first_below (λ x. differs x (first_holder k hs (lowest k x.site))) (holder_in H) m C.at C.among
      (unlike_is C.at C.boss C.among C.unlike)
      (λ f i. like_is f (let a = C.among in omega arith) (C.likes f i))

  clash : (s b : ℕ) → ClashAt (bare H.sites H.rows H.words) q m s b → check_4 k hs (conflict k hs) ≡ refused (Unreachable s b)
  clash s b C = ap (check_4 k hs) (clash_found s b C) ∙ (ap (told_4 (site_of H C.at)) (first_is C.boss C.at C.among C.unlike.first) ∙ rw (C.site, C.other))

  none_found : ((h : ℕ) → h < m → Like (bare H.sites H.rows H.words) q h) → conflict k hs ≡ none
  unfolding conflict holders_to
  none_found L = first_none (λ x. differs x (first_holder k hs (lowest k x.site))) (holder_in H) m (λ h l. like_is h l (L h l))

  pub no_clash : ((h : ℕ) → h < m → Like (bare H.sites H.rows H.words) q h) → check_4 k hs (conflict k hs) ≡ done tt
  no_clash L = ap (check_4 k hs) (none_found L)

  pub answer_clash : (s b : ℕ) → ClashIs (bare H.sites H.rows H.words) q m (Some (s, b)) → class_check E hs ≡ refused (Unreachable s b)
  unfolding class_check labels ClashIs
  answer_clash s b C = rw (clash s b C)

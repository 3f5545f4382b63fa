-- One turn of each loop of the closure, and what the closure leaves: exactly the least equivalence.
use mathlib.Core.Path.{◌≡◌, refl, sym, ap, ◌∙◌, subst, subst⁻¹}
use mathlib.Core.Bool.{Bool, true, false, ◌&&◌}
use mathlib.Core.Logic.{◌↔◌, ◌⊎◌, inl, inr}
use mathlib.Core.List.{List, Memᴰ}
use Prim.Native.Nat.{ℕ, zero, suc, ◌+◌, ◌/◌, ◌≤◌, ◌<◌}
use native.Mathlib.Omega.{arith}
use native.Mathlib.Decide.{ℕ_discrete, dec_lt}
use lib.ListN.{length}
use lib.Dec.{eqb}
use borrow.Author.Tests.{eqb-true, eq-eqb}
use borrow.Author.Count.{below_more}
use Rattle.paper.specs.Words.{zip}
use Rattle.paper.specs.Sites.{same_constraint}
use Rattle.paper.proofs.Laws.{same_constraint_true}
use Rattle.paper.specs.Classes.{Classes}
use Rattle.paper.specs.Loading.{Together, written_so, itself, back, through, like}
use Rattle.paper.proofs.Closure.{of_below}
use Rattle.paper.proofs.Lists.{no_way}
use Rattle.rule_words.proofs.PackLaws.{same_refl}
use Rattle.classes.specs.Answers.{rep}
use Rattle.classes.specs.Well.{Well}
use Rattle.rule_rows.specs.Holding.{Held, shape_in, kid_count, site_of, row_of, shape_of, count_of, kid_of, holder_in, holders_to, eq_at, eqs_in}
use Rattle.rule_classes.specs.Growing.{One, Right, JoinsKids, mate, Kids, Rest, Meets, SweptTo, Closed}
use Rattle.rule_rows.proofs.Holders.{same_count, in_holders, of_holders, in_zip, of_zip}
use Rattle.rule_classes.proofs.Joining.{Moved, not_moved, grown_none, grown_then, Starts}

module _ (H : Held) where
  -- ---- mates

  and_true : (s t : Bool) → (s && t) ≡ true → (s ≡ true) × (t ≡ true)
  and_true true t e = (refl, e)
  and_true false t e = no_way (sym e)

  pub mates_one : (p : List ℕ) (g h : ℕ) → mate H p g h ≡ true → (shape_of H g ≡ shape_of H h) × One p (site_of H g) (site_of H h)
  unfolding mate
  mates_one p g h e =
      let w = and_true _ _ e in
      (same_constraint_true (shape_of H g) (shape_of H h) w.0, eqb-true _ _ w.1)

  pub one_mates : (p : List ℕ) (g h : ℕ) → shape_of H g ≡ shape_of H h → One p (site_of H g) (site_of H h) → mate H p g h ≡ true
  unfolding mate
  one_mates p g h e o = rw (eq-eqb _ _ o, e, same_refl)

  -- whoever is a mate of the one is a mate of the other
  mates_as : (p : List ℕ) (f g h : ℕ) → shape_of H g ≡ shape_of H h → One p (site_of H g) (site_of H h) → mate H p f g ≡ mate H p f h
  unfolding mate
  mates_as p f g h e o = rw (e, o)

  mates_same : (p q : List ℕ) → ((z : ℕ) → rep q z ≡ rep p z) → (g h : ℕ) → mate H q g h ≡ mate H p g h
  unfolding mate
  mates_same p q e g h = rw (e (site_of H g), e (site_of H h))

  pub rest_same : (p q : List ℕ) → ((z : ℕ) → rep q z ≡ rep p z) → (h : ℕ) → Rest H q h → Rest H p h
  rest_same p q e h R g l m first f i =
      sym (e (kid_of H g f)) ∙ (R g l (mates_same p q e g h ∙ m) (λ k b. mates_same p q e k h ∙ first k b) f i ∙ e (kid_of H h f))

  -- what the test in `meet` says
  pub mate_is : (p : List ℕ) (g h j s b : ℕ) (t : Bool) → j ≡ row_of H h → s ≡ site_of H h → b ≡ rep p s
      → t ≡ (same_constraint (shape_of H g) (shape_in H.words j) && eqb (rep p (site_of H g)) b) → t ≡ mate H p g h
  unfolding mate
  mate_is p g h j s b t ej es eb e = e ∙ rw (ej, eb, es)

  -- ---- meet

  pub meets_none : (p r : List ℕ) (n h : ℕ) → Well p r n → ((g : ℕ) → g < h → mate H p g h ≡ false) → Meets H p p r n false h
  meets_none p r n h W N = record {
    grown = grown_none p r n W;
    sound = λ E m l R. R;
    rest = λ _ g l m first. no_way (sym m ∙ N g l);
  }

  pub meets_join : (p q r : List ℕ) (n h g : ℕ) (k : Bool) → g < h → mate H p g h ≡ true → ((f : ℕ) → f < g → mate H p f h ≡ false)
      → JoinsKids H.kids p q r n (row_of H g) (row_of H h) (count_of H g) k → Meets H p q r n k h
  meets_join p q r n h g k l m first K = record {
    grown = K.grown;
    sound = λ E i hi R. K.sound E (holders_to H i) R (λ f b.
        let w = mates_one p g h m in
        like (holder_in H g) (holder_in H h) (in_holders H i g (omega arith)) (in_holders H i h hi) w.0 (R (site_of H g) (site_of H h) w.1) (in_zip H g h f w.0 b));
    rest = λ o g' l' m' first'. at o g' m' first' (dec_lt g' g) (dec_lt g g');
  }
    where
      at : k ≡ false → (g' : ℕ) → mate H p g' h ≡ true → ((f : ℕ) → f < g' → mate H p f h ≡ false) → Dec (g' < g) → Dec (g < g') → Kids H p g' h
      at o g' m' first' (yes b) d = no_way (sym m' ∙ first g' b)
      at o g' m' first' (no d) (yes b) = no_way (sym m ∙ first' g b)
      at o g' m' first' (no d) (no d') =
          let e : g' ≡ g = omega arith in
          subst⁻¹ (λ (x : ℕ). Kids H p x h) e (λ f b. sym (K.grown.same o (kid_of H g f)) ∙ (K.joined f b ∙ K.grown.same o (kid_of H h f)))

  -- the body of meet: j, s and b are the row, the site and the representative of h
  module _ (p₀ p : List ℕ) (ep : p ≡ p₀) (h j s b : ℕ) (ej : j ≡ row_of H h) (es : s ≡ site_of H h) (eb : b ≡ rep p₀ s) where
    pub test_is : (g : ℕ) (t : Bool) → t ≡ (same_constraint (shape_of H g) (shape_in H.words j) && eqb (rep p (site_of H g)) b) → t ≡ mate H p g h
    test_is g t e = mate_is p g h j s b t ej es (eb ∙ ap (λ (x : List ℕ). rep x s) (sym ep)) e

    pub met : (q r : List ℕ) (n g i m : ℕ) (k t : Bool) → g < h → t ≡ (same_constraint (shape_of H g) (shape_in H.words j) && eqb (rep p (site_of H g)) b) → t ≡ true
        → ((f : ℕ) → f < g → mate H p f h ≡ false) → i ≡ row_of H g → m ≡ kid_count H.words i → JoinsKids H.kids p q r n i j m k → Meets H p₀ q r n k h
    met q r n g i m k t l e o first ei em K =
        let em' : m ≡ count_of H g = rw ei at em in
        let K' : JoinsKids H.kids p q r n (row_of H g) (row_of H h) (count_of H g) k = rw (ei, ej, em') at K in
        subst (λ (x : List ℕ). Meets H x q r n k h) ep (meets_join p q r n h g k l (sym (test_is g t e) ∙ o) first K')

    pub not_met : (r : List ℕ) (n : ℕ) → Well p r n → ((g : ℕ) → g < h → mate H p g h ≡ false) → Meets H p₀ p r n false h
    not_met r n W N = subst (λ (x : List ℕ). Meets H x p r n false h) ep (meets_none p r n h W N)

  -- ---- sweep

  pub swept_none : (p r : List ℕ) (n m : ℕ) → Well p r n → SweptTo H p p r n false m 0
  swept_none p r n m W = record { grown = grown_none p r n W; sound = λ E R. R; rest = λ _ h l. absurd (omega arith) }

  pub swept_step : (p q s r t : List ℕ) (n n' m i : ℕ) (j k j' : Bool) → i < m → SweptTo H p q r n j m i → Meets H q s t n' k i → Moved k j j' → SweptTo H p s t n' j' m (i + 1)
  swept_step p q s r t n n' m i j k j' l S M w = record {
    grown = grown_then p q s r t n n' j k j' S.grown M.grown w;
    sound = λ E R. M.sound E m l (S.sound E R);
    rest = λ o. let f = not_moved k j j' w o in below_more _ _ (S.rest f.1) (rest_same p q (S.grown.same f.1) i (M.rest f.0));
  }

  -- ---- close

  -- between the sweeps
  pub record Between (p q r : List ℕ) (n m : ℕ) : Type 0 where
    pub well : Well q r n
    pub grows : (u v : ℕ) → One p u v → One q u v
    pub sound : (E : List (ℕ × ℕ)) → Right E (holders_to H m) p → Right E (holders_to H m) q

  pub between_none : (p r : List ℕ) (n m : ℕ) → Well p r n → Between p p r n m
  between_none p r n m W = record { well = W; grows = λ u v o. o; sound = λ E R. R }

  pub between_step : (p q s r t : List ℕ) (n n' m : ℕ) (k : Bool) → Between p q r n m → SweptTo H q s t n' k m m → Between p s t n' m
  between_step p q s r t n n' m k B S = record {
    well = S.grown.well;
    grows = λ u v o. S.grown.grows u v (B.grows u v o);
    sound = λ E R. S.sound E (B.sound E R);
  }

  pub closed : (p q s r t : List ℕ) (n n' m : ℕ) (k : Bool) → k ≡ false → Between p q r n m → SweptTo H q s t n' k m m → Closed H p s t n' m
  closed p q s r t n n' m k e B S = record {
    well = S.grown.well;
    grows = λ u v o. S.grown.grows u v (B.grows u v o);
    sound = λ E R. S.sound E (B.sound E R);
    rest = λ h l. rest_same s q (λ z. sym (S.grown.same e z)) h (S.rest e h l);
  }

  -- ---- at rest the children of any two mates are joined: each has those of the first mate

  least : (P : ℕ → Bool) (n : ℕ) → P n ≡ true → (g : ℕ) × (g ≤ n) × (P g ≡ true) × ((f : ℕ) → f < g → P f ≡ false)
  least P n e = found (scan n)
    where
      scan : (k : ℕ) → ((g : ℕ) × (g < k) × (P g ≡ true) × ((f : ℕ) → f < g → P f ≡ false)) ⊎ ((f : ℕ) → f < k → P f ≡ false)
      scan zero = inr (λ f l. absurd (omega arith))
      scan (suc k) = more (scan k) (P k) refl
        where
          more : ((g : ℕ) × (g < k) × (P g ≡ true) × ((f : ℕ) → f < g → P f ≡ false)) ⊎ ((f : ℕ) → f < k → P f ≡ false) → (t : Bool) → P k ≡ t
              → ((g : ℕ) × (g < suc k) × (P g ≡ true) × ((f : ℕ) → f < g → P f ≡ false)) ⊎ ((f : ℕ) → f < suc k → P f ≡ false)
          more (inl w) t o = inl (w.0, omega (arith, w.1), w.2, w.3)
          more (inr N) true o = inl (k, omega arith, o, N)
          more (inr N) false o = inr (λ f l. at f (ℕ_discrete f k) l)
            where
              at : (f : ℕ) → Dec (f ≡ k) → f < suc k → P f ≡ false
              at f (yes q) l = ap P q ∙ o
              at f (no q) l = N f (omega arith)

      found : ((g : ℕ) × (g < n) × (P g ≡ true) × ((f : ℕ) → f < g → P f ≡ false)) ⊎ ((f : ℕ) → f < n → P f ≡ false) → (g : ℕ) × (g ≤ n) × (P g ≡ true) × ((f : ℕ) → f < g → P f ≡ false)
      found (inl w) = (w.0, omega (arith, w.1), w.2, w.3)
      found (inr N) = (n, omega arith, e, N)

  module _ (p : List ℕ) (m : ℕ) (R : (h : ℕ) → h < m → Rest H p h) where
    -- with the first mate
    with_first : (h g : ℕ) → h < m → g ≤ h → mate H p g h ≡ true → ((f : ℕ) → f < g → mate H p f h ≡ false) → Kids H p g h
    with_first h g l b e first = go (ℕ_discrete g h)
      where
        go : Dec (g ≡ h) → Kids H p g h
        go (yes q) = λ f i. ap (λ (x : ℕ). rep p (kid_of H x f)) q
        go (no q) = R h l g (omega arith) e first

    pub kids_joined : (a b : ℕ) → a < m → b < m → shape_of H a ≡ shape_of H b → One p (site_of H a) (site_of H b) → Kids H p a b
    kids_joined a b ha hb e o = go (least (λ g. mate H p g a) a (one_mates p a a refl refl)) (least (λ g. mate H p g b) b (one_mates p b b refl refl))
      where
        go : (g : ℕ) × (g ≤ a) × (mate H p g a ≡ true) × ((f : ℕ) → f < g → mate H p f a ≡ false)
            → (g : ℕ) × (g ≤ b) × (mate H p g b ≡ true) × ((f : ℕ) → f < g → mate H p f b ≡ false) → Kids H p a b
        go (g, la, ma, na) (k, lb, mb, nb) = same (dec_lt g k) (dec_lt k g)
          where
            same : Dec (g < k) → Dec (k < g) → Kids H p a b
            same (yes l) d = no_way (sym ma ∙ (mates_as p g a b e o ∙ nb g l))
            same (no d) (yes l) = no_way (sym mb ∙ (sym (mates_as p k a b e o) ∙ na k l))
            same (no d) (no d') =
                let q : k ≡ g = omega arith in
                let A = with_first a g ha la ma na in
                let B : Kids H p g b = subst (λ (x : ℕ). Kids H p x b) q (with_first b k hb lb mb nb) in
                let n = same_count H g a (mates_one p g a ma).0 in
                λ f i. sym (A f (omega arith)) ∙ B f (omega arith)

  -- ---- so the classes are exactly the least equivalence

  module _ (eqs : List ℕ) (c : Classes) (q r : List ℕ) (n m : ℕ) (S : Starts eqs (holders_to H m) c (length eqs / 2)) (C : Closed H c.parents q r n m) where
    pub holds : {u v : ℕ} → Together (eqs_in eqs) (holders_to H m) u v → One q u v
    unfolding eqs_in
    holds (written_so {a = a} {b = b} l) =
        let w = of_below (length eqs / 2) (eq_at eqs) (a, b) l in
        C.grows a b (go w.0 w.1 w.2)
      where
        go : (i : ℕ) → i < length eqs / 2 → ◌≡◌ {A = ℕ × ℕ} (a, b) (eq_at eqs i) → One c.parents a b
        go i h e = subst⁻¹ (λ (x : ℕ × ℕ). One c.parents x.0 x.1) e (S.written i h)
    holds itself = refl
    holds (back t) = sym (holds t)
    holds (through t w) = holds t ∙ holds w
    holds (like {a = a} {b = b} x y mx my e t l) = go (of_holders H m x mx) (of_holders H m y my) (holds t) e l
      where
        go : (h : ℕ) × (h < m) × (x ≡ holder_in H h) → (g : ℕ) × (g < m) × (y ≡ holder_in H g) → One q x.site y.site → x.shape ≡ y.shape
            → Memᴰ (a, b) (zip x.kids y.kids) → One q a b
        go (h, lh, eh) (g, lg, eg) o e l =
            let e' : shape_of H h ≡ shape_of H g = rw (eh, eg) at e in
            let o' : One q (site_of H h) (site_of H g) = rw (eh, eg) at o in
            let l' : Memᴰ (a, b) (zip (holder_in H h).kids (holder_in H g).kids) = rw (eh, eg) at l in
            let w = of_zip H h g e' (a, b) l' in
            subst⁻¹ (λ (x : ℕ × ℕ). One q x.0 x.1) w.2 (kids_joined q m C.rest h g lh lg e' o' w.0 w.1)

    pub exactly : (u v : ℕ) → One q u v ↔ Together (eqs_in eqs) (holders_to H m) u v
    exactly u v = (C.sound (eqs_in eqs) S.right u v, holds)

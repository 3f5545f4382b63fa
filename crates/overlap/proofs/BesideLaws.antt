-- The walk over two rules side by side: the sites of the larger that were passed ascend, so the next site of the smaller is looked for after them.
use mathlib.Core.Path.{◌≡◌, refl, sym, ap, ◌∙◌}
use mathlib.Core.Bool.{Bool, true, false}
use mathlib.Core.Logic.{◌⊎◌, inl, inr, ⊎_elim}
use mathlib.Core.Option.{Option, none, some}
use mathlib.Core.List.{List}
use Prim.Native.Nat.{ℕ, zero, suc, ◌+◌, ◌*◌, ◌-◌, ◌≤◌, ◌<◌}
use native.Mathlib.Omega.{arith}
use native.Mathlib.Numerals.{add-one}
use lib.ListN.{get_or}
use lib.Dec.{leb}
use borrow.Author.Tests.{leb-true, leb-false}
use borrow.Author.Count.{below_more}
use Rattle.std.specs.declared.option.Option.TheVariants.{Some}
use Rattle.paper.specs.declared.Constraint.{Constraint}
use Rattle.paper.specs.declared.Overlap.{Overlap}
use Rattle.paper.specs.declared.Overlap.TheVariants.{Yes}
use Rattle.paper.specs.Words.{any, look}
use Rattle.paper.specs.Sites.{same_constraint}
use Rattle.paper.specs.Rules.{differ, other_there, compare_with}
use Rattle.paper.proofs.Lists.{or_true}
use Rattle.rule_words.specs.Stored.{first_constrained, constrained_word, constrained_count, run, constraint_at, constrained_at, kept_at}
use Rattle.paper.specs.Answered.{Maybe}
use Rattle.overlap.specs.Rising.{Rising}
use Rattle.overlap.specs.Equals.{subset_or_yes}
use Rattle.overlap.proofs.WalkLaws.{look_hit, look_next, look_end, Walked, walked_none, walked_missing, walked_same}
use Rattle.overlap.proofs.AnswerLaws.{site_here, same_here, answer_part, answer_all}

pub never : {A : Type 0} → false ≡ true → A
never e = let z : ◌≡◌ {A = ℕ} 0 1 = cc in absurd (omega arith)

pub told : (k o : Overlap) → Some k ≡ Some o → k ≡ o
told k o e = cc

-- ---- numbers that ascend
abbrev pub Ascends : (ℕ → ℕ) → ℕ → Type 0
Ascends v m = (j k : ℕ) → j ≤ k → k < m → v j ≤ v k

-- the first i of them, none above low
pub record Risen (v : ℕ → ℕ) (i low : ℕ) : Type 0 where
  pub under : (k : ℕ) → k < i → v k ≤ low
  pub rises : Ascends v i

pub risen_none : (v : ℕ → ℕ) (low : ℕ) → Risen v 0 low
risen_none v low = record { under = λ k h. absurd (omega arith); rises = λ j k g h. absurd (omega arith) }

pub risen_more : (v : ℕ → ℕ) (i low w : ℕ) → Risen v i low → ((k : ℕ) → k < i → v k ≤ w) → v i ≡ w → Risen v (i + 1) w
risen_more v i low w r h e = record {
  under = below_more (λ k. v k ≤ w) i h (omega arith);
  rises = λ j k g l. below_more (λ t. (s : ℕ) → s ≤ t → v s ≤ v t) i (λ t lt s le. r.rises s t le lt) (λ s le. below_more (λ t. v t ≤ v i) i (λ t lt. omega (arith, h t lt)) (omega arith) s (omega arith)) k l j g;
}

-- what ascends up to i and then from i on, not below low, ascends
pub risen_on : (v : ℕ → ℕ) (i m low : ℕ) → Risen v i low → ((k : ℕ) → i ≤ k → k < m → low ≤ v k) → ((j k : ℕ) → i ≤ j → j ≤ k → k < m → v j ≤ v k) → Ascends v m
risen_on v i m low r over on j k g h = go (leb i j) refl (leb i k) refl
  where
    go : (t : Bool) → leb i j ≡ t → (u : Bool) → leb i k ≡ u → v j ≤ v k
    go true p u q = on j k (leb-true i j p) g h
    go false p true q = omega (arith, r.under j (leb-false i j p), over k (leb-true i k q) h)
    go false p false q = r.rises j k g (leb-false i k q)

-- ---- the rest of a rule, four words a site
pub record Rest (ws : List ℕ) (from low q last : ℕ) : Type 0 where
  pub i : ℕ
  pub at_q : q ≡ from + 4 * i
  pub risen : Risen (λ k. get_or ws (from + 4 * k) 0) i last
  pub over : (k : ℕ) → k < i → low ≤ get_or ws (from + 4 * k) 0
  pub grown : low ≤ last

pub rest_none : (ws : List ℕ) (from low : ℕ) → Rest ws from low from low
rest_none ws from low = record { i = 0; at_q = omega arith; risen = risen_none _ _; over = λ k h. absurd (omega arith); grown = omega arith }

module _ (ws : List ℕ) (from low q last : ℕ) (r : Rest ws from low q last) where
  pub rest_more : last ≤ get_or ws q 0 → Rest ws from low (q + 4) (get_or ws q 0)
  rest_more h =
      let e : get_or ws (from + 4 * r.i) 0 ≡ get_or ws q 0 = rw r.at_q in
      record {
        i = r.i + 1;
        at_q = omega (arith, r.at_q);
        risen = risen_more _ r.i last _ r.risen (λ k l. omega (arith, r.risen.under k l)) e;
        over = below_more (λ k. low ≤ get_or ws (from + 4 * k) 0) r.i r.over (omega (arith, e, r.grown));
        grown = omega (arith, r.grown);
      }

  pub rest_done : (end : ℕ) → end ≤ q → Rising ws from end low
  rest_done end h = record { over = λ k l. r.over k (omega (arith, r.at_q)); rises = λ j k g l. r.risen.rises j k g (omega (arith, r.at_q)) }

-- ---- what the larger has at a site
module _ (g : ℕ → ℕ × Constraint) (m s : ℕ) where
  -- past the first y of them, none of which is the site
  look_past : (y : ℕ) → y ≤ m → ((k : ℕ) → k < y → (g k).0 ≡ s → ⊥) → look (run g 0 m) s ≡ look (run g y (m - y)) s
  look_past zero h n = let z : m - 0 ≡ m = omega arith in rw z
  look_past (suc y) h n = rw (← add-one y) (look_next g m s y (omega arith) (n y (omega arith)) (look_past y (omega arith) (λ k l. n k (omega arith))))

  look_none : ((k : ℕ) → k < m → (g k).0 ≡ s → ⊥) → look (run g 0 m) s ≡ none
  look_none n = look_end g m s m (omega arith) (look_past m (omega arith) n)

  look_first : (y : ℕ) → y < m → ((k : ℕ) → k < y → (g k).0 ≡ s → ⊥) → (g y).0 ≡ s → look (run g 0 m) s ≡ some (g y).1
  look_first y h n e = look_hit g m s y h e (look_past y (omega arith) n)

-- one that differs is enough, whatever the others are
any_run : {A : Type 0} (t : A → Bool) (f : ℕ → A) (k i x : ℕ) → x < k → t (f (i + x)) ≡ true → any t (run f i k) ≡ true
unfolding any run
any_run t f zero i x h e = absurd (omega arith)
any_run t f (suc k) i zero h e = let z : i + 0 ≡ i = omega arith in rw (← z, e)
any_run t f (suc k) i (suc x) h e = let z : suc i + x ≡ i + suc x = omega arith in rw (any_run t f k (suc i) x (omega arith) (rw z e), or_true (t (f i)))

-- ---- both walks: x of the smaller are done, and y of the larger passed. Where a site was not found, that holds if the larger ascends.
pub record Merged (f : ℕ → ℕ × Constraint) (n : ℕ) (g : ℕ → ℕ × Constraint) (m : ℕ) (all : Bool) (last x y : ℕ) : Type 0 where
  pub reached : y ≤ m
  pub risen : Risen (λ k. (g k).0) y last
  pub sure : (all ≡ false → Ascends (λ k. (g k).0) m) → Walked f n (run g 0 m) all x

pub merged_none : (f : ℕ → ℕ × Constraint) (n : ℕ) (g : ℕ → ℕ × Constraint) (m : ℕ) → Merged f n g m true 0 0 0
merged_none f n g m = record { reached = omega arith; risen = risen_none _ _; sure = λ _. walked_none f n (run g 0 m) }

module _ (f : ℕ → ℕ × Constraint) (n : ℕ) (g : ℕ → ℕ × Constraint) (m : ℕ) (all : Bool) (last x y site : ℕ) (w : Merged f n g m all last x y) (here : site ≡ (f x).0) (l : x < n) (ahead : (y ≡ 0) ⊎ (last < site)) where
  passed : (k : ℕ) → k < y → (g k).0 < site
  passed k h = ⊎_elim (λ z. absurd (omega arith)) (λ z. omega (arith, w.risen.under k h)) ahead

  at_site : (o : Option Constraint) → look (run g 0 m) site ≡ o → look (run g 0 m) (f x).0 ≡ o
  at_site o e = ap (look (run g 0 m)) (sym here) ∙ e

  -- all of the larger is passed
  pub merged_end : m ≤ y → Merged f n g m false last (x + 1) y
  merged_end h = record {
    reached = w.reached;
    risen = w.risen;
    sure = λ u. walked_missing f n (run g 0 m) all x l (w.sure (λ _. u refl)) (at_site none (look_none g m site (λ k j e. let z = passed k (omega arith) in omega arith)));
  }

  module _ (there : ℕ) (h : y < m) (e : there ≡ (g y).0) where
    -- the next site of the larger is higher
    pub merged_missing : site < there → Merged f n g m false last (x + 1) y
    merged_missing s = record {
      reached = w.reached;
      risen = w.risen;
      sure = λ u. walked_missing f n (run g 0 m) all x l (w.sure (λ _. u refl)) (at_site none (look_none g m site (λ k j d. apart (u refl) k j d (leb y k) refl)));
    }
      where
        apart : Ascends (λ k. (g k).0) m → (k : ℕ) → k < m → (g k).0 ≡ site → (t : Bool) → leb y k ≡ t → ⊥
        apart u k j d true p = let z : (g y).0 ≤ (g k).0 = u y k (leb-true y k p) j in omega arith
        apart u k j d false p = let z = passed k (leb-false y k p) in omega arith

    found : site ≡ there → look (run g 0 m) (f x).0 ≡ some (g y).1
    found s = at_site (some (g y).1) (look_first g m site y h (λ k j d. let z = passed k j in omega arith) (sym e ∙ sym s))

    -- it is the site
    pub merged_same : site ≡ there → same_constraint (f x).1 (g y).1 ≡ true → Merged f n g m all site (x + 1) (y + 1)
    merged_same s d = record {
      reached = omega arith;
      risen = risen_more _ y last site w.risen (λ k j. let z = passed k j in omega arith) (sym e ∙ sym s);
      sure = λ u. walked_same f n (run g 0 m) all x l (w.sure u) (g y).1 (found s) d;
    }

    pub merged_no : site ≡ there → same_constraint (f x).1 (g y).1 ≡ false → differ (run f 0 n) (run g 0 m) ≡ true
    unfolding differ
    merged_no s d = any_run (λ p. other_there (look (run g 0 m) p.0) p.1) f n 0 x l (let z : 0 + x ≡ x = omega arith in rw (z, found s, d))

    -- it is lower
    pub merged_pass : last ≤ there → Merged f n g m all there x (y + 1)
    merged_pass s = record {
      reached = omega arith;
      risen = risen_more _ y last there w.risen (λ k j. omega (arith, w.risen.under k j)) (sym e);
      sure = w.sure;
    }

-- ---- the same where the words lie: the walk is at p in the rule at a, and at q in the rule at b
pub record Beside (ws : List ℕ) (a n b m : ℕ) (all : Bool) (last p q : ℕ) : Type 0 where
  pub x : ℕ
  pub y : ℕ
  pub at_p : p ≡ constrained_word a x
  pub at_q : q ≡ constrained_word b y
  pub merged : Merged (constrained_at ws a) n (constrained_at ws b) m all last x y

pub beside_none : (ws : List ℕ) (a n b m : ℕ) → Beside ws a n b m true 0 (a + first_constrained) (b + first_constrained)
beside_none ws a n b m = record { x = 0; y = 0; at_p = omega arith; at_q = omega arith; merged = merged_none _ _ _ _ }

module _ (ws : List ℕ) (a n b m : ℕ) (all : Bool) (last p q : ℕ) (w : Beside ws a n b m all last p q) where
  module _ (l : p < constrained_word a n) (ahead : (q ≤ b + first_constrained) ⊎ (last < get_or ws p 0)) where
    here : get_or ws p 0 ≡ (constrained_at ws a w.x).0
    here = site_here ws a w.x p w.at_p

    less : w.x < n
    less = omega (arith, w.at_p)

    begun : (w.y ≡ 0) ⊎ (last < get_or ws p 0)
    begun = ⊎_elim (λ z. inl (omega (arith, w.at_q))) (λ z. inr z) ahead

    next_p : p + 4 ≡ a + first_constrained + 4 * (w.x + 1)
    next_p = omega (arith, w.at_p)

    next_q : q + 4 ≡ b + first_constrained + 4 * (w.y + 1)
    next_q = omega (arith, w.at_q)

    beside_end : constrained_word b m ≤ q → Beside ws a n b m false last (p + 4) q
    beside_end h = record { x = w.x + 1; y = w.y; at_p = next_p; at_q = w.at_q; merged = merged_end _ _ _ _ _ _ _ _ _ w.merged here less begun (omega (arith, w.at_q)) }

    module _ (h : q < constrained_word b m) where
      there_q : get_or ws q 0 ≡ (constrained_at ws b w.y).0
      there_q = site_here ws b w.y q w.at_q

      room : w.y < m
      room = omega (arith, w.at_q)

      beside_missing : get_or ws p 0 < get_or ws q 0 → Beside ws a n b m false last (p + 4) q
      beside_missing s = record { x = w.x + 1; y = w.y; at_p = next_p; at_q = w.at_q; merged = merged_missing _ _ _ _ _ _ _ _ _ w.merged here less begun _ room there_q s }

      beside_pass : last ≤ get_or ws q 0 → Beside ws a n b m all (get_or ws q 0) p (q + 4)
      beside_pass s = record { x = w.x; y = w.y + 1; at_p = w.at_p; at_q = next_q; merged = merged_pass _ _ _ _ _ _ _ _ _ w.merged here less begun _ room there_q s }

      module _ (s : get_or ws p 0 ≡ get_or ws q 0) (r : Bool) (i : r ≡ same_constraint (constraint_at ws (p + 1)) (constraint_at ws (q + 1))) where
        compared : same_constraint (constrained_at ws a w.x).1 (constrained_at ws b w.y).1 ≡ r
        compared = sym (same_here ws a w.x p b w.y q w.at_p w.at_q r i)

        beside_same : r ≡ true → Beside ws a n b m all (get_or ws p 0) (p + 4) (q + 4)
        beside_same t = record { x = w.x + 1; y = w.y + 1; at_p = next_p; at_q = next_q; merged = merged_same _ _ _ _ _ _ _ _ _ w.merged here less begun _ room there_q s (compared ∙ t) }

        beside_no : r ≡ false → differ (run (constrained_at ws a) 0 n) (run (constrained_at ws b) 0 m) ≡ true
        beside_no t = merged_no _ _ _ _ _ _ _ _ _ w.merged here less begun _ room there_q s (compared ∙ t)

  module _ (h : constrained_word a n ≤ p) (c : n ≡ constrained_count ws a) (d : m ≡ constrained_count ws b) where
    done : n ≤ w.x
    done = omega (arith, w.at_p)

    -- every site was found
    pub beside_all : all ≡ true → (r : Overlap) → r ≡ subset_or_yes (kept_at ws a) (kept_at ws b) → r ≡ compare_with (kept_at ws a) (kept_at ws b)
    beside_all t r i = answer_all ws a b n m c d all w.x done (w.merged.sure (λ z. never (sym z ∙ t))) t r i

    -- one was not, and what is left of the larger ascends
    pub beside_part : all ≡ false → Rising ws q (constrained_word b m) last → Yes ≡ compare_with (kept_at ws a) (kept_at ws b)
    beside_part t r = answer_part ws a b n m c d all w.x done (w.merged.sure (λ _. risen_on _ w.y m last w.merged.risen (λ k g l. rw (← site k g) (r.over (k - w.y) (omega (arith, w.at_q)))) (λ j k g e l. rw (← site j g, ← site k (omega arith)) (r.rises (j - w.y) (k - w.y) (omega arith) (omega (arith, w.at_q)))))) t
      where
        site : (k : ℕ) → w.y ≤ k → get_or ws (q + 4 * (k - w.y)) 0 ≡ (constrained_at ws b k).0
        site k g = site_here ws b k _ (omega (arith, w.at_q))

    pub beside_ended : (s : Maybe Overlap) → ((o : Overlap) → s ≡ Some o → all ≡ true → o ≡ subset_or_yes (kept_at ws a) (kept_at ws b)) → ((o : Overlap) → s ≡ Some o → all ≡ false → (o ≡ Yes) × Rising ws q (constrained_word b m) last) → (o : Overlap) → s ≡ Some o → o ≡ compare_with (kept_at ws a) (kept_at ws b)
    beside_ended s f g o e = go all refl
      where
        go : (t : Bool) → all ≡ t → o ≡ compare_with (kept_at ws a) (kept_at ws b)
        go true t = beside_all t o (f o e t)
        go false t = (g o e t).0 ∙ beside_part t (g o e t).1

-- ---- the inner walk: the site at p is looked for from q on
pub record Inner (ws : List ℕ) (a n b m : ℕ) (all : Bool) (last p site q : ℕ) : Type 0 where
  pub beside : Beside ws a n b m all last p q
  pub less : p < constrained_word a n
  pub here : site ≡ get_or ws p 0
  pub ahead : (q ≤ b + first_constrained) ⊎ (last < get_or ws p 0)

module _ (ws : List ℕ) (a n b m : ℕ) (all : Bool) (last p q : ℕ) where
  pub inner_start : Beside ws a n b m all last p q → p < constrained_word a n → (q ≤ b + first_constrained) ⊎ (last < get_or ws p 0) → Inner ws a n b m all last p (get_or ws p 0) q
  inner_start w l d = record { beside = w; less = l; here = refl; ahead = d }

  module _ (site : ℕ) (w : Inner ws a n b m all last p site q) where
    pub inner_end : constrained_word b m ≤ q → Beside ws a n b m false last (p + 4) q
    inner_end h = beside_end _ _ _ _ _ _ _ _ _ w.beside w.less w.ahead h

    module _ (h : q < constrained_word b m) where
      pub inner_missing : site < get_or ws q 0 → Beside ws a n b m false last (p + 4) q
      inner_missing s = beside_missing _ _ _ _ _ _ _ _ _ w.beside w.less w.ahead h (omega (arith, w.here))

      pub inner_pass : get_or ws q 0 < site → last ≤ get_or ws q 0 → Inner ws a n b m all (get_or ws q 0) p site (q + 4)
      inner_pass s l = record { beside = beside_pass _ _ _ _ _ _ _ _ _ w.beside w.less w.ahead h l; less = w.less; here = w.here; ahead = inr (omega (arith, w.here)) }

      module _ (s : site ≡ get_or ws q 0) (r : Bool) (i : r ≡ same_constraint (constraint_at ws (p + 1)) (constraint_at ws (q + 1))) where
        pub inner_same : r ≡ true → Beside ws a n b m all site (p + 4) (q + 4)
        inner_same t = rw w.here (beside_same _ _ _ _ _ _ _ _ _ w.beside w.less w.ahead h (sym w.here ∙ s) r i t)

        pub inner_no : r ≡ false → differ (run (constrained_at ws a) 0 n) (run (constrained_at ws b) 0 m) ≡ true
        inner_no t = beside_no _ _ _ _ _ _ _ _ _ w.beside w.less w.ahead h (sym w.here ∙ s) r i t

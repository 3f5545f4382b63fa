-- The check says what the definitions of [11] say: the proofs.
use mathlib.Core.Path.{◌≡◌, refl, sym, ap, ◌∙◌}
use mathlib.Core.Bool.{Bool, true, false, ◌&&◌, ◌||◌, not}
use mathlib.Core.Option.{Option, none, some}
use mathlib.Core.Logic.{◌↔◌, ◌⊎◌, inl, inr}
use mathlib.Core.List.{List, [], ◌∷◌, map}
use Prim.Native.Nat.{ℕ, suc, ◌≤◌, ◌<◌}
use native.Mathlib.Omega.{arith}
use lib.ListN.{length}
use lib.Dec.{ltb, leb}
use borrow.Author.Tests.{ltb-true, ltb-false, leb-true, lt-ltb, le-leb, eq-eqb, ne_eqb, not-true}
use Rattle.std.specs.declared.result.Result.TheVariants.{Err, Ok}
use Rattle.std.specs.Prelude.{if◌then◌else◌}
use Rattle.paper.specs.Words.{or_else, zip}
use Rattle.paper.proofs.Labels.{never}
use Rattle.paper.specs.Loading.{Kept, Set}
use native.Mathlib.Decide.{ℕ_discrete}
use Rattle.paper.specs.Rules.{is_multi, rank, edge, masks}
use Rattle.paper.specs.declared.Break.{Break}
use Rattle.paper.specs.declared.Break.TheVariants.{Edge, Mask, Order}
use Rattle.plan.specs.Answered.{Judged}
use Rattle.plan.specs.declared.Fault.TheVariants.{Bad, WrongLength}
use Rattle.paper.specs.Priorities.{with_priority, proposed, rule, level, Passes, Breaks, nth, FirstBad}
use Rattle.plan.specs.Plans.{has_edge, has_mask, loses_order, broken, told, first_of, bad_pair, first_bad, check}
use Rattle.plan.proofs.Tools.{apart, either, is_false, and_true, true_and, and_not, or_true, true_or, or_so, none_of, of_none, some_of, of_some}

-- ---- the three tests

abbrev pub test : Set → Set → Break → ℕ → ℕ → Bool
test g h Edge i j = has_edge h i j
test g h Mask i j = has_mask h i j
test g h Order i j = loses_order g h i j

not_so : (b : Bool) → b ≡ false → not b ≡ true
not_so true e = absurd (apart refl e)
not_so false e = refl

pub test_is : (g h : Set) (b : Break) (i j : ℕ) → (test g h b i j ≡ true) ↔ Breaks g h b i j
unfolding has_edge has_mask loses_order
test_is g h Edge i j = (
  λ e. let p = and_true (not (is_multi h.flags)) (edge (rule h i) (rule h j)) e in (not-true (is_multi h.flags) p.0, p.1),
  λ p. true_and (not (is_multi h.flags)) (edge (rule h i) (rule h j)) (not_so (is_multi h.flags) p.0) p.1,
)
test_is g h Mask i j = (
  λ e. let p = and_true (not (is_multi h.flags)) (masks (rule h i) (rule h j) || masks (rule h j) (rule h i)) e in (not-true (is_multi h.flags) p.0, or_true (masks (rule h i) (rule h j)) (masks (rule h j) (rule h i)) p.1),
  λ p. true_and (not (is_multi h.flags)) (masks (rule h i) (rule h j) || masks (rule h j) (rule h i)) (not_so (is_multi h.flags) p.0) (one p.1),
)
  where
    one : (masks (rule h i) (rule h j) ≡ true) ⊎ (masks (rule h j) (rule h i) ≡ true) → (masks (rule h i) (rule h j) || masks (rule h j) (rule h i)) ≡ true
    one (inl e) = true_or (masks (rule h i) (rule h j)) (masks (rule h j) (rule h i)) e
    one (inr e) = or_so (masks (rule h i) (rule h j)) (masks (rule h j) (rule h i)) e
test_is g h Order i j = (λ e. from (or_true (up i j) (up j i) e), into)
  where
    up : ℕ → ℕ → Bool
    up a b = ltb (level g a) (level g b) && leb (level h b) (level h a)

    turned : (a b : ℕ) → up a b ≡ true → (level g a < level g b) × (level h b ≤ level h a)
    turned a b e = let p = and_true (ltb (level g a) (level g b)) (leb (level h b) (level h a)) e in (ltb-true (level g a) (level g b) p.0, leb-true (level h b) (level h a) p.1)

    so : (a b : ℕ) → (level g a < level g b) × (level h b ≤ level h a) → up a b ≡ true
    so a b p = true_and (ltb (level g a) (level g b)) (leb (level h b) (level h a)) (lt-ltb (level g a) (level g b) p.0) (le-leb (level h b) (level h a) p.1)

    from : (up i j ≡ true) ⊎ (up j i ≡ true) → Breaks g h Order i j
    from (inl e) = inl (turned i j e)
    from (inr e) = inr (turned j i e)

    into : Breaks g h Order i j → (up i j || up j i) ≡ true
    into (inl p) = true_or (up i j) (up j i) (so i j p)
    into (inr p) = or_so (up i j) (up j i) (so j i p)

-- ---- the first of the three

abbrev pick : (Break → Bool) → Option Break
pick t = if t Edge then some Edge else (if t Mask then some Mask else (if t Order then some Order else none))

broken_is : (g h : Set) (i j : ℕ) → broken g h i j ≡ pick (λ b. test g h b i j)
unfolding broken
broken_is g h i j = refl

pick_none : (x y z : Bool) → ◌≡◌ {A = Option Break} (if x then some Edge else (if y then some Mask else (if z then some Order else none))) none → (x ≡ false) × (y ≡ false) × (z ≡ false)
pick_none true y z e = absurd (never (sym e))
pick_none false true z e = absurd (never (sym e))
pick_none false false true e = absurd (never (sym e))
pick_none false false false e = (refl, refl, refl)

pub broken_none : (g h : Set) (i j : ℕ) → broken g h i j ≡ none → (b : Break) → Breaks g h b i j → ⊥
broken_none g h i j e b w = go b ((test_is g h b i j).1 w)
  where
    all : (has_edge h i j ≡ false) × (has_mask h i j ≡ false) × (loses_order g h i j ≡ false)
    all = pick_none (has_edge h i j) (has_mask h i j) (loses_order g h i j) (sym (broken_is g h i j) ∙ e)

    go : (b : Break) → test g h b i j ≡ true → ⊥
    go Edge t = apart t all.0
    go Mask t = apart t all.1
    go Order t = apart t all.2

pub none_broken : (g h : Set) (i j : ℕ) → ((b : Break) → Breaks g h b i j → ⊥) → broken g h i j ≡ none
none_broken g h i j f =
    let p = off Edge in
    let q = off Mask in
    let r = off Order in
    broken_is g h i j ∙ rw (p, q, r) refl
  where
    off : (b : Break) → test g h b i j ≡ false
    off b = is_false (test g h b i j) (λ t. f b ((test_is g h b i j).0 t))

data Picked (x y z : Bool) : Break → Type 0 where
  first_one : x ≡ true → Picked x y z Edge
  second_one : x ≡ false → y ≡ true → Picked x y z Mask
  third_one : x ≡ false → y ≡ false → z ≡ true → Picked x y z Order

picked : (x y z : Bool) (b : Break) → ◌≡◌ {A = Option Break} (if x then some Edge else (if y then some Mask else (if z then some Order else none))) (some b) → Picked x y z b
picked true y z b e = let q : Edge ≡ b = cc in rw (← q) (first_one refl)
picked false true z b e = let q : Mask ≡ b = cc in rw (← q) (second_one refl refl)
picked false false true b e = let q : Order ≡ b = cc in rw (← q) (third_one refl refl refl)
picked false false false b e = absurd (never e)

pub broken_some : (g h : Set) (i j : ℕ) (b : Break) → broken g h i j ≡ some b → Breaks g h b i j × ((c : Break) → nth c < nth b → Breaks g h c i j → ⊥)
broken_some g h i j b e = go (picked (has_edge h i j) (has_mask h i j) (loses_order g h i j) b (sym (broken_is g h i j) ∙ e))
  where
    off : (c : Break) → test g h c i j ≡ false → Breaks g h c i j → ⊥
    off c q w = apart ((test_is g h c i j).1 w) q

    go : {b : Break} → Picked (has_edge h i j) (has_mask h i j) (loses_order g h i j) b → Breaks g h b i j × ((c : Break) → nth c < nth b → Breaks g h c i j → ⊥)
    go (first_one p) = ((test_is g h Edge i j).0 p, λ c l. absurd (omega arith))
    go (second_one p q) = ((test_is g h Mask i j).0 q, sooner)
      where
        sooner : (c : Break) → nth c < 1 → Breaks g h c i j → ⊥
        sooner Edge l = off Edge p
        sooner Mask l = absurd (omega arith)
        sooner Order l = absurd (omega arith)
    go (third_one p q r) = ((test_is g h Order i j).0 r, sooner)
      where
        sooner : (c : Break) → nth c < 2 → Breaks g h c i j → ⊥
        sooner Edge l = off Edge p
        sooner Mask l = off Mask q
        sooner Order l = absurd (omega arith)

pub some_broken : (g h : Set) (i j : ℕ) (b : Break) → Breaks g h b i j → ((c : Break) → nth c < nth b → Breaks g h c i j → ⊥) → broken g h i j ≡ some b
some_broken g h i j b w f = broken_is g h i j ∙ go b ((test_is g h b i j).1 w) (λ c l. is_false (test g h c i j) (λ t. f c l ((test_is g h c i j).0 t)))
  where
    go : (b : Break) → test g h b i j ≡ true → ((c : Break) → nth c < nth b → test g h c i j ≡ false) → pick (λ c. test g h c i j) ≡ some b
    go Edge t s = rw t refl
    go Mask t s = let p = s Edge (omega arith) in rw (p, t) refl
    go Order t s = let p = s Edge (omega arith) in let q = s Mask (omega arith) in rw (p, q, t) refl

-- ---- one pair

told_none : (i j : ℕ) (o : Option Break) → told i j o ≡ none → o ≡ none
told_none i j none e = refl
told_none i j (some b) e = absurd (never (sym e))

told_some : (i j : ℕ) (o : Option Break) (v : Judged) → told i j o ≡ some v → (b : Break) × (o ≡ some b) × (v ≡ Err (Bad b i j))
told_some i j none v e = absurd (never e)
told_some i j (some b) v e = (b, refl, (let q : v ≡ (Err (Bad b i j)) = cc in q))

pair_none : (g h : Set) (i j : ℕ) → bad_pair g h i j ≡ none → i < j → (b : Break) → Breaks g h b i j → ⊥
unfolding bad_pair
pair_none g h i j e l = let q = lt-ltb i j l in let f : told i j (broken g h i j) ≡ none = rw q at e in broken_none g h i j (told_none i j (broken g h i j) f)

none_pair : (g h : Set) (i j : ℕ) → (i < j → (b : Break) → Breaks g h b i j → ⊥) → bad_pair g h i j ≡ none
unfolding bad_pair
none_pair g h i j f = go (either (ltb i j))
  where
    go : (ltb i j ≡ true) ⊎ (ltb i j ≡ false) → (if ltb i j then told i j (broken g h i j) else none) ≡ none
    go (inl e) = let q = none_broken g h i j (f (ltb-true i j e)) in rw (e, q) refl
    go (inr e) = rw e refl

pub pair_some : (g h : Set) (i j : ℕ) (v : Judged) → bad_pair g h i j ≡ some v → (b : Break) × (v ≡ Err (Bad b i j)) × (i < j) × (broken g h i j ≡ some b)
unfolding bad_pair
pair_some g h i j v e = go (either (ltb i j))
  where
    go : (ltb i j ≡ true) ⊎ (ltb i j ≡ false) → (b : Break) × (v ≡ Err (Bad b i j)) × (i < j) × (broken g h i j ≡ some b)
    go (inl q) = let f : told i j (broken g h i j) ≡ some v = rw q at e in let w = told_some i j (broken g h i j) v f in (w.0, w.2, ltb-true i j q, w.1)
    go (inr q) = let f : none ≡ some v = rw q at e in absurd (never f)

some_pair : (g h : Set) (i j : ℕ) (b : Break) → i < j → broken g h i j ≡ some b → bad_pair g h i j ≡ some (Err (Bad b i j))
unfolding bad_pair
some_pair g h i j b l e = let q = lt-ltb i j l in rw (q, e) refl

-- ---- all pairs

pub bad_none : (g h : Set) → (first_bad g h ≡ none) ↔ ((i j : ℕ) → i < j → j < length g.kept → (b : Break) → Breaks g h b i j → ⊥)
unfolding first_bad
bad_none g h = (
  λ e i j l k. pair_none g h i j (none_of n (bad_pair g h i) (none_of n row e i (omega arith)) j k) l,
  λ f. of_none n row (λ i k. of_none n (bad_pair g h i) (λ j m. none_pair g h i j (λ l. f i j l m))),
)
  where
    n : ℕ
    n = length g.kept

    row : ℕ → Option Judged
    row i = first_of n (bad_pair g h i)

pub bad_some : (g h : Set) (v : Judged) → first_bad g h ≡ some v → (b : Break) × (i : ℕ) × (j : ℕ) × (v ≡ Err (Bad b i j)) × FirstBad g h b i j
unfolding first_bad
bad_some g h v e =
    let r = some_of n row v e in
    let c = some_of n (bad_pair g h r.0) v r.2 in
    let w = pair_some g h r.0 c.0 v c.2 in
    let z = broken_some g h r.0 c.0 w.0 w.3 in
    (w.0, r.0, c.0, w.1, record { in_order = w.2; inside = c.1; breaks = z.0; first_break = z.1; first_pair = λ x y l k o. sooner r.0 c.0 r.3 c.3 x y l k o })
  where
    n : ℕ
    n = length g.kept

    row : ℕ → Option Judged
    row i = first_of n (bad_pair g h i)

    sooner : (i j : ℕ) → ((m : ℕ) → m < i → row m ≡ none) → ((m : ℕ) → m < j → bad_pair g h i m ≡ none) → (x y : ℕ) → x < y → y < n → (x < i) ⊎ ((x ≡ i) × (y < j)) → (c : Break) → Breaks g h c x y → ⊥
    sooner i j f k x y l m (inl o) = pair_none g h x y (none_of n (bad_pair g h x) (f x o) y m) l
    sooner i j f k x y l m (inr o) = pair_none g h x y (let q = k y o.1 in ap (λ z. bad_pair g h z y) o.0 ∙ q) l

pub some_bad : (g h : Set) (b : Break) (i j : ℕ) → FirstBad g h b i j → first_bad g h ≡ some (Err (Bad b i j))
unfolding first_bad
some_bad g h b i j F =
    let l = F.in_order in
    let k = F.inside in
    of_some n row i (Err (Bad b i j)) (omega arith)
    (of_some n (bad_pair g h i) j (Err (Bad b i j)) F.inside (some_pair g h i j b F.in_order (some_broken g h i j b F.breaks F.first_break))
    (λ m o. none_pair g h i m (λ q. F.first_pair i m q (omega arith) (inr (refl, o)))))
    (λ m o. of_none n (bad_pair g h m) (λ y p. none_pair g h m y (λ q. F.first_pair m y q p (inl o))))
  where
    n : ℕ
    n = length g.kept

    row : ℕ → Option Judged
    row i = first_of n (bad_pair g h i)

-- ---- the verdict

told_first : (o : Option Judged) → ((v : Judged) → o ≡ some v → (b : Break) × (i : ℕ) × (j : ℕ) × (v ≡ Err (Bad b i j))) → or_else o (Ok tt) ≡ Ok tt → o ≡ none
told_first none f e = refl
told_first (some v) f e = let w = f v refl in let q = w.3 in let z : (Err (Bad w.0 w.1 w.2)) ≡ (Ok tt) = sym q ∙ e in let y : ◌≡◌ {A = ℕ} 0 1 = cc in absurd (omega arith)

check_right : (g : Set) (p : List ℕ) → length p ≡ length g.kept → check g p ≡ or_else (first_bad g (proposed g p)) (Ok tt)
unfolding check
check_right g p e = let q = eq-eqb (length p) (length g.kept) e in rw q refl

check_wrong : (g : Set) (p : List ℕ) → (length p ≡ length g.kept → ⊥) → check g p ≡ Err (WrongLength (length p))
unfolding check
check_wrong g p f = let q = ne_eqb (length p) (length g.kept) f in rw q refl

masks_self : (h : Set) (i : ℕ) → masks (rule h i) (rule h i) ≡ false
unfolding masks
masks_self h i = and_not (ltb (level_of h i) (level_of h i)) _ (λ e f. let q = ltb-true (level_of h i) (level_of h i) e in omega arith)
  where
    level_of : Set → ℕ → ℕ
    level_of h i = rank (rule h i).priority

zip_length : (ks : List Kept) (p : List ℕ) → length p ≡ length ks → length (map (λ x. with_priority x.0 x.1) (zip ks p)) ≡ length ks
unfolding zip
zip_length [] p e = refl
zip_length (k ∷ ks) [] e = absurd (omega arith)
zip_length (k ∷ ks) (x ∷ p) e = ap suc (zip_length ks p (omega arith))

pub proposed_length : (g : Set) (p : List ℕ) → length p ≡ length g.kept → length (proposed g p).kept ≡ length g.kept
unfolding proposed
proposed_length g p e = zip_length g.kept p e

-- no pair is broken exactly when the proposal, of the right length, passes
pub fine_passes : (g : Set) (p : List ℕ) → length p ≡ length g.kept → ((i j : ℕ) → i < j → j < length g.kept → (b : Break) → Breaks g (proposed g p) b i j → ⊥) → Passes g p
fine_passes g p e f = record {
  right_length = e;
  no_edge = λ m i j l k. is_false _ (λ t. f i j l (let n = proposed_length g p e in omega arith) Edge (m, t));
  no_mask = λ m i j l k. let n = proposed_length g p e in masks_none m i j (omega arith) (omega arith) (compared i j);
  keeps_order = λ i j l k o. order i j l k o (compared i j);
}
  where
    h : Set
    h = proposed g p

    compared : (i j : ℕ) → (i < j) ⊎ (j ≤ i)
    compared i j = go (either (ltb i j))
      where
        go : (ltb i j ≡ true) ⊎ (ltb i j ≡ false) → (i < j) ⊎ (j ≤ i)
        go (inl q) = inl (ltb-true i j q)
        go (inr q) = inr (ltb-false i j q)

    masks_none : is_multi (proposed g p).flags ≡ false → (i j : ℕ) → i < length g.kept → j < length g.kept → (i < j) ⊎ (j ≤ i) → masks (rule h i) (rule h j) ≡ false
    masks_none m i j l k (inl o) = is_false _ (λ t. f i j o k Mask (m, inl t))
    masks_none m i j l k (inr o) = go (ℕ_discrete i j)
      where
        go : Dec (i ≡ j) → masks (rule h i) (rule h j) ≡ false
        go (yes q) = rw (← q) (masks_self h i)
        go (no q) = is_false _ (λ t. f j i (omega arith) l Mask (m, inr t))

    order : (i j : ℕ) → i < length g.kept → j < length g.kept → level g i < level g j → (i < j) ⊎ (j ≤ i) → level h i < level h j
    order i j l k o (inl q) = go (either (ltb (level h i) (level h j)))
      where
        go : (ltb (level h i) (level h j) ≡ true) ⊎ (ltb (level h i) (level h j) ≡ false) → level h i < level h j
        go (inl z) = ltb-true (level h i) (level h j) z
        go (inr z) = absurd (f i j q k Order (inl (o, ltb-false (level h i) (level h j) z)))
    order i j l k o (inr q) = go (either (ltb (level h i) (level h j))) (ℕ_discrete i j)
      where
        go : (ltb (level h i) (level h j) ≡ true) ⊎ (ltb (level h i) (level h j) ≡ false) → Dec (i ≡ j) → level h i < level h j
        go (inl z) d = ltb-true (level h i) (level h j) z
        go (inr z) (yes d) = let y : level g i ≡ level g j = ap (level g) d in absurd (omega arith)
        go (inr z) (no d) = absurd (f j i (omega arith) l Order (inr (o, ltb-false (level h i) (level h j) z)))

pub passes_fine : (g : Set) (p : List ℕ) → Passes g p → (i j : ℕ) → i < j → j < length g.kept → (b : Break) → Breaks g (proposed g p) b i j → ⊥
passes_fine g p P i j l k Edge w = let n = proposed_length g p P.right_length in apart w.1 (P.no_edge w.0 i j l (omega arith))
passes_fine g p P i j l k Mask w = go w.1
  where
    n : length (proposed g p).kept ≡ length g.kept
    n = proposed_length g p P.right_length

    go : (masks (rule (proposed g p) i) (rule (proposed g p) j) ≡ true) ⊎ (masks (rule (proposed g p) j) (rule (proposed g p) i) ≡ true) → ⊥
    go (inl t) = apart t (P.no_mask w.0 i j (omega (arith, n)) (omega (arith, n)))
    go (inr t) = apart t (P.no_mask w.0 j i (omega (arith, n)) (omega (arith, n)))
passes_fine g p P i j l k Order (inl w) = let a = P.keeps_order i j (omega arith) k w.0 in let b = w.1 in omega arith
passes_fine g p P i j l k Order (inr w) = let a = P.keeps_order j i k (omega arith) w.0 in let b = w.1 in omega arith

pub check_passes : (g : Set) (p : List ℕ) → (check g p ≡ Ok tt) ↔ Passes g p
check_passes g p = (λ e. into (ℕ_discrete (length p) (length g.kept)) e, λ P. check_right g p P.right_length ∙ (let q = (bad_none g (proposed g p)).1 (passes_fine g p P) in rw q refl))
  where
    bad_is : (v : Judged) → first_bad g (proposed g p) ≡ some v → (b : Break) × (i : ℕ) × (j : ℕ) × (v ≡ Err (Bad b i j))
    bad_is v e = let w = bad_some g (proposed g p) v e in (w.0, w.1, w.2, w.3)

    into : Dec (length p ≡ length g.kept) → check g p ≡ Ok tt → Passes g p
    into (yes q) e = fine_passes g p q ((bad_none g (proposed g p)).0 (told_first (first_bad g (proposed g p)) bad_is (sym (check_right g p q) ∙ e)))
    into (no q) e = let z : (Err (WrongLength (length p))) ≡ (Ok tt) = sym (check_wrong g p q) ∙ e in let y : ◌≡◌ {A = ℕ} 0 1 = cc in absurd (omega arith)

pub check_first : (g : Set) (p : List ℕ) (b : Break) (i j : ℕ) → (check g p ≡ Err (Bad b i j)) ↔ ((length p ≡ length g.kept) × FirstBad g (proposed g p) b i j)
check_first g p b i j = (λ e. into (ℕ_discrete (length p) (length g.kept)) e, λ F. check_right g p F.0 ∙ (let q = some_bad g (proposed g p) b i j F.1 in rw q refl))
  where
    first_is : (o : Option Judged) → first_bad g (proposed g p) ≡ o → or_else o (Ok tt) ≡ Err (Bad b i j) → FirstBad g (proposed g p) b i j
    first_is none q e = let y : ◌≡◌ {A = ℕ} 0 1 = cc in absurd (omega arith)
    first_is (some v) q e =
        let w = bad_some g (proposed g p) v q in
        let z : (Err (Bad w.0 w.1 w.2)) ≡ (Err (Bad b i j)) = sym w.3 ∙ e in
        let zb : w.0 ≡ b = cc in
        let zi : w.1 ≡ i = cc in
        let zj : w.2 ≡ j = cc in
        moved w.0 w.1 w.2 zb zi zj w.4
      where
        moved : (c : Break) (x y : ℕ) → c ≡ b → x ≡ i → y ≡ j → FirstBad g (proposed g p) c x y → FirstBad g (proposed g p) b i j
        moved c x y r s t F = rw (← r, ← s, ← t) F

    into : Dec (length p ≡ length g.kept) → check g p ≡ Err (Bad b i j) → (length p ≡ length g.kept) × FirstBad g (proposed g p) b i j
    into (yes q) e = (q, first_is (first_bad g (proposed g p)) refl (sym (check_right g p q) ∙ e))
    into (no q) e = let z : (Err (WrongLength (length p))) ≡ (Err (Bad b i j)) = sym (check_wrong g p q) ∙ e in let y : ◌≡◌ {A = ℕ} 0 1 = cc in absurd (omega arith)

pub check_length : (g : Set) (p : List ℕ) (n : ℕ) → (check g p ≡ Err (WrongLength n)) ↔ ((n ≡ length p) × (length p ≡ length g.kept → ⊥))
check_length g p n = (λ e. into (ℕ_discrete (length p) (length g.kept)) e, λ w. check_wrong g p w.1 ∙ ap (λ x. Err (WrongLength x)) (sym w.0))
  where
    never_so : (o : Option Judged) → first_bad g (proposed g p) ≡ o → or_else o (Ok tt) ≡ Err (WrongLength n) → ⊥
    never_so none q e = let y : ◌≡◌ {A = ℕ} 0 1 = cc in omega arith
    never_so (some v) q e =
        let w = bad_some g (proposed g p) v q in
        let z : (Err (Bad w.0 w.1 w.2)) ≡ (Err (WrongLength n)) = sym w.3 ∙ e in
        let y : ◌≡◌ {A = ℕ} 0 1 = cc in
        omega arith

    into : Dec (length p ≡ length g.kept) → check g p ≡ Err (WrongLength n) → (n ≡ length p) × (length p ≡ length g.kept → ⊥)
    into (yes q) e = absurd (never_so (first_bad g (proposed g p)) refl (sym (check_right g p q) ∙ e))
    into (no q) e = let z : (Err (WrongLength (length p))) ≡ (Err (WrongLength n)) = sym (check_wrong g p q) ∙ e in let y : n ≡ length p = cc in (y, q)

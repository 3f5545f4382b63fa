-- Without equalities, where sites ascend and children are higher than their holders, both checks pass: no two holders are of one class, and no walk comes back down.
use mathlib.Core.Path.{◌≡◌, refl, sym, ap, ◌∙◌, subst}
use mathlib.Core.Bool.{Bool, true, false}
use mathlib.Core.Option.{Option, none, some}
use mathlib.Core.Logic.{◌⊎◌, inl, inr}
use mathlib.Core.List.{List, [], ◌∷◌, ◌++◌, map, Memᴰ}
use Prim.Native.Nat.{ℕ, zero, suc, ◌+◌, ◌/◌, ◌≤◌, ◌<◌}
use native.Mathlib.Omega.{arith}
use native.Mathlib.Decide.{ℕ_discrete}
use lib.ListN.{length, get_or}
use lib.Dec.{eqb}
use borrow.Author.Tests.{eqb-true, ne_eqb}
use Rattle.paper.specs.Words.{look, below, first, pairs, Edges, Walk, one, more}
use Rattle.paper.specs.Numbers.{max_sites, done}
use Rattle.paper.specs.Loading.{Holder, Labels, lowest, join_all, alike, turn, pass, same_classes, close, closure_of, first_holder, differs, conflict, steps, endless}
use Rattle.paper.proofs.Closure.{in_pairs, of_below}
use Rattle.rule_words.proofs.PackLaws.{same_refl}
use Rattle.rule_rows.specs.Holding.{Held, held, kid_count, kid_in, site_of, count_of, kid_of, holder_in, holders_to, how_many, holders_in, eqs_in, class_check}
use Rattle.rule_rows.proofs.Holders.{of_holders}
use Rattle.rule_check.proofs.Answering.{of_joined, endless_none}

-- ---- the law, of any list of holders

pub record Rising (hs : List Holder) : Type 0 where
  pub ascend : (p : Holder × Holder) → Memᴰ p (pairs hs) → p.0.site < p.1.site
  pub higher : (h : Holder) → Memᴰ h hs → (n : ℕ) → Memᴰ n h.kids → h.site < n

idle : (p : Holder × Holder) → p.0.site < p.1.site → turn [] p ≡ []
unfolding turn alike lowest look
idle p l = rw (ne_eqb p.0.site p.1.site (λ e. omega arith))

pass_none : (ps : List (Holder × Holder)) → ((p : Holder × Holder) → Memᴰ p ps → p.0.site < p.1.site) → pass [] ps ≡ []
unfolding pass
pass_none [] h = refl
pass_none (p ∷ ps) h = ap (λ k. pass k ps) (idle p (h p (mathlib.Core.List.Memᴰ.head refl))) ∙ pass_none ps (λ q m. h q (mathlib.Core.List.Memᴰ.tail m))

still : (n : ℕ) (hs : List Holder) (next : Labels) → next ≡ [] → ◌≡◌ {A = Labels} (elim (same_classes next []) as (λ _. Labels) [ true ↦ [] | false ↦ close n hs next ]) []
unfolding same_classes
still n hs next e = rw (e, same_classes)

closure_none : (n : ℕ) (hs : List Holder) → Rising hs → closure_of n [] hs ≡ []
unfolding closure_of close join_all
closure_none n hs R = still n hs (pass [] (pairs hs)) (pass_none (pairs hs) R.ascend)

-- one site, one holder
same_holder : (hs : List Holder) → Rising hs → (g h : Holder) → Memᴰ g hs → Memᴰ h hs → g.site ≡ h.site → g ≡ h
same_holder hs R g h a b e = go (in_pairs hs g h a b)
  where
    go : (g ≡ h) ⊎ (Memᴰ (g, h) (pairs hs) ⊎ Memᴰ (h, g) (pairs hs)) → g ≡ h
    go (inl q) = q
    go (inr (inl m)) = let l = R.ascend (g, h) m in absurd (omega arith)
    go (inr (inr m)) = let l = R.ascend (h, g) m in absurd (omega arith)

first_in : {A : Type 0} (P : A → Bool) (xs : List A) (a : A) → first P xs ≡ some a → Memᴰ a xs × (P a ≡ true)
unfolding first
first_in P [] a e = let z : ◌≡◌ {A = ℕ} 0 1 = cc in absurd (omega arith)
first_in {A} P (x ∷ xs) a e = go (P x) refl (λ q. first_in P xs a q) e
  where
    go : (t : Bool) → P x ≡ t → (first P xs ≡ some a → Memᴰ a xs × (P a ≡ true)) → elim t as (λ _. Option A) [ true ↦ some x | false ↦ first P xs ] ≡ some a → Memᴰ a (x ∷ xs) × (P a ≡ true)
    go true p h q = let s : a ≡ x = cc in (mathlib.Core.List.Memᴰ.head s, ap P s ∙ p)
    go false p h q = let w = h q in (mathlib.Core.List.Memᴰ.tail w.0, w.1)

none_in : {A : Type 0} (P : A → Bool) (xs : List A) → ((x : A) → Memᴰ x xs → P x ≡ false) → first P xs ≡ none
unfolding first
none_in P [] h = refl
none_in P (x ∷ xs) h = rw (h x (mathlib.Core.List.Memᴰ.head refl), first) (none_in P xs (λ y m. h y (mathlib.Core.List.Memᴰ.tail m)))

none_differs : (hs : List Holder) → Rising hs → (h : Holder) → Memᴰ h hs → differs h (first_holder [] hs (lowest [] h.site)) ≡ false
unfolding first_holder lowest look
none_differs hs R h m = go (first (λ g. eqb g.site h.site) hs) refl
  where
    go : (o : Option Holder) → first (λ g. eqb g.site h.site) hs ≡ o → differs h o ≡ false
    go none e = refl
    go (some g) e =
        let w = first_in (λ (x : Holder). eqb x.site h.site) hs g e in
        let s = same_holder hs R g h w.0 m (eqb-true g.site h.site w.1) in
        rw (s, same_refl h.shape)

conflict_none : (hs : List Holder) → Rising hs → conflict [] hs ≡ none
unfolding conflict
conflict_none hs R = none_in (λ h. differs h (first_holder [] hs (lowest [] h.site))) hs (none_differs hs R)

step_up : (hs : List Holder) → Rising hs → (a b : ℕ) → Memᴰ (a, b) (steps [] hs) → a < b
unfolding steps lowest look
step_up hs R a b m = go (of_joined (map (λ (x : Holder). map (λ c. (x.site, c)) x.kids) hs) (a, b) m)
  where
    at : (h : Holder) → Memᴰ h hs → (c : ℕ) × Memᴰ c h.kids × ◌≡◌ {A = ℕ × ℕ} (h.site, c) (a, b) → a < b
    at h l (c, k, e) =
        let l' = R.higher h l c k in
        let ea : h.site ≡ a = ap (λ (p : ℕ × ℕ). p.0) e in
        let eb : c ≡ b = ap (λ (p : ℕ × ℕ). p.1) e in
        omega arith

    of : (xs : List (ℕ × ℕ)) → Memᴰ (a, b) xs → (h : Holder) × Memᴰ h hs × (map (λ c. (h.site, c)) h.kids ≡ xs) → a < b
    of xs q (h, l, e) = at h l (mathlib.Core.List.Memᴰ.of_map (λ c. (h.site, c)) h.kids (rw (← e) at q))

    go : (xs : List (ℕ × ℕ)) × Memᴰ xs (map (λ (x : Holder). map (λ c. (x.site, c)) x.kids) hs) × Memᴰ (a, b) xs → a < b
    go (xs, l, q) = of xs q (mathlib.Core.List.Memᴰ.of_map (λ (x : Holder). map (λ c. (x.site, c)) x.kids) hs l)

walk_up : (es : Edges) → ((a b : ℕ) → Memᴰ (a, b) es → a < b) → {a b : ℕ} → Walk es a b → a < b
walk_up es h (one m) = h _ _ m
walk_up es h (more m w) = let i = h _ _ m in let j = walk_up es h w in omega arith

none_endless : (hs : List Holder) → Rising hs → endless (steps [] hs) ≡ none
none_endless hs R = endless_none (steps [] hs) (λ a w. let l = walk_up (steps [] hs) (step_up hs R) w in omega arith)

pub climbing : (hs : List Holder) → Rising hs → class_check [] hs ≡ done tt
unfolding class_check
climbing hs R = rw (closure_none max_sites hs R, conflict_none hs R, none_endless hs R)

-- ---- of the lent lists

snoc_pairs : {A : Type 0} (xs : List A) (y : A) (p : A × A) → Memᴰ p (pairs (xs ++ (y ∷ []))) → Memᴰ p (pairs xs) ⊎ (Memᴰ p.0 xs × (p.1 ≡ y))
unfolding pairs
snoc_pairs [] y p m = elim m [ ]
snoc_pairs {A} (x ∷ xs) y p m = go (λ q. snoc_pairs xs y p q) (mathlib.Core.List.Memᴰ.append_cases (map (λ z. (x, z)) (xs ++ (y ∷ []))) m)
  where
    last : (z : A) → ◌≡◌ {A = A × A} (x, z) p → Memᴰ z xs ⊎ Memᴰ z (y ∷ []) → Memᴰ p (map (λ z. (x, z)) xs ++ pairs xs) ⊎ (Memᴰ p.0 (x ∷ xs) × (p.1 ≡ y))
    last z e (inl q) = let t : Memᴰ p (map (λ z. (x, z)) xs) = subst (λ (u : A × A). Memᴰ u (map (λ z. (x, z)) xs)) e (mathlib.Core.List.Memᴰ.map (λ z. (x, z)) q) in inl (mathlib.Core.List.Memᴰ.append_left (pairs xs) t)
    last z e (inr q) = inr (mathlib.Core.List.Memᴰ.head (ap (λ (u : A × A). u.0) (sym e)), ap (λ (u : A × A). u.1) (sym e) ∙ mathlib.Core.List.Memᴰ.eq_of_singleton q)

    go : (Memᴰ p (pairs (xs ++ (y ∷ []))) → Memᴰ p (pairs xs) ⊎ (Memᴰ p.0 xs × (p.1 ≡ y))) → Memᴰ p (map (λ z. (x, z)) (xs ++ (y ∷ []))) ⊎ Memᴰ p (pairs (xs ++ (y ∷ [])))
        → Memᴰ p (map (λ z. (x, z)) xs ++ pairs xs) ⊎ (Memᴰ p.0 (x ∷ xs) × (p.1 ≡ y))
    go r (inl q) = let w = mathlib.Core.List.Memᴰ.of_map (λ z. (x, z)) (xs ++ (y ∷ [])) q in last w.0 w.2 (mathlib.Core.List.Memᴰ.append_cases xs w.1)
    go r (inr q) = on (r q)
      where
        on : Memᴰ p (pairs xs) ⊎ (Memᴰ p.0 xs × (p.1 ≡ y)) → Memᴰ p (map (λ z. (x, z)) xs ++ pairs xs) ⊎ (Memᴰ p.0 (x ∷ xs) × (p.1 ≡ y))
        on (inl k) = inl (mathlib.Core.List.Memᴰ.append_right (map (λ z. (x, z)) xs) k)
        on (inr k) = inr (mathlib.Core.List.Memᴰ.tail k.0, k.1)

-- a pair of the first n is of a lower and a higher place
ascend_below : (f : ℕ → Holder) (n : ℕ) → ((i j : ℕ) → i < j → j < n → (f i).site < (f j).site) → (p : Holder × Holder) → Memᴰ p (pairs (below n f)) → p.0.site < p.1.site
unfolding below pairs
ascend_below f zero h p m = elim m [ ]
ascend_below f (suc n) h p m = go (λ q. ascend_below f n (λ i j a b. h i j a (omega arith)) p q) (snoc_pairs (below n f) (f n) p m)
  where
    at : (i : ℕ) × (i < n) × (p.0 ≡ f i) → p.1 ≡ f n → p.0.site < p.1.site
    at (i, l, e) e' = rw (e, e') (h i n l (omega arith))

    go : (Memᴰ p (pairs (below n f)) → p.0.site < p.1.site) → Memᴰ p (pairs (below n f)) ⊎ (Memᴰ p.0 (below n f) × (p.1 ≡ f n)) → p.0.site < p.1.site
    go r (inl q) = r q
    go r (inr q) = at (of_below n f p.0 q.0) q.1

-- the first m
pub record Climbs (H : Held) (m : ℕ) : Type 0 where
  pub ascend : (g h : ℕ) → g < h → h < m → site_of H g < site_of H h
  pub higher : (h f : ℕ) → h < m → f < count_of H h → site_of H h < kid_of H h f

pub rising : (H : Held) (m : ℕ) → Climbs H m → Rising (holders_to H m)
unfolding holders_to
rising H m C = record {
  ascend = ascend_below (holder_in H) m C.ascend;
  higher = λ h l n k. kids h n k (of_holders H m h l);
}
  where
    kid : (h n : ℕ) → h < m → (f : ℕ) × (f < count_of H h) × (n ≡ kid_of H h f) → site_of H h < n
    kid h n l (f, i, e) = rw e (C.higher h f l i)

    kids : (x : Holder) (n : ℕ) → Memᴰ n x.kids → (h : ℕ) × (h < m) × (x ≡ holder_in H h) → x.site < n
    kids x n k (h, l, e) =
        let k' : Memᴰ n (below (count_of H h) (kid_of H h)) = subst (λ (y : Holder). Memᴰ n y.kids) e k in
        rw e (kid h n l (of_below (count_of H h) (kid_of H h) n k'))

-- fewer than two numbers are no equality
no_eqs : (eqs : List ℕ) → length eqs < 2 → eqs_in eqs ≡ []
unfolding eqs_in below
no_eqs eqs l = let e : length eqs / 2 ≡ 0 = omega arith in rw e

fewer : (H : Held) (m n : ℕ) → n ≤ m → Climbs H m → Climbs H n
fewer H m n l C = record { ascend = λ g h a b. C.ascend g h a (omega arith); higher = λ h f a. C.higher h f (omega arith) }

-- ---- the loops

-- the first h of m climb, and their sites are below next
pub record ClimbsTo (H : Held) (m next h : ℕ) : Type 0 where
  pub within : h ≤ m
  pub climb : Climbs H h
  pub past : (g : ℕ) → g < h → site_of H g < next

pub climbs_none : (H : Held) (m : ℕ) → ClimbsTo H m 0 0
climbs_none H m = record {
  within = omega arith;
  climb = record { ascend = λ g h a b. absurd (omega arith); higher = λ h f a. absurd (omega arith) };
  past = λ g a. absurd (omega arith);
}

-- one holder more; w and v are its site, widened
pub climbs_step : (sites rows words kids : List ℕ) (m next h s w i v : ℕ) (t : Bool) → ClimbsTo (held sites rows words kids) m next h → h < m → s ≡ get_or sites h 0 → w ≡ s → next ≤ w → i ≡ get_or rows h 0
    → (t ≡ true → (f : ℕ) → f < kid_count words i → s < kid_in kids i f) → t ≡ true → v ≡ s → ClimbsTo (held sites rows words kids) m (v + 1) (h + 1)
climbs_step sites rows words kids m next h s w i v t T hm es ew l ei K et ev = record {
  within = omega arith;
  climb = record { ascend = λ f g a b. up f g (ℕ_discrete g h) a b; higher = λ g f a b. kid g f (ℕ_discrete g h) a b };
  past = λ g a. under g (ℕ_discrete g h) a;
}
  where
    H : Held
    H = held sites rows words kids

    here : (f : ℕ) → f < count_of H h → s < kid_of H h f
    here = rw ei at (K et)

    up : (f g : ℕ) → Dec (g ≡ h) → f < g → g < h + 1 → get_or sites f 0 < get_or sites g 0
    up f g (yes e) a b = let u = T.past f (omega arith) in rw (e, ← es) (omega arith)
    up f g (no d) a b = T.climb.ascend f g a (omega arith)

    kid : (g f : ℕ) → Dec (g ≡ h) → g < h + 1 → f < count_of H g → get_or sites g 0 < kid_of H g f
    kid g f (yes e) a b = let b' : f < count_of H h = rw e at b in rw (e, ← es) (here f b')
    kid g f (no d) a b = T.climb.higher g f (omega arith) b

    under : (g : ℕ) → Dec (g ≡ h) → g < h + 1 → get_or sites g 0 < v + 1
    under g (yes e) a = rw (e, ← es) (omega arith)
    under g (no d) a = let u = T.past g (omega arith) in omega arith

pub climbs_done : (eqs : List ℕ) (H : Held) (next h : ℕ) → length eqs < 2 → ClimbsTo H (length H.sites) next h → length H.sites ≤ h → class_check (eqs_in eqs) (holders_in H) ≡ done tt
climbs_done eqs H next h l T g = rw (no_eqs eqs l) (climbing (holders_in H) (rising H (how_many H) (fewer H h (how_many H) (omega arith) T.climb)))

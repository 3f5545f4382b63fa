-- Laws of tables whose numbers ascend: what keeps them so, and what is found in them. Then of labels: a class is joined, or dissolved, and the
-- labels stay as they must be (`Fine`).
use mathlib.Core.Path.{◌≡◌, refl, sym, ap, ◌∙◌}
use mathlib.Core.Bool.{Bool, true, false, not}
use mathlib.Core.Option.{Option, none, some}
use mathlib.Core.List.Memᴰ
use mathlib.Core.List.{List, [], ◌∷◌, map, Memᴰ}
use Prim.Native.Nat.{ℕ, suc, ◌≤◌, min, max, compare, Ordering}
use native.Mathlib.Omega.{arith}
use native.Mathlib.Decide.{ℕ_discrete}
use lib.Dec.{eqb, compare_is_eq, is_le}
use borrow.Author.Tests.{eqb-true, eqb-false, eq-eqb, ne_eqb, leb-true, leb-false, not-true}
use Rattle.std.specs.Prelude.{if◌then◌else◌}
use Rattle.paper.specs.Words.{keep, Table, look, put}
use Rattle.paper.specs.Loading.{Labels, lowest, relabel, join, join_all, members, dissolve}
use Rattle.paper.proofs.Labels.{Sound, never, look_here, look_past, put_there, join_sound, none_sound}

-- ---- lists

pub of_keep : {A : Type 0} (f : A → Bool) (l : List A) (x : A) → Memᴰ x (keep f l) → Memᴰ x l × (f x ≡ true)
unfolding keep
of_keep f [] x m = elim m [ ]
of_keep {A} f (y ∷ l) x m = go (f y) refl (λ q. of_keep f l x q) m
  where
    go : (b : Bool) → f y ≡ b → (Memᴰ x (keep f l) → Memᴰ x l × (f x ≡ true)) → Memᴰ x (elim b as (λ _. List A) [ true ↦ y ∷ keep f l | false ↦ keep f l ]) → Memᴰ x (y ∷ l) × (f x ≡ true)
    go true e h (Memᴰ.head q) = (Memᴰ.head q, ap f q ∙ e)
    go true e h (Memᴰ.tail q) = let r = h q in (Memᴰ.tail r.0, r.1)
    go false e h q = let r = h q in (Memᴰ.tail r.0, r.1)

pub in_keep : {A : Type 0} (f : A → Bool) (l : List A) (x : A) → Memᴰ x l → f x ≡ true → Memᴰ x (keep f l)
unfolding keep
in_keep {A = A} f [] x x4 e = elim x4 [ ]
in_keep f (y ∷ l) x (Memᴰ.head q) e = rw (ap f (sym q) ∙ e, keep) (Memᴰ.head q)
in_keep {A} f (y ∷ l) x (Memᴰ.tail q) e = go (f y) (in_keep f l x q e)
  where
    go : (b : Bool) → Memᴰ x (keep f l) → Memᴰ x (elim b as (λ _. List A) [ true ↦ y ∷ keep f l | false ↦ keep f l ])
    go true h = Memᴰ.tail h
    go false h = h

-- ---- ascending tables

-- every number is n or more, and each higher than the one before
abbrev pub Rising : {A : Type 0} → ℕ → Table A → Type 0
Rising n [] = Unit {0}
Rising n (p ∷ t) = (n ≤ p.0) × Rising (suc p.0) t

pub rising_less : {A : Type 0} (m n : ℕ) (t : Table A) → m ≤ n → Rising n t → Rising m t
rising_less m n [] h r = tt
rising_less m n (p ∷ t) h r = (let l = r.0 in omega arith, r.1)

pub put_rising : {A : Type 0} (n m : ℕ) (a : A) (t : Table A) → n ≤ m → Rising n t → Rising n (put m a t)
unfolding put
put_rising n m a [] h r = (h, tt)
put_rising {A} n m a ((k, b) ∷ t) h r = go (compare m k) refl (λ l. put_rising (suc k) m a t l r.1)
  where
    go : (o : Ordering) → compare m k ≡ o → (suc k ≤ m → Rising (suc k) (put m a t)) → Rising n (put m a ((k, b) ∷ t))
    go Ordering.lt e f = let p = leb-true m k (ap is_le e) in let q = eqb-false m k (ap compare_is_eq e) in rw (e, put) (h, (omega arith, r.1))
    go Ordering.eq e f = let q = eqb-true m k (ap compare_is_eq e) in rw (e, put) (h, rising_less (suc m) (suc k) t (omega arith) r.1)
    go Ordering.gt e f = let p = leb-false m k (ap is_le e) in rw (e, put) (r.0, f (omega arith))

pub keep_rising : {A : Type 0} (f : ℕ × A → Bool) (n : ℕ) (t : Table A) → Rising n t → Rising n (keep f t)
unfolding keep
keep_rising f n [] r = tt
keep_rising {A} f n (p ∷ t) r = go (f p) (keep_rising f (suc p.0) t r.1)
  where
    go : (b : Bool) → Rising (suc p.0) (keep f t) → Rising {A = A} n (elim b as (λ _. Table A) [ true ↦ p ∷ keep f t | false ↦ keep f t ])
    go true h = (r.0, h)
    go false h = let l = r.0 in rising_less n (suc p.0) (keep f t) (omega arith) h

relabel_rising : (h l n : ℕ) (k : Labels) → Rising n k → Rising n (map (relabel h l) k)
unfolding relabel
relabel_rising h l n [] r = tt
relabel_rising h l n (p ∷ k) r = (r.0, relabel_rising h l (suc p.0) k r.1)

-- what is found is there; in an ascending table what is there is found
pub look_in : {A : Type 0} (t : Table A) (n : ℕ) (a : A) → look t n ≡ some a → Memᴰ (n, a) t
unfolding look
look_in [] n a e = absurd (never e)
look_in {A} ((m, b) ∷ t) n a e = go (eqb m n) refl (λ q. look_in t n a q) e
  where
    go : (s : Bool) → eqb m n ≡ s → (look t n ≡ some a → Memᴰ (n, a) t) → elim s as (λ _. Option A) [ true ↦ some b | false ↦ look t n ] ≡ some a → Memᴰ {A = ℕ × A} (n, a) ((m, b) ∷ t)
    go true p f q = let x = eqb-true m n p in let y : b ≡ a = cc in let z : ◌≡◌ {A = ℕ × A} (n, a) (m, b) = rw (x, y) refl in Memᴰ.head z
    go false p f q = Memᴰ.tail (f q)

pub above : {A : Type 0} (n : ℕ) (t : Table A) (p : ℕ × A) → Rising n t → Memᴰ p t → n ≤ p.0
above {A = A} n [] p r x'' = elim x'' [ ]
above n (q ∷ t) p r (Memᴰ.head e) = let z = ap (λ x. x.0) e in let h = r.0 in omega arith
above n (q ∷ t) p r (Memᴰ.tail m) = let z = above (suc q.0) t p r.1 m in let h = r.0 in omega arith

pub in_look : {A : Type 0} (n : ℕ) (t : Table A) (p : ℕ × A) → Rising n t → Memᴰ p t → look t p.0 ≡ some p.1
in_look {A = A} n [] p r x'' = elim x'' [ ]
in_look n (q ∷ t) p r (Memᴰ.head e) = rw e (look_here q.0 q.1 t)
in_look n (q ∷ t) p r (Memᴰ.tail m) = let z = above (suc q.0) t p r.1 m in look_past q.0 p.0 q.1 t (λ e. omega arith) ∙ in_look (suc q.0) t p r.1 m

pub kept_look : {A : Type 0} (f : ℕ × A → Bool) (t : Table A) (n : ℕ) (a : A) → Rising 0 t → look (keep f t) n ≡ some a → (look t n ≡ some a) × (f (n, a) ≡ true)
kept_look f t n a r e = let m = of_keep f t (n, a) (look_in (keep f t) n a e) in (in_look 0 t (n, a) r m.0, m.1)

pub look_kept : {A : Type 0} (f : ℕ × A → Bool) (t : Table A) (n : ℕ) (a : A) → Rising 0 t → look t n ≡ some a → f (n, a) ≡ true → look (keep f t) n ≡ some a
look_kept f t n a r e h = in_look 0 (keep f t) (n, a) (keep_rising f 0 t r) (in_keep f t (n, a) (look_in t n a e) h)

-- ---- labels

-- sound labels, the joined sites ascending, each of them such as P says
pub record Fine (P : ℕ → Type 0) (k : Labels) : Type 0 where
  pub sound : Sound k
  pub rising : Rising 0 k
  pub within : (n v : ℕ) → look k n ≡ some v → P n

pub fine_more : {P Q : ℕ → Type 0} (k : Labels) → ((n : ℕ) → P n → Q n) → Fine P k → Fine Q k
fine_more k h F = record { sound = F.sound; rising = F.rising; within = λ n v e. h n (F.within n v e) }

pub none_fine : {P : ℕ → Type 0} → Fine P []
unfolding look
none_fine = record { sound = none_sound; rising = tt; within = λ n v e. absurd (never e) }

pub lowest_is : (k : Labels) (n v : ℕ) → look k n ≡ some v → lowest k n ≡ v
unfolding lowest
lowest_is k n v e = rw e

pub lowest_own : (k : Labels) (n : ℕ) → look k n ≡ none → lowest k n ≡ n
unfolding lowest
lowest_own k n e = rw e

-- the lowest member of a class is a member
pub own_label : (k : Labels) → Sound k → (n v : ℕ) → look k n ≡ some v → look k v ≡ some v
own_label k S n v e = go (look k v) refl
  where
    go : (o : Option ℕ) → look k v ≡ o → look k v ≡ some v
    go none f = let q = S.lone v n f (lowest_is k n v e) in let z : look k v ≡ some v = rw q at e in absurd (never (sym f ∙ z))
    go (some w) f = let p = lowest_is k n v e in let q = lowest_is k v w f in let i = S.function.idem n in f ∙ ap some (sym q ∙ (ap (lowest k) (sym p) ∙ (i ∙ p)))

relabel_look : (h l : ℕ) (k : Labels) (n v : ℕ) → look (map (relabel h l) k) n ≡ some v → (w : ℕ) × (look k n ≡ some w)
unfolding look relabel
relabel_look h l [] n v e = absurd (never e)
relabel_look h l ((m, x) ∷ k) n v e = go (eqb m n) (λ q. relabel_look h l k n v q) e
  where
    go : (b : Bool) → (look (map (relabel h l) k) n ≡ some v → (w : ℕ) × (look k n ≡ some w)) → elim b as (λ _. Option ℕ) [ true ↦ some (if eqb x h then l else x) | false ↦ look (map (relabel h l) k) n ] ≡ some v →
        (w : ℕ) × (elim b as (λ _. Option ℕ) [ true ↦ some x | false ↦ look k n ] ≡ some w)
    go true f q = (x, refl)
    go false f q = f q

put_within : {P : ℕ → Type 0} (m a : ℕ) (k : Labels) → P m → ((n v : ℕ) → look k n ≡ some v → P n) → (n v : ℕ) → look (put m a k) n ≡ some v → P n
put_within {P} m a k p h n v e = go (ℕ_discrete m n)
  where
    go : Dec (m ≡ n) → P n
    go (yes q) = rw (← q) p
    go (no q) = h n v (sym (put_there m n a k q) ∙ e)

-- the two ends of a join
data Join (k : Labels) (a b : ℕ) : Labels → Type 0 where
  one_class : Join k a b k
  two_classes : (high low : ℕ) → Join k a b (map (relabel high low) (put a (lowest k a) (put b (lowest k b) k)))

join_ends : (k : Labels) (a b : ℕ) → Join k a b (join k a b)
unfolding join
join_ends k a b = go (eqb (lowest k a) (lowest k b))
  where
    go : (t : Bool) → Join k a b (if t then k else map (relabel (max (lowest k a) (lowest k b)) (min (lowest k a) (lowest k b))) (put a (lowest k a) (put b (lowest k b) k)))
    go true = one_class
    go false = two_classes (max (lowest k a) (lowest k b)) (min (lowest k a) (lowest k b))

pub join_fine : {P : ℕ → Type 0} (k : Labels) (a b : ℕ) → P a → P b → Fine P k → Fine P (join k a b)
join_fine {P} k a b p q F = record { sound = join_sound k a b F.sound; rising = rises (join_ends k a b); within = stays (join_ends k a b) }
  where
    rises : {j : Labels} → Join k a b j → Rising 0 j
    rises one_class = F.rising
    rises (two_classes h l) = relabel_rising h l 0 (put a (lowest k a) (put b (lowest k b) k)) (put_rising 0 a (lowest k a) (put b (lowest k b) k) (omega arith) (put_rising 0 b (lowest k b) k (omega arith) F.rising))

    stays : {j : Labels} → Join k a b j → (n v : ℕ) → look j n ≡ some v → P n
    stays one_class n v e = F.within n v e
    stays (two_classes h l) n v e =
        let r = relabel_look h l (put a (lowest k a) (put b (lowest k b) k)) n v e in
        put_within a (lowest k a) (put b (lowest k b) k) p (put_within b (lowest k b) k q F.within) n r.0 r.1

pub join_all_fine : {P : ℕ → Type 0} (k : Labels) (ps : List (ℕ × ℕ)) → ((p : ℕ × ℕ) → Memᴰ p ps → P p.0 × P p.1) → Fine P k → Fine P (join_all k ps)
unfolding join_all
join_all_fine k [] h F = F
join_all_fine k (p ∷ ps) h F = let w = h p (Memᴰ.head refl) in join_all_fine (join k p.0 p.1) ps (λ q m. h q (Memᴰ.tail m)) (join_fine k p.0 p.1 w.0 w.1 F)

-- the members of a class are the sites with its label
pub of_members : (k : Labels) (low n : ℕ) → Rising 0 k → Memᴰ n (members k low) → look k n ≡ some low
unfolding members
of_members k low n r m =
    let x = Memᴰ.of_map (λ (p : ℕ × ℕ). p.0) (keep (λ p. eqb p.1 low) k) m in
    let y = of_keep (λ (p : ℕ × ℕ). eqb p.1 low) k x.0 x.1 in
    let z = in_look 0 k x.0 r y.0 in
    rw (← x.2) (z ∙ ap some (eqb-true x.0.1 low y.1))

pub in_members : (k : Labels) (low n : ℕ) → look k n ≡ some low → Memᴰ n (members k low)
unfolding members
in_members k low n e = Memᴰ.map (λ (p : ℕ × ℕ). p.0) (in_keep (λ (p : ℕ × ℕ). eqb p.1 low) k (n, low) (look_in k n low e) (eq-eqb low low refl))

-- dissolving takes out exactly them
pub dissolved : (k : Labels) (low n v : ℕ) → Rising 0 k → look (dissolve k low) n ≡ some v → (look k n ≡ some v) × (v ≡ low → ⊥)
unfolding dissolve
dissolved k low n v r e = let x = kept_look (λ (p : ℕ × ℕ). not (eqb p.1 low)) k n v r e in (x.0, eqb-false v low (not-true (eqb v low) x.1))

pub undissolved : (k : Labels) (low n v : ℕ) → Rising 0 k → look k n ≡ some v → (v ≡ low → ⊥) → look (dissolve k low) n ≡ some v
unfolding dissolve
undissolved k low n v r e d = look_kept (λ (p : ℕ × ℕ). not (eqb p.1 low)) k n v r e (ap not (ne_eqb v low d))

pub dissolve_sound : (k : Labels) (low : ℕ) → Rising 0 k → Sound k → Sound (dissolve k low)
dissolve_sound k low r S = record {
  function = record { idem = λ n. idem n (look (dissolve k low) n) refl; low = λ n. least n (look (dissolve k low) n) refl };
  lone = λ n m e h. lone n m e h (look (dissolve k low) m) refl;
}
  where
    -- a label that is left is its own
    own : (n v : ℕ) → look (dissolve k low) n ≡ some v → look (dissolve k low) v ≡ some v
    own n v e = let x = dissolved k low n v r e in undissolved k low v v r (own_label k S n v x.0) x.1

    idem : (n : ℕ) (o : Option ℕ) → look (dissolve k low) n ≡ o → lowest (dissolve k low) (lowest (dissolve k low) n) ≡ lowest (dissolve k low) n
    idem n none e = ap (lowest (dissolve k low)) (lowest_own (dissolve k low) n e)
    idem n (some v) e = let p = lowest_is (dissolve k low) n v e in rw p (lowest_is (dissolve k low) v v (own n v e))

    least : (n : ℕ) (o : Option ℕ) → look (dissolve k low) n ≡ o → lowest (dissolve k low) n ≤ n
    least n none e = let q = lowest_own (dissolve k low) n e in omega arith
    least n (some v) e = let p = lowest_is (dissolve k low) n v e in let x = lowest_is k n v (dissolved k low n v r e).0 in let h = S.function.low n in omega arith

    lone : (n m : ℕ) → look (dissolve k low) n ≡ none → lowest (dissolve k low) m ≡ n → (o : Option ℕ) → look (dissolve k low) m ≡ o → m ≡ n
    lone n m e h none f = sym (lowest_own (dissolve k low) m f) ∙ h
    lone n m e h (some v) f = let q : v ≡ n = sym (lowest_is (dissolve k low) m v f) ∙ h in let z : look (dissolve k low) n ≡ some v = rw (← q) (own m v f) in absurd (never (sym e ∙ z))

-- what is left is such as P says if each site of another class was
pub dissolve_fine : {P Q : ℕ → Type 0} (k : Labels) (low : ℕ) → Fine Q k → ((n v : ℕ) → look k n ≡ some v → (v ≡ low → ⊥) → P n) → Fine P (dissolve k low)
unfolding dissolve
dissolve_fine k low F h = record {
  sound = dissolve_sound k low F.rising F.sound;
  rising = keep_rising (λ (p : ℕ × ℕ). not (eqb p.1 low)) 0 k F.rising;
  within = λ n v e. let x = dissolved k low n v F.rising e in h n v x.0 x.1;
}

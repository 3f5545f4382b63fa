-- Lists that a loop makes: `below`, `keep`, `joined`; and the list of terms in an array.
use mathlib.Core.Path.{◌≡◌, refl, sym, ◌∙◌, ap}
use mathlib.Core.Bool.{Bool, true, false}
use mathlib.Core.Logic.{◌↔◌, ◌⊎◌, inl, inr}
use mathlib.Core.List.Memᴰ
use mathlib.Core.List.{List, [], ◌∷◌, ◌++◌, map, append-nil, append_assoc, Memᴰ}
use Prim.Native.Nat.{ℕ, zero, suc, ◌+◌, ◌-◌, ◌≤◌, ◌<◌}
use native.Mathlib.Omega.{arith}
use native.Mathlib.Numerals.{add-one}
use native.Mathlib.Decide.{ℕ_discrete}
use lib.ListN.{length, set, replicate, length-append}
use lib.Seq.{set_at}
use Rattle.paper.specs.Words.{keep, below, joined}
use Rattle.term_table.specs.declared.Listed.{Listed}
use Rattle.term_table.specs.Table.{terms, listed}

-- ---- keep

pub keep_in : {A : Type 0} (p : A → Bool) (a : A) (xs : List A) → p a ≡ true → keep p (a ∷ xs) ≡ a ∷ keep p xs
unfolding keep
keep_in p a xs h = rw (h, keep)

pub keep_out : {A : Type 0} (p : A → Bool) (a : A) (xs : List A) → p a ≡ false → keep p (a ∷ xs) ≡ keep p xs
unfolding keep
keep_out p a xs h = rw (h, keep)

pub keep_nil : {A : Type 0} (p : A → Bool) → keep p [] ≡ []
unfolding keep
keep_nil p = refl

pub keep_append : {A : Type 0} (p : A → Bool) (xs ys : List A) → keep p (xs ++ ys) ≡ keep p xs ++ keep p ys
unfolding keep
keep_append p [] ys = refl
keep_append p (x ∷ xs) ys = go (p x) refl (keep_append p xs ys)
  where
    go : (b : Bool) → p x ≡ b → keep p (xs ++ ys) ≡ keep p xs ++ keep p ys → keep p (x ∷ (xs ++ ys)) ≡ keep p (x ∷ xs) ++ keep p ys
    go true e h = keep_in p x (xs ++ ys) e ∙ ap (λ (l : List _). x ∷ l) h ∙ sym (ap (λ (l : List _). l ++ keep p ys) (keep_in p x xs e))
    go false e h = keep_out p x (xs ++ ys) e ∙ h ∙ sym (ap (λ (l : List _). l ++ keep p ys) (keep_out p x xs e))

pub mem_keep : {A : Type 0} (p : A → Bool) (x : A) (xs : List A) → Memᴰ x (keep p xs) ↔ (Memᴰ x xs × (p x ≡ true))
mem_keep p x xs = (of xs, λ h. to xs h.0 h.1)
  where
    of : (xs : List _) → Memᴰ x (keep p xs) → Memᴰ x xs × (p x ≡ true)
    of [] m = absurd (Memᴰ.not-nil (rw (keep_nil p) at m))
    of (y ∷ ys) m = go (p y) refl (of ys)
      where
        go : (b : Bool) → p y ≡ b → (Memᴰ x (keep p ys) → Memᴰ x ys × (p x ≡ true)) → Memᴰ x (y ∷ ys) × (p x ≡ true)
        go true e r = pick (Memᴰ.cases_cons (rw (keep_in p y ys e) at m))
          where
            pick : (x ≡ y) ⊎ Memᴰ x (keep p ys) → Memᴰ x (y ∷ ys) × (p x ≡ true)
            pick (inl q) = (Memᴰ.head q, ap p q ∙ e)
            pick (inr q) = (Memᴰ.tail (r q).0, (r q).1)
        go false e r = let q = r (rw (keep_out p y ys e) at m) in (Memᴰ.tail q.0, q.1)

    to : (xs : List _) → Memᴰ x xs → p x ≡ true → Memᴰ x (keep p xs)
    to [] x3 h = elim x3 [ ]
    to (y ∷ ys) (Memᴰ.head q) h = rw (keep_in p y ys (ap p (sym q) ∙ h)) (Memᴰ.head q)
    to (y ∷ ys) (Memᴰ.tail m) h = go (p y) refl (to ys m h)
      where
        go : (b : Bool) → p y ≡ b → Memᴰ x (keep p ys) → Memᴰ x (keep p (y ∷ ys))
        go true e r = rw (keep_in p y ys e) (Memᴰ.tail r)
        go false e r = rw (keep_out p y ys e) r

pub keep_same : {A : Type 0} (p q : A → Bool) (xs : List A) → ((x : A) → Memᴰ x xs → p x ≡ q x) → keep p xs ≡ keep q xs
unfolding keep
keep_same p q [] h = refl
keep_same p q (x ∷ xs) h = go (q x) refl (keep_same p q xs (λ y m. h y (Memᴰ.tail m)))
  where
    go : (b : Bool) → q x ≡ b → keep p xs ≡ keep q xs → keep p (x ∷ xs) ≡ keep q (x ∷ xs)
    go true e r = keep_in p x xs (h x (Memᴰ.head refl) ∙ e) ∙ ap (λ (l : List _). x ∷ l) r ∙ sym (keep_in q x xs e)
    go false e r = keep_out p x xs (h x (Memᴰ.head refl) ∙ e) ∙ r ∙ sym (keep_out q x xs e)

-- ---- below

pub in_below : {A : Type 0} (n : ℕ) (f : ℕ → A) (a : ℕ) → a < n → Memᴰ (f a) (below n f)
unfolding below
in_below zero f a h = absurd (omega arith)
in_below (suc n) f a h = go (ℕ_discrete a n) (in_below n f a)
  where
    go : Dec (a ≡ n) → (a < n → Memᴰ (f a) (below n f)) → Memᴰ (f a) (below n f ++ (f n ∷ []))
    go (yes e) r = Memᴰ.append_right (below n f) (Memᴰ.head (ap f e))
    go (no d) r = Memᴰ.append_left (f n ∷ []) (r (omega arith))

pub data Below {A : Type 0} (n : ℕ) (f : ℕ → A) (x : A) : Type 0 where
  at : (a : ℕ) → a < n → x ≡ f a → Below n f x

pub of_below : {A : Type 0} (n : ℕ) (f : ℕ → A) (x : A) → Memᴰ x (below n f) → Below n f x
unfolding below
of_below zero f x m = absurd (Memᴰ.not-nil m)
of_below (suc n) f x m = go (Memᴰ.append_cases (below n f) m) (of_below n f x)
  where
    more : Below n f x → Below (suc n) f x
    more (at a h e) = at a (omega arith) e

    go : Memᴰ x (below n f) ⊎ Memᴰ x (f n ∷ []) → (Memᴰ x (below n f) → Below n f x) → Below (suc n) f x
    go (inl q) r = more (r q)
    go (inr q) r = at n (omega arith) (Memᴰ.eq_of_singleton q)

pub mem_numbers : (n a : ℕ) → Memᴰ a (below n (λ b. b)) ↔ (a < n)
mem_numbers n a = (λ m. go (of_below n (λ b. b) a m), λ h. in_below n (λ b. b) a h)
  where
    go : Below n (λ b. b) a → a < n
    go (at b h e) = omega arith

-- ---- joined

pub in_joined : {A : Type 0} (x : A) (l : List A) (ls : List (List A)) → Memᴰ l ls → Memᴰ x l → Memᴰ x (joined ls)
unfolding joined
in_joined {A = A} x l [] x3 m = elim x3 [ ]
in_joined x l (k ∷ ls) (Memᴰ.head e) m = Memᴰ.append_left (joined ls) (rw e at m)
in_joined x l (k ∷ ls) (Memᴰ.tail n) m = Memᴰ.append_right k (in_joined x l ls n m)

pub data Within {A : Type 0} (x : A) (ls : List (List A)) : Type 0 where
  of_list : (l : List A) → Memᴰ l ls → Memᴰ x l → Within x ls

pub of_joined : {A : Type 0} (x : A) (ls : List (List A)) → Memᴰ x (joined ls) → Within x ls
unfolding joined
of_joined x [] m = absurd (Memᴰ.not-nil m)
of_joined x (k ∷ ls) m = go (Memᴰ.append_cases k m) (of_joined x ls)
  where
    more : Within x ls → Within x (k ∷ ls)
    more (of_list l n q) = of_list l (Memᴰ.tail n) q

    go : Memᴰ x k ⊎ Memᴰ x (joined ls) → (Memᴰ x (joined ls) → Within x ls) → Within x (k ∷ ls)
    go (inl q) r = of_list k (Memᴰ.head refl) q
    go (inr q) r = more (r q)

-- ---- map

pub in_map : {A B : Type 0} (f : A → B) (x : A) (xs : List A) → Memᴰ x xs → Memᴰ (f x) (map f xs)
in_map {A = A} {B = B} f x [] x'' = elim x'' [ ]
in_map f x (y ∷ ys) (Memᴰ.head e) = Memᴰ.head (ap f e)
in_map f x (y ∷ ys) (Memᴰ.tail m) = Memᴰ.tail (in_map f x ys m)

pub data Mapped {A B : Type 0} (f : A → B) (xs : List A) (y : B) : Type 0 where
  mapped : (x : A) → Memᴰ x xs → y ≡ f x → Mapped f xs y

pub of_map : {A B : Type 0} (f : A → B) (xs : List A) (y : B) → Memᴰ y (map f xs) → Mapped f xs y
of_map f [] y m = absurd (Memᴰ.not-nil m)
of_map f (x ∷ xs) y (Memᴰ.head e) = mapped x (Memᴰ.head refl) e
of_map f (x ∷ xs) y (Memᴰ.tail m) = more (of_map f xs y m)
  where
    more : Mapped f xs y → Mapped f (x ∷ xs) y
    more (mapped z n e) = mapped z (Memᴰ.tail n) e

-- ---- a list of terms, grown in an array

abbrev kept : (ℕ → Bool) → ℕ → List ℕ
kept p i = keep p (below i (λ a. a))

pub record Listing (p : ℕ → Bool) (i n : ℕ) (found : List ℕ) : Type 0 where
  pub low : n ≤ i
  pub count : n ≡ length (kept p i)
  pub holds : found ≡ kept p i ++ replicate (terms - n) 0

kept_suc : (p : ℕ → Bool) (i : ℕ) → kept p (i + 1) ≡ kept p i ++ keep p (i ∷ [])
unfolding below
kept_suc p i = rw add-one (keep_append p (below i (λ a. a)) (i ∷ []))

pub listing_none : (p : ℕ → Bool) → Listing p 0 0 (replicate terms 0)
unfolding keep below
listing_none p = record { low = omega arith; count = refl; holds = refl }

module _ (p : ℕ → Bool) (i n : ℕ) (found : List ℕ) (I : Listing p i n found) (h : i < terms) where
  step_out : p i ≡ false → Listing p (i + 1) n found
  step_out e =
      let k : kept p (i + 1) ≡ kept p i = kept_suc p i ∙ ap (λ (l : List ℕ). kept p i ++ l) (keep_out p i [] e ∙ keep_nil p) ∙ append-nil (kept p i) in
      let l = I.low in
      record {
        low = omega arith;
        count = I.count ∙ ap length (sym k);
        holds = I.holds ∙ ap (λ (l : List ℕ). l ++ replicate (terms - n) 0) (sym k);
      }

  step_in : p i ≡ true → Listing p (i + 1) (n + 1) (set found n i)
  step_in e =
      let k : kept p (i + 1) ≡ kept p i ++ (i ∷ []) =
      kept_suc p i ∙ ap (λ (l : List ℕ). kept p i ++ l) (keep_in p i [] e ∙ ap (λ (l : List ℕ). i ∷ l) (keep_nil p)) in
      let l = I.low in
      let m : terms - n ≡ suc (terms - (n + 1)) = omega arith in
      let r : replicate {A = ℕ} (terms - n) 0 ≡ 0 ∷ replicate (terms - (n + 1)) 0 = ap (λ (v : ℕ). replicate {A = ℕ} v 0) m in
      let g : found ≡ kept p i ++ 0 ∷ replicate (terms - (n + 1)) 0 = I.holds ∙ ap (λ (l : List ℕ). kept p i ++ l) r in
      let c : length (kept p (i + 1)) ≡ n + 1 = ap length k ∙ length-append (kept p i) (i ∷ []) ∙ ap (λ (v : ℕ). v + 1) (sym I.count) in
      record {
        low = omega arith;
        count = sym c;
        holds =
            ap (λ (l : List ℕ). set l n i) g ∙ set_at (kept p i) 0 (replicate (terms - (n + 1)) 0) i n (sym I.count)
            ∙ sym (append_assoc (kept p i) (i ∷ []) (replicate (terms - (n + 1)) 0))
            ∙ ap (λ (l : List ℕ). l ++ replicate (terms - (n + 1)) 0) (sym k);
      }

  -- one turn of the loop, by the two ways through its branch
  pub listing_turn : {x : Bool} {n' : ℕ} {found' : List ℕ} → x ≡ p i
      → ((x ≡ true) × (found' ≡ set found n i) × (n' ≡ n + 1)) ⊎ ((x ≡ false) × (found' ≡ found) × (n' ≡ n)) → Listing p (i + 1) n' found'
  listing_turn q (inl w) = rw (w.1, w.2) (step_in (sym q ∙ w.0))
  listing_turn q (inr w) = rw (w.1, w.2) (step_out (sym q ∙ w.0))

pub listing_done : (p : ℕ → Bool) (i n : ℕ) (found : List ℕ) → i ≡ terms → Listing p i n found → ◌≡◌ {A = Listed} (record { count = n; terms = found }) (listed (keep p (below terms (λ a. a))))
unfolding listed
listing_done p i n found h I = let J : Listing p terms n found = rw h at I in go n J.count J.holds
  where
    go : (n : ℕ) → n ≡ length (kept p terms) → found ≡ kept p terms ++ replicate (terms - n) 0 → ◌≡◌ {A = Listed} (record { count = n; terms = found }) (record { count = length (kept p terms); terms = kept p terms ++ replicate (terms - length (kept p terms)) 0 })
    go n e f = rw (f, e) refl

-- What the lists show after a site was put, and what is found in them.
use mathlib.Core.Path.{◌≡◌, refl, sym, ◌∙◌, ap}
use mathlib.Core.Bool.{Bool, true, false}
use mathlib.Core.Option.{Option, none, some}
use mathlib.Core.Logic.{◌⊎◌, inl, inr}
use mathlib.Core.List.{List, [], ◌∷◌, ◌++◌, map, map-append, Memᴰ}
use Prim.Native.Nat.{ℕ, zero, suc, ◌+◌, ◌≤◌, ◌<◌, compare, Ordering}
use native.Mathlib.Omega.{arith}
use lib.ListN.{length, get_or}
use lib.Dec.{eqb}
use Rattle.paper.specs.Words.{Table, below, look, put}
use Rattle.paper.proofs.Tables.{look_in}
use Rattle.paper.proofs.Closure.{of_below, in_below}
use Rattle.sites.specs.Slots.{length_below}
use Rattle.rule_rows.specs.Holding.{shape_in}
use Rattle.rule_lists.specs.Entries.{entries, Puts}
use Rattle.rule_hanging.specs.Seen.{shown}

-- ---- tables

abbrev pub given : {A B : Type 0} → (A → B) → ℕ × A → ℕ × B
given g p = (p.0, g p.1)

put_map : {A B : Type 0} (g : A → B) (s : ℕ) (a : A) (t : Table A) → map (given g) (put s a t) ≡ put s (g a) (map (given g) t)
unfolding put
put_map g s a [] = refl
put_map {A} {B} g s a (p ∷ t) = go (compare s p.0) refl (put_map g s a t)
  where
    go : (o : Ordering) → compare s p.0 ≡ o → map (given g) (put s a t) ≡ put s (g a) (map (given g) t) → map (given g) (put s a (p ∷ t)) ≡ put s (g a) (given g p ∷ map (given g) t)
    go Ordering.lt e h = rw (e, put)
    go Ordering.eq e h = rw (e, put)
    go Ordering.gt e h = rw (e, put) (ap (λ u. given g p ∷ u) h)

abbrev pub with : {A B : Type 0} → (A → B) → Option A → Option B
with g none = none
with g (some a) = some (g a)

look_map : {A B : Type 0} (g : A → B) (t : Table A) (s : ℕ) → look (map (given g) t) s ≡ with g (look t s)
unfolding look
look_map g [] s = refl
look_map g (p ∷ t) s = go (eqb p.0 s) refl (look_map g t s)
  where
    go : (b : Bool) → eqb p.0 s ≡ b → look (map (given g) t) s ≡ with g (look t s) → look (given g p ∷ map (given g) t) s ≡ with g (look (p ∷ t) s)
    go true e h = rw (e, look)
    go false e h = rw (e, look) h

map_below : {A B : Type 0} (g : A → B) (n : ℕ) (f : ℕ → A) → map g (below n f) ≡ below n (λ i. g (f i))
unfolding below
map_below g zero f = refl
map_below g (suc n) f = map-append g (below n f) (f n ∷ []) ∙ ap (λ l. l ++ (g (f n) ∷ [])) (map_below g n f)

put_cases : {A : Type 0} (s : ℕ) (a : A) (t : Table A) (p : ℕ × A) → Memᴰ p (put s a t) → (p ≡ (s, a)) ⊎ Memᴰ p t
unfolding put
put_cases {A = A} s a [] p (mathlib.Core.List.Memᴰ.tail x5) = elim x5 [ ]
put_cases s a [] p (Memᴰ.head q) = inl q
put_cases {A} s a (k ∷ t) p m = go (compare s k.0) refl (put_cases s a t p) m
  where
    go : (o : Ordering) → compare s k.0 ≡ o → (Memᴰ p (put s a t) → (p ≡ (s, a)) ⊎ Memᴰ p t) → Memᴰ p (elim o as (λ _. Table A) [ Ordering.lt ↦ (s, a) ∷ k ∷ t | Ordering.eq ↦ (s, a) ∷ t | Ordering.gt ↦ k ∷ put s a t ]) → (p ≡ (s, a)) ⊎ Memᴰ p (k ∷ t)
    go Ordering.lt e h (Memᴰ.head q) = inl q
    go Ordering.lt e h (Memᴰ.tail q) = inr q
    go Ordering.eq e h (Memᴰ.head q) = inl q
    go Ordering.eq e h (Memᴰ.tail q) = inr (Memᴰ.tail q)
    go Ordering.gt e h (Memᴰ.head q) = inr (Memᴰ.head q)
    go Ordering.gt e h (Memᴰ.tail q) = next (h q)
      where
        next : (p ≡ (s, a)) ⊎ Memᴰ p t → (p ≡ (s, a)) ⊎ Memᴰ p (k ∷ t)
        next (inl q) = inl q
        next (inr q) = inr (Memᴰ.tail q)

put_long : {A : Type 0} (s : ℕ) (a : A) (t : Table A) → length (put s a t) ≤ suc (length t)
unfolding put
put_long s a [] = omega arith
put_long s a (k ∷ t) = go (compare s k.0) refl (put_long s a t)
  where
    go : (o : Ordering) → compare s k.0 ≡ o → length (put s a t) ≤ suc (length t) → length (put s a (k ∷ t)) ≤ suc (length (k ∷ t))
    go Ordering.lt e h = rw (e, put) (omega arith)
    go Ordering.eq e h = rw (e, put) (omega arith)
    go Ordering.gt e h = rw (e, put) (omega arith)

-- ---- the lists

shown_is : (sites rows words : List ℕ) (held : ℕ) → shown sites rows words held ≡ map (given (shape_in words)) (entries sites rows held)
unfolding shown entries
shown_is sites rows words held = sym (map_below (given (shape_in words)) held (λ i. (get_or sites i 0, get_or rows i 0)))

pub put_shown : (sites rows words : List ℕ) (held s row : ℕ) (sites' rows' : List ℕ) (r : ℕ) → Puts sites rows held s row sites' rows' r → shown sites' rows' words r ≡ put s (shape_in words row) (shown sites rows words held)
put_shown sites rows words held s row sites' rows' r P =
    shown_is sites' rows' words r ∙ ap (map (given (shape_in words))) P.table ∙ put_map (shape_in words) s row (entries sites rows held) ∙ ap (put s (shape_in words row)) (sym (shown_is sites rows words held))

pub look_shown : (sites rows words : List ℕ) (held s : ℕ) → look (shown sites rows words held) s ≡ with (shape_in words) (look (entries sites rows held) s)
look_shown sites rows words held s = ap (λ t. look t s) (shown_is sites rows words held) ∙ look_map (shape_in words) (entries sites rows held) s

-- a site that is found stands somewhere
pub record StandsAt (sites rows : List ℕ) (held s row : ℕ) : Type 0 where
  pub at : ℕ
  pub among : at < held
  pub site : get_or sites at 0 ≡ s
  pub its_row : get_or rows at 0 ≡ row

pub entry_at : (sites rows : List ℕ) (held : ℕ) (p : ℕ × ℕ) → Memᴰ p (entries sites rows held) → StandsAt sites rows held p.0 p.1
unfolding entries
entry_at sites rows held p m = let q = of_below held (λ i. (get_or sites i 0, get_or rows i 0)) p m in record { at = q.0; among = q.1; site = sym (ap (λ x. x.0) q.2); its_row = sym (ap (λ x. x.1) q.2) }

pub found_stands : (sites rows : List ℕ) (held s row : ℕ) → look (entries sites rows held) s ≡ some row → StandsAt sites rows held s row
found_stands sites rows held s row e = entry_at sites rows held (s, row) (look_in (entries sites rows held) s row e)

-- an entry after a put: the new one, or one from before
pub puts_entry : (sites rows : List ℕ) (held s row : ℕ) (sites' rows' : List ℕ) (r : ℕ) → Puts sites rows held s row sites' rows' r → (k : ℕ) → k < r → ((get_or sites' k 0 ≡ s) × (get_or rows' k 0 ≡ row)) ⊎ StandsAt sites rows held (get_or sites' k 0) (get_or rows' k 0)
unfolding entries
puts_entry sites rows held s row sites' rows' r P k h = go (put_cases s row (entries sites rows held) (get_or sites' k 0, get_or rows' k 0) (rw (← P.table) (in_below r (λ i. (get_or sites' i 0, get_or rows' i 0)) k h)))
  where
    go : (◌≡◌ {A = ℕ × ℕ} (get_or sites' k 0, get_or rows' k 0) (s, row)) ⊎ Memᴰ (get_or sites' k 0, get_or rows' k 0) (entries sites rows held) → ((get_or sites' k 0 ≡ s) × (get_or rows' k 0 ≡ row)) ⊎ StandsAt sites rows held (get_or sites' k 0) (get_or rows' k 0)
    go (inl q) = inl (ap (λ x. x.0) q, ap (λ x. x.1) q)
    go (inr q) = inr (entry_at sites rows held (get_or sites' k 0, get_or rows' k 0) q)

entries_long : (sites rows : List ℕ) (held : ℕ) → length (entries sites rows held) ≡ held
unfolding entries
entries_long sites rows held = length_below held (λ i. (get_or sites i 0, get_or rows i 0))

pub puts_few : (sites rows : List ℕ) (held s row : ℕ) (sites' rows' : List ℕ) (r : ℕ) → Puts sites rows held s row sites' rows' r → r ≤ held + 1
puts_few sites rows held s row sites' rows' r P = let a = P.number in let b = put_long s row (entries sites rows held) in let d = entries_long sites rows held in omega arith

-- Slots: what stands in one, and what a search and a store make of them.
use mathlib.Core.Path.{◌≡◌, refl, sym, ap, ◌∙◌}
use mathlib.Core.Bool.{Bool, true, false}
use mathlib.Core.Option.{none, some}
use mathlib.Core.List.{List, [], ◌∷◌, ◌++◌, append_assoc, append-nil}
use mathlib.Core.Logic.{⊎_elim}
use Prim.Native.Nat.{ℕ, zero, suc, ◌+◌, ◌-◌, ◌*◌, ◌≤◌, ◌<◌}
use native.Mathlib.Nat.{eq-or-lt_of_le}
use native.Mathlib.Omega.{arith}
use lib.ListN.{length, get_or, take, drop}
use Rattle.paper.specs.Words.{below}
use Rattle.paper.specs.Sites.{Site, Sites, body, number_of, same_site}
use Rattle.paper.proofs.Laws.{same_site_true, same_site_refl, number_here, number_there, number_front, number_on}
use Rattle.site_slots.specs.Seeking.{Held, Finds}
use Rattle.site_body.specs.Body.{is_body, site_of}
use Rattle.site_body.proofs.Back.{Bytes}
use Rattle.sites.specs.Slots.{slot, slot_body, site_in, sites_in, Findable, length_below}
use Rattle.sites.proofs.Held.{slot_is, slot_bytes, held, held_body}
use Rattle.site_body.proofs.Bodies.{laid_in, site_none}

-- ---- what stands in a slot
pub slot_part : (m : List ℕ) (i n at : ℕ) → at ≡ i * slot → at + slot ≤ length m → n ≡ get_or m at 0 → n < slot → take (at + 1 + n - (at + 1)) (drop (at + 1) m) ≡ slot_body m i
slot_part m i n at p h e l =
    let k : at + 1 + n - (at + 1) ≡ n = omega arith in
    rw (k, p) (sym (slot_is m i n (omega arith) (e ∙ ap (λ j. get_or m j 0) p) l))

-- ---- searching
pub same_site_false : (a b : Site) → (a ≡ b → ⊥) → same_site a b ≡ false
same_site_false a b f = go (same_site a b) refl
  where
    go : (t : Bool) → same_site a b ≡ t → t ≡ false
    go true e = absurd (f (same_site_true a b e))
    go false e = refl

-- one site after others
pub number_last : (t : Sites) (x s : Site) → number_of t s ≡ none → same_site x s ≡ true → number_of (t ++ (x ∷ [])) s ≡ some (length t)
number_last t x s e q =
    let w : number_of (x ∷ []) s ≡ some 0 = number_here x [] s q in
    let k : length t + 0 ≡ length t = omega arith in
    number_on t (x ∷ []) s e ∙ rw (w, k)

pub number_still : (t : Sites) (x s : Site) → number_of t s ≡ none → same_site x s ≡ false → number_of (t ++ (x ∷ [])) s ≡ none
unfolding number_of
number_still t x s e q =
    let w : number_of (x ∷ []) s ≡ none = number_there x [] s q in
    number_on t (x ∷ []) s e ∙ rw w

pub sites_length : (m : List ℕ) (n : ℕ) → length (sites_in m n) ≡ n
unfolding sites_in
sites_length m n = length_below n (site_in m)

pub below_same : {A : Type 0} (n : ℕ) (f g : ℕ → A) → ((i : ℕ) → i < n → f i ≡ g i) → below n f ≡ below n g
unfolding below
below_same zero f g h = refl
below_same (suc n) f g h = let x = below_same n f g (λ i l. h i (omega arith)) in let y = h n (omega arith) in rw (x, y)

-- the first i of n
pub below_split : {A : Type 0} (i n : ℕ) (f : ℕ → A) → i ≤ n → (r : List A) × (below n f ≡ below i f ++ r)
unfolding below
below_split i zero f h = let e : i ≡ 0 = omega arith in ([], rw e)
below_split i (suc n) f h =
    ⊎_elim (λ (e : i ≡ suc n). ([], rw e (sym (append-nil (below n f ++ (f n ∷ []))))))
    (λ (l : i < suc n). let r = below_split i n f (omega arith) in (r.0 ++ (f n ∷ []), ap (λ k. k ++ (f n ∷ [])) r.1 ∙ append_assoc (below i f) r.0 (f n ∷ [])))
    (eq-or-lt_of_le h)

module _ (m b : List ℕ) (fm : Bytes m) (fb : Bytes b) (g : Findable b) where
  abbrev s : Site
  s = site_of b

  -- a slot holds the body exactly where it holds the site
  slot_same : (i : ℕ) → Held m i b → same_site (site_in m i) s ≡ true
  unfolding site_in
  slot_same i h = rw (held_body m i b h) (same_site_refl s)

  slot_other : (i : ℕ) → (Held m i b → ⊥) → same_site (site_in m i) s ≡ false
  unfolding site_in
  slot_other i f = same_site_false (site_of (slot_body m i)) s (λ q. go (is_body (slot_body m i)) refl q)
    where
      go : (t : Bool) → is_body (slot_body m i) ≡ t → site_of (slot_body m i) ≡ s → ⊥
      go false w q = g.real (sym q ∙ site_none (slot_body m i) w)
      go true w q =
          let x = (laid_in (slot_body m i) (slot_bytes m i fm) w).is in
          let y = laid_in b fb g.shape in
          f (held m i b (sym x ∙ ap body q ∙ y.is) y.some)

  none_among : (n : ℕ) → ((i : ℕ) → i < n → Held m i b → ⊥) → number_of (sites_in m n) s ≡ none
  unfolding sites_in below number_of
  none_among zero f = refl
  none_among (suc n) f = number_still (below n (site_in m)) (site_in m n) s (none_among n (λ i l. f i (omega arith))) (slot_other n (f n (omega arith)))

  module _ (n r : ℕ) (F : Finds m n b r) where
    pub find_here : r < n → number_of (sites_in m n) s ≡ some r
    unfolding sites_in below
    find_here l =
        let d = below_split (suc r) n (site_in m) l in
        let w = number_last (below r (site_in m)) (site_in m r) s (none_among r F.none) (slot_same r (F.is l)) in
        rw d.1 (number_front (below (suc r) (site_in m)) d.0 s r (w ∙ ap some (length_below r (site_in m))))

    pub find_none : n ≤ r → number_of (sites_in m n) s ≡ none
    find_none l = none_among n (λ i h. F.none i (omega arith))

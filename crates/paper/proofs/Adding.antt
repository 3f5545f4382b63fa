-- What adding a site does to a table: the table stays sound (`add_sound`, `add_all_sound`), what was there stays where it was
-- (`add_extends`, `add_all_extends`), and the site is there afterwards (`add_has`, `add_all_has`).
use mathlib.Core.Path.{◌≡◌, refl, sym, ap, ◌∙◌}
use mathlib.Core.Bool.{Bool, true, false, not}
use mathlib.Core.Option.{Option, none, some}
use mathlib.Core.Logic.{◌⊎◌, inl, inr}
use mathlib.Core.List.{List, [], ◌∷◌, ◌++◌, Memᴰ}
use Prim.Native.Nat.{ℕ, zero, suc, ◌≤◌, ◌<◌}
use native.Mathlib.Nat.{not-suc-le-zero}
use native.Mathlib.Omega.{arith}
use lib.ListN.{length, get_elem?, length-append}
use lib.Dec.{ltb, leb}
use borrow.Author.Tests.{ltb-true, leb-true}
use Rattle.paper.specs.Words.{or_else, first}
use Rattle.paper.specs.Numbers.{max_sites, max_sources, max_term, done, demand}
use Rattle.paper.specs.declared.Constraint.{Constraint}
use Rattle.paper.specs.declared.Refusal.TheVariants.{TooManySites, TooManySources, TermTooHigh}
use Rattle.paper.specs.Sites.{Site, Sites, sources, term_of, same_site, body, child, site_at, known, number_of, child_number, missing_source, term_fits, Added, or_next, add, add_all, Sound, Extends}
use Rattle.paper.proofs.Laws.{same_site_true, same_list_refl}
use Rattle.paper.proofs.Labels.{never}
use Rattle.paper.proofs.Outcomes.{not_refused, done_once, bind_done, demand_done}

abbrev pub Has : Sites → Site → Type 0
Has t s = (n : ℕ) × (get_elem? t n ≡ some s)

-- ---- places of a list

pub get_inside : (t : Sites) (n : ℕ) (s : Site) → get_elem? t n ≡ some s → n < length t
get_inside [] n s e = absurd (never e)
get_inside (x ∷ t) zero s e = omega arith
get_inside (x ∷ t) (suc n) s e = let h = get_inside t n s e in omega arith

pub inside_has : (t : Sites) (n : ℕ) → n < length t → get_elem? t n ≡ some (site_at t n)
unfolding site_at
inside_has [] n h = absurd (not-suc-le-zero h)
inside_has (x ∷ t) zero h = refl
inside_has (x ∷ t) (suc n) h = inside_has t n (omega arith)

pub has_site_at : (t : Sites) (n : ℕ) (s : Site) → get_elem? t n ≡ some s → site_at t n ≡ s
has_site_at t n s e = let f = inside_has t n (get_inside t n s e) in cc

get_append : (t u : Sites) (n : ℕ) (s : Site) → get_elem? t n ≡ some s → get_elem? (t ++ u) n ≡ some s
get_append [] u n s e = absurd (never e)
get_append (x ∷ t) u zero s e = e
get_append (x ∷ t) u (suc n) s e = get_append t u n s e

get_last : (t : Sites) (s : Site) → get_elem? (t ++ (s ∷ [])) (length t) ≡ some s
get_last [] s = refl
get_last (x ∷ t) s = get_last t s

get_snoc : (t : Sites) (s u : Site) (n : ℕ) → get_elem? (t ++ (s ∷ [])) n ≡ some u → (get_elem? t n ≡ some u) ⊎ ((n ≡ length t) × (s ≡ u))
get_snoc [] s u zero e = inr (refl, cc)
get_snoc [] s u (suc n) e = absurd (never e)
get_snoc (x ∷ t) s u zero e = inl e
get_snoc (x ∷ t) s u (suc n) e = go (get_snoc t s u n e)
  where
    go : (get_elem? t n ≡ some u) ⊎ ((n ≡ length t) × (s ≡ u)) → (get_elem? t n ≡ some u) ⊎ ((suc n ≡ suc (length t)) × (s ≡ u))
    go (inl q) = inl q
    go (inr q) = inr (ap suc q.0, q.1)

pub extends_length : (t u : Sites) → Extends t u → length t ≤ length u
extends_length t u x = go (length t) refl
  where
    go : (k : ℕ) → length t ≡ k → length t ≤ length u
    go zero e = omega arith
    go (suc k) e = let h = get_inside u k (site_at t k) (x k (site_at t k) (inside_has t k (omega arith))) in omega arith

pub extends_site_at : (t u : Sites) → Extends t u → (n : ℕ) → n < length t → site_at u n ≡ site_at t n
extends_site_at t u x n h = has_site_at u n (site_at t n) (x n (site_at t n) (inside_has t n h))

-- ---- the number of a site

pub data Numbered (t : Sites) (s : Site) : Option ℕ → Type 0 where
  here : {n : ℕ} → get_elem? t n ≡ some s → Numbered t s (some n)
  nowhere : ((n : ℕ) → get_elem? t n ≡ some s → ⊥) → Numbered t s none

same_site_refl : (s : Site) → same_site s s ≡ true
unfolding same_site
same_site_refl s = same_list_refl (body s)

pub numbered : (t : Sites) (s : Site) → Numbered t s (number_of t s)
unfolding number_of
numbered [] s = nowhere (λ n e. never e)
numbered (x ∷ t) s = go (same_site x s) refl (number_of t s) (numbered t s)
  where
    apart : same_site x s ≡ false → x ≡ s → ⊥
    apart e q = let z : same_site x s ≡ true = rw q (same_site_refl s) in let y : ◌≡◌ {A = ℕ} 0 1 = cc in omega arith

    go : (b : Bool) → same_site x s ≡ b → (o : Option ℕ) → Numbered t s o → Numbered (x ∷ t) s (elim b as (λ _. Option ℕ) [ true ↦ some 0 | false ↦ elim o as (λ _. Option ℕ) [ none ↦ none | some n ↦ some (suc n) ] ])
    go true e o q = here (ap some (same_site_true x s e))
    go false e none (nowhere h) = nowhere (λ n. elim n as (λ k. get_elem? (x ∷ t) k ≡ some s → ⊥) [ zero ↦ λ q. apart e (let r : x ≡ s = cc in r) | suc m ↦ λ q. h m q ])
    go false e (some n) (here q) = here q

-- a child that is there has its number
pub child_there : (t : Sites) (m : ℕ) (c : Constraint) (i : ℕ) → Has t (child m c i) → get_elem? t (child_number t m c i) ≡ some (child m c i)
unfolding child_number
child_there t m c i h = go (numbered t (child m c i))
  where
    go : {o : Option ℕ} → Numbered t (child m c i) o → get_elem? t (or_else o 0) ≡ some (child m c i)
    go (here e) = e
    go (nowhere f) = absurd (f h.0 h.1)

-- ---- adding one

-- "one already present gives its number, else it gets the next"
pub data Placed (t : Sites) (s : Site) : Sites → ℕ → Type 0 where
  present : {n : ℕ} → get_elem? t n ≡ some s → Placed t s t n
  next : length t < max_sites → ((n : ℕ) → get_elem? t n ≡ some s → ⊥) → Placed t s (t ++ (s ∷ [])) (length t)

-- what an addition that is not refused has found of the site, and how it ends
pub record Adds (t : Sites) (s : Site) (a : Added) : Type 0 where
  pub lower : (m : ℕ) → Memᴰ m (sources s) → m < length t
  pub few : length (sources s) ≤ max_sources
  pub term : (e : ℕ) → term_of s ≡ some e → e ≤ max_term
  pub how : Placed t s a.sites a.number

all_known : (t : Sites) (l : List ℕ) (u : Unit {0}) → missing_source (first (λ n. not (known t n)) l) ≡ done u → (m : ℕ) → Memᴰ m l → m < length t
unfolding first known
all_known t [] u e m q = elim q [ ]
all_known t (x ∷ l) u e m q = go (ltb x (length t)) refl (λ f r. all_known t l u f m r) e q
  where
    go : (b : Bool) → ltb x (length t) ≡ b → (missing_source (first (λ n. not (known t n)) l) ≡ done u → Memᴰ m l → m < length t) →
        missing_source (elim (not b) as (λ _. Option ℕ) [ true ↦ some x | false ↦ first (λ n. not (known t n)) l ]) ≡ done u → Memᴰ m (x ∷ l) → m < length t
    go true p f e (Memᴰ.head r) = let h = ltb-true x (length t) p in omega arith
    go true p f e (Memᴰ.tail r) = f e r
    go false p f e r = absurd (not_refused e)

term_small : (o : Option ℕ) (u : Unit {0}) → term_fits o ≡ done u → (e : ℕ) → o ≡ some e → e ≤ max_term
term_small none u d e q = absurd (never q)
term_small (some t) u d e q = go (leb t max_term) refl d
  where
    go : (b : Bool) → leb t max_term ≡ b → demand b (TermTooHigh t) ≡ done u → e ≤ max_term
    go true p d = let h = leb-true t max_term p in let z : t ≡ e = cc in omega arith
    go false p d = absurd (not_refused d)

pub add_done : (t : Sites) (at : ℕ) (s : Site) (a : Added) → add t at s ≡ done a → Adds t s a
unfolding add
add_done t at s a e =
    let x = bind_done (missing_source (first (λ n. not (known t n)) (sources s))) _ a e in
    let y = demand_done (leb (length (sources s)) max_sources) (TooManySources (length (sources s)) at) _ a x.2 in
    let z = bind_done (term_fits (term_of s)) _ a y.1 in
    record {
      lower = all_known t (sources s) x.0 x.1;
      few = leb-true (length (sources s)) max_sources y.0;
      term = term_small (term_of s) z.0 z.1;
      how = ends (number_of t s) (numbered t s) z.2;
    }
  where
    ends : (o : Option ℕ) → Numbered t s o → or_next t at s o ≡ done a → Placed t s a.sites a.number
    ends (some n) (here q) d = let w = done_once d in rw (← w) (present q)
    ends none (nowhere h) d =
        let y = demand_done (ltb (length t) max_sites) (TooManySites (suc (length t)) at) _ a d in
        let w = done_once y.1 in
        rw (← w) (next (ltb-true (length t) max_sites y.0) h)

pub add_extends : (t : Sites) (at : ℕ) (s : Site) (a : Added) → add t at s ≡ done a → Extends t a.sites
add_extends t at s a e = go (add_done t at s a e).how
  where
    go : {u : Sites} {m : ℕ} → Placed t s u m → Extends t u
    go (present h) = λ n x q. q
    go (next r h) = λ n x q. get_append t (s ∷ []) n x q

pub add_has : (t : Sites) (at : ℕ) (s : Site) (a : Added) → add t at s ≡ done a → get_elem? a.sites a.number ≡ some s
add_has t at s a e = go (add_done t at s a e).how
  where
    go : {u : Sites} {m : ℕ} → Placed t s u m → get_elem? u m ≡ some s
    go (present h) = h
    go (next r h) = get_last t s

pub none_there : Sound []
none_there = record { fits = omega arith; lower = λ n s e. absurd (never e); once = λ a b s e f. absurd (never e); few = λ n s e. absurd (never e); term = λ n s e. absurd (never e) }

pub add_sound : (t : Sites) (at : ℕ) (s : Site) (a : Added) → Sound t → add t at s ≡ done a → Sound a.sites
add_sound t at s a S e = go A.how
  where
    A : Adds t s a
    A = add_done t at s a e

    go : {v : Sites} {m : ℕ} → Placed t s v m → Sound v
    go (present h) = S
    go (next room h) = record {
      fits = let l = length-append t (s ∷ []) in omega arith;
      lower = λ n u q m w. lower n u m w (get_snoc t s u n q);
      once = λ n m u q r. once n m u (get_snoc t s u n q) (get_snoc t s u m r);
      few = λ n u q. few n u (get_snoc t s u n q);
      term = λ n u q x w. term n u x w (get_snoc t s u n q);
    }
      where
        lower : (n : ℕ) (u : Site) (m : ℕ) → Memᴰ m (sources u) → (get_elem? t n ≡ some u) ⊎ ((n ≡ length t) × (s ≡ u)) → m < n
        lower n u m w (inl q) = S.lower n u q m w
        lower n u m w (inr q) = let r = A.lower m (rw q.1 w) in let l = q.0 in omega arith

        once : (n m : ℕ) (u : Site) → (get_elem? t n ≡ some u) ⊎ ((n ≡ length t) × (s ≡ u)) → (get_elem? t m ≡ some u) ⊎ ((m ≡ length t) × (s ≡ u)) → n ≡ m
        once n m u (inl q) (inl r) = S.once n m u q r
        once n m u (inl q) (inr r) = absurd (h n (q ∙ ap some (sym r.1)))
        once n m u (inr q) (inl r) = absurd (h m (r ∙ ap some (sym q.1)))
        once n m u (inr q) (inr r) = q.0 ∙ sym r.0

        few : (n : ℕ) (u : Site) → (get_elem? t n ≡ some u) ⊎ ((n ≡ length t) × (s ≡ u)) → length (sources u) ≤ max_sources
        few n u (inl q) = S.few n u q
        few n u (inr q) = rw (← q.1) A.few

        term : (n : ℕ) (u : Site) (x : ℕ) → term_of u ≡ some x → (get_elem? t n ≡ some u) ⊎ ((n ≡ length t) × (s ≡ u)) → x ≤ max_term
        term n u x w (inl q) = S.term n u q x w
        term n u x w (inr q) = A.term x (rw q.1 w)

-- ---- adding some

pub add_all_sound : (t : Sites) (at : ℕ) (l : List Site) (u : Sites) → Sound t → add_all t at l ≡ done u → Sound u
unfolding add_all
add_all_sound t at [] u S e = let q = done_once e in rw (← q) S
add_all_sound t at (s ∷ l) u S e = let x = bind_done (add t at s) (λ a. add_all a.sites at l) u e in add_all_sound x.0.sites at l u (add_sound t at s x.0 S x.1) x.2

pub add_all_extends : (t : Sites) (at : ℕ) (l : List Site) (u : Sites) → add_all t at l ≡ done u → Extends t u
unfolding add_all
add_all_extends t at [] u e = let q = done_once e in λ n s f. rw (← q) f
add_all_extends t at (s ∷ l) u e = let x = bind_done (add t at s) (λ a. add_all a.sites at l) u e in λ n r f. add_all_extends x.0.sites at l u x.2 n r (add_extends t at s x.0 x.1 n r f)

pub add_all_has : (t : Sites) (at : ℕ) (l : List Site) (u : Sites) → add_all t at l ≡ done u → (s : Site) → Memᴰ s l → Has u s
unfolding add_all
add_all_has t at [] u e s m = elim m [ ]
add_all_has t at (r ∷ l) u e s (Memᴰ.head q) =
    let x = bind_done (add t at r) (λ a. add_all a.sites at l) u e in
    (x.0.number, rw q (add_all_extends x.0.sites at l u x.2 x.0.number r (add_has t at r x.0 x.1)))
add_all_has t at (r ∷ l) u e s (Memᴰ.tail m) = let x = bind_done (add t at r) (λ a. add_all a.sites at l) u e in add_all_has x.0.sites at l u x.2 s m

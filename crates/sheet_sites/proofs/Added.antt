-- 02: a site read into the open set. "9 for a site that the set has, then 2, 21, 28, 20": adding tells them apart, since a site that the set has earns
-- none of the four.
use mathlib.Core.Path.{◌≡◌, refl, sym, ap, ◌∙◌}
use mathlib.Core.Bool.{Bool, true, false, not, ◌||◌}
use mathlib.Core.Option.{Option, none, some}
use mathlib.Core.List.{List, [], ◌∷◌, ◌++◌, Memᴰ}
use Prim.Native.Nat.{ℕ, zero, suc, ◌+◌, ◌*◌, ◌≤◌, ◌<◌}
use native.Mathlib.Omega.{arith}
use lib.ListN.{length, get_elem?, drop, length-append}
use lib.Dec.{ltb, leb}
use borrow.Author.Tests.{lt-ltb, le-ltb, le-leb}
use Rattle.std.specs.declared.result.Result.TheVariants.{Err, Ok}
use Rattle.paper.specs.declared.Refusal.{Refusal}
use Rattle.paper.specs.declared.Refusal.TheVariants.{Repeated}
use Rattle.paper.specs.Words.{any, first}
use Rattle.paper.specs.Numbers.{max_sites, max_sources, max_term, Outcome, done, refused, ◌>>=◌}
use Rattle.paper.specs.Layout.{whole, site_read}
use Rattle.paper.specs.Sites.{Site, Sites, same_site, sources, term_of, known, number_of, term_fits, Added, add, Sound}
use Rattle.paper.proofs.Laws.{same_site_true, same_site_refl, at_inside, number_none, first_next}
use Rattle.paper.proofs.Adding.{add_done, Placed, present, next}
use Rattle.paper.specs.Loading.{Set, with_sites}
use Rattle.paper.specs.Sheets as paper
use Rattle.paper.specs.Sheets.{stepped, at_sites, site_read_in}
use Rattle.sites.specs.Slots.{slot, sites_in, held_by, added_in, numbered_as, store, after_add}
use Rattle.paper.specs.Answered.{Answer}
use Rattle.sites.specs.declared.Numbered.{Numbered}
use Rattle.sites.specs.declared.Numbered.TheVariants.{Known, Fresh}
use Rattle.sites.proofs.Places.{sites_length}
use Rattle.sheet_reader.specs.State.{sites_room}

-- ---- a site that is there
any_at : (T : Sites) (x : Site) → any (same_site x) T ≡ true → (n : ℕ) × (get_elem? T n ≡ some x)
unfolding any
any_at [] x e = let z : ◌≡◌ {A = ℕ} 0 1 = cc in absurd (omega arith)
any_at (y ∷ T) x e = go (same_site x y) refl e (λ q. any_at T x q)
  where
    go : (b : Bool) → same_site x y ≡ b → (b || any (same_site x) T) ≡ true → (any (same_site x) T ≡ true → (n : ℕ) × (get_elem? T n ≡ some x)) → (n : ℕ) × (get_elem? (y ∷ T) n ≡ some x)
    go true q w f = (0, ap some (sym (same_site_true x y q)))
    go false q w f = let r = f w in (suc r.0, r.1)

at_any : (T : Sites) (x : Site) (n : ℕ) → get_elem? T n ≡ some x → any (same_site x) T ≡ true
unfolding any
at_any [] x n e = let z : ◌≡◌ {A = ℕ} 0 1 = cc in absurd (omega arith)
at_any (y ∷ T) x zero e = let q : y ≡ x = cc in rw (q, same_site_refl x)
at_any (y ∷ T) x (suc n) e = go (same_site x y) (at_any T x n e)
  where
    go : (b : Bool) → any (same_site x) T ≡ true → (b || any (same_site x) T) ≡ true
    go true q = refl
    go false q = q

first_all : (p : ℕ → Bool) (l : List ℕ) → ((m : ℕ) → Memᴰ m l → p m ≡ false) → first p l ≡ none
unfolding first
first_all p [] h = refl
first_all p (x ∷ l) h = first_next p x l (h x (Memᴰ.head refl)) ∙ first_all p l (λ m q. h m (Memᴰ.tail q))

there_adds : (T : Sites) (at : ℕ) (x : Site) (i : ℕ) → Sound T → get_elem? T i ≡ some x → (j : ℕ) × (add T at x ≡ done (record { sites = T; number = j }))
unfolding add known
there_adds T at x i S e = go (number_of T x) refl
  where
    low : first (λ n. not (ltb n (length T))) (sources x) ≡ none
    low = first_all (λ n. not (ltb n (length T))) (sources x) (λ m q. let a = S.lower i x e m q in let b = at_inside T i x e in ap not (lt-ltb m (length T) (omega arith)))

    few : leb (length (sources x)) max_sources ≡ true
    few = le-leb (length (sources x)) max_sources (S.few i x e)

    fits : (o : Option ℕ) → term_of x ≡ o → term_fits o ≡ done tt
    fits none q = refl
    fits (some t) q = rw (le-leb t max_term (S.term i x e t q))

    go : (o : Option ℕ) → number_of T x ≡ o → (j : ℕ) × (add T at x ≡ done (record { sites = T; number = j }))
    go none q = absurd (number_none T x q i e)
    go (some j) q = (j, rw (low, few, fits (term_of x) refl, q))

-- ---- the three ways
pub data Way (m : List ℕ) (n at : ℕ) (b : List ℕ) (x : Site) (p : paper.Ended) (g : Set) : Answer Numbered → Type 0 where
  was_known : (j : ℕ) → after_add m n (added_in m n at b) ≡ m → site_read_in p at g x ≡ refused (Repeated at) → Way m n at b x p g (Ok (Known j))
  is_fresh : (j : ℕ) (a : Added) → added_in m n at b ≡ done a → length a.sites ≡ n + 1 → n < max_sites → site_read_in p at g x ≡ done (stepped p (at_sites (with_sites g a.sites)) []) → Way m n at b x p g (Ok (Fresh j))
  was_refused : (w : Refusal) → after_add m n (added_in m n at b) ≡ m → site_read_in p at g x ≡ refused w → Way m n at b x p g (Err w)

module _ (m : List ℕ) (n at : ℕ) (b : List ℕ) (x : Site) (p : paper.Ended) (g : Set) (q : whole (site_read b) ≡ some x) (s : g.sites ≡ sites_in m n) (S : Sound g.sites) (room : sites_room ≤ length m) where
  abbrev T : Sites
  T = g.sites

  long : length T ≡ n
  long = ap length s ∙ sites_length m n

  added_as : added_in m n at b ≡ (add T at x >>= held_by m at)
  unfolding added_in
  added_as = rw (q, s)

  held : (a : Added) → length a.sites ≤ max_sites → held_by m at a ≡ done a
  held a l = rw (le-leb (length a.sites * slot) (length m) (omega arith))

  add_as : (a : Added) → add T at x ≡ done a → length a.sites ≤ max_sites → added_in m n at b ≡ done a
  add_as a e l = added_as ∙ (ap (λ o. o >>= held_by m at) e ∙ held a l)

  repeated : any (same_site x) T ≡ true → site_read_in p at g x ≡ refused (Repeated at)
  unfolding site_read_in
  repeated e = rw e

  absent : any (same_site x) T ≡ false → site_read_in p at g x ≡ (add T at x >>= λ a. done (stepped p (at_sites (with_sites g a.sites)) []))
  unfolding site_read_in
  absent e = rw e

  not_any : ((k : ℕ) → get_elem? T k ≡ some x → ⊥) → any (same_site x) T ≡ false
  not_any h = go (any (same_site x) T) refl
    where
      go : (t : Bool) → any (same_site x) T ≡ t → t ≡ false
      go true e = let r = any_at T x e in absurd (h r.0 r.1)
      go false e = refl

  none_new : (t : Sites) (k : ℕ) → length t ≡ k → drop k t ≡ []
  none_new [] zero e = refl
  none_new [] (suc k) e = absurd (omega arith)
  none_new (y ∷ t) zero e = absurd (omega arith)
  none_new (y ∷ t) (suc k) e = none_new t k (omega arith)

  store_none : (t : Sites) → length t ≡ n → store m n (drop n t) ≡ m
  unfolding store
  store_none t e = rw (none_new t n e)

  pub way : Way m n at b x p g (numbered_as n (added_in m n at b))
  way = go (add T at x) refl
    where
      placed : (a : Added) (u : Sites) (k : ℕ) → a ≡ record { sites = u; number = k } → add T at x ≡ done a → Placed T x u k → Way m n at b x p g (numbered_as n (added_in m n at b))
      placed a u k z e (present i) =
          let l = long in
          let f = S.fits in
          let c = at_inside T k x i in
          let y : added_in m n at b ≡ done (record { sites = T; number = k }) = add_as (record { sites = T; number = k }) (e ∙ ap done z) (omega arith) in
          let w : after_add m n (added_in m n at b) ≡ m = ap (after_add m n) y ∙ store_none T l in
          rw (y, lt-ltb k n (omega arith)) (was_known k w (repeated (at_any T x k i)))
      placed a u k z e (next r h) =
          let l = long in
          let v = length-append T (x ∷ []) in
          let y : added_in m n at b ≡ done (record { sites = T ++ (x ∷ []); number = length T }) = add_as (record { sites = T ++ (x ∷ []); number = length T }) (e ∙ ap done z) (omega arith) in
          let w : site_read_in p at g x ≡ done (stepped p (at_sites (with_sites g (T ++ (x ∷ [])))) []) = absent (not_any h) ∙ ap (λ o. o >>= λ a. done (stepped p (at_sites (with_sites g a.sites)) [])) (e ∙ ap done z) in
          rw (y, le-ltb (length T) n (omega arith)) (is_fresh (length T) (record { sites = T ++ (x ∷ []); number = length T }) y (omega arith) (omega arith) w)

      go : (o : Outcome Added) → add T at x ≡ o → Way m n at b x p g (numbered_as n (added_in m n at b))
      go (done a) e = placed a a.sites a.number refl e (add_done T at x a e).how
      go (refused w) e =
          let y : added_in m n at b ≡ refused w = added_as ∙ ap (λ o. o >>= held_by m at) e in
          let none_there = not_any (λ k i. let d = there_adds T at x k S i in let z : ◌≡◌ {A = ℕ} 0 1 = cc d.1 in absurd (omega arith)) in
          let v : site_read_in p at g x ≡ refused w = absent none_there ∙ ap (λ o. o >>= λ a. done (stepped p (at_sites (with_sites g a.sites)) [])) e in
          rw y (was_refused w (ap (after_add m n) y) v)

-- by the answer
module _ (m : List ℕ) (n at : ℕ) (b : List ℕ) (x : Site) (p : paper.Ended) (g : Set) where
  pub known_way : (v : Answer Numbered) (j : ℕ) → v ≡ Ok (Known j) → Way m n at b x p g v → (after_add m n (added_in m n at b) ≡ m) × (site_read_in p at g x ≡ refused (Repeated at))
  known_way v j e (was_known i w r) = (w, r)
  known_way v j e (is_fresh i a r l h w) = let z : ◌≡◌ {A = ℕ} 0 1 = cc in absurd (omega arith)
  known_way v j e (was_refused w r f) = let z : ◌≡◌ {A = ℕ} 0 1 = cc in absurd (omega arith)

  pub refused_way : (v : Answer Numbered) (w : Refusal) → v ≡ Err w → Way m n at b x p g v → (after_add m n (added_in m n at b) ≡ m) × (site_read_in p at g x ≡ refused w)
  refused_way v w e (was_known i u r) = let z : ◌≡◌ {A = ℕ} 0 1 = cc in absurd (omega arith)
  refused_way v w e (is_fresh i a r l h u) = let z : ◌≡◌ {A = ℕ} 0 1 = cc in absurd (omega arith)
  refused_way v w e (was_refused y r f) = let z : y ≡ w = cc in (r, f ∙ ap refused z)

  pub record Fresher : Type 0 where
    pub added : Added
    pub is : added_in m n at b ≡ done added
    pub long : length added.sites ≡ n + 1
    pub few : n < max_sites
    pub reads : site_read_in p at g x ≡ done (stepped p (at_sites (with_sites g added.sites)) [])

  pub fresh_way : (v : Answer Numbered) (j : ℕ) → v ≡ Ok (Fresh j) → Way m n at b x p g v → Fresher
  fresh_way v j e (was_known i u r) = let z : ◌≡◌ {A = ℕ} 0 1 = cc in absurd (omega arith)
  fresh_way v j e (is_fresh i a r l h u) = record { added = a; is = r; long = l; few = h; reads = u }
  fresh_way v j e (was_refused w r f) = let z : ◌≡◌ {A = ℕ} 0 1 = cc in absurd (omega arith)

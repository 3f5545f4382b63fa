-- Adding a site: what each return of `add` cites, and what the memory then holds.
use mathlib.Core.Path.{◌≡◌, refl, sym, ap, ◌∙◌}
use mathlib.Core.Bool.{Bool, true, false, not}
use mathlib.Core.Option.{Option, none, some}
use mathlib.Core.List.{List, [], ◌∷◌, ◌++◌}
use Prim.Native.Nat.{ℕ, suc, ◌+◌, ◌*◌, ◌≤◌, ◌<◌}
use native.Mathlib.Omega.{arith}
use lib.ListN.{length, drop, length-append}
use lib.Seq.{drop_at, drop-length}
use lib.Dec.{ltb, leb}
use borrow.Author.Tests.{lt-ltb, le-ltb, le-leb, lt-leb, leb-true}
use Rattle.std.specs.declared.result.Result.TheVariants.{Err, Ok}
use Rattle.std.specs.declared.option.Option.TheVariants.{None, Some}
use Rattle.paper.specs.Answered.{Maybe}
use Rattle.paper.specs.declared.Refusal.{Refusal}
use Rattle.paper.specs.declared.Refusal.TheVariants.{Layout, TooManySites, TooManySources}
use Rattle.paper.specs.Words.{first}
use Rattle.paper.specs.Numbers.{max_sites, max_sources, Outcome, done, refused, ◌>>=◌, demand}
use Rattle.paper.specs.Layout.{whole, site_read}
use Rattle.paper.specs.Sites.{Site, Sites, sources, term_of, known, number_of, missing_source, term_fits, or_next, add}
use Rattle.paper.proofs.Laws.{number_some, at_inside, first_here}
use Rattle.site_body.specs.Body.{admits, admits_body, found_as, is_body, is_there, missing, site_of, verdict_as}
use Rattle.site_body.proofs.Back.{Bytes}
use Rattle.paper.specs.Answered.{Verdict}
use Rattle.sites.specs.declared.Numbered.TheVariants as numbered
use Rattle.sites.specs.Slots.{slot, sites_in, Findable, held_by, add_body, added_in, numbered_as, put, store, after_add}
use Rattle.site_body.proofs.Bodies.{laid_in, read_some, found_some, found_none}
use Rattle.sites.proofs.Places.{sites_length}

-- three questions, and then what follows
in_turn : {A : Type 0} (a b c : Outcome (Unit {0})) (f : Unit {0} → Outcome A) → (a >>= λ _. (b >>= λ _. (c >>= f))) ≡ ((a >>= λ _. (b >>= λ _. c)) >>= f)
in_turn (done x) (done y) c f = refl
in_turn (done x) (refused r) c f = refl
in_turn (refused r) b c f = refl

add_as : (t : Sites) (at : ℕ) (s : Site) → add t at s ≡ (admits (length t) at s >>= λ _. or_next t at s (number_of t s))
unfolding add admits missing known
add_as t at s = in_turn (missing_source (first (λ k. not (ltb k (length t))) (sources s))) (demand (leb (length (sources s)) max_sources) (TooManySources (length (sources s)) at)) (term_fits (term_of s)) (λ _. or_next t at s (number_of t s))

refused_as : (o : Outcome (Unit {0})) (r : Refusal) → verdict_as o ≡ Err r → o ≡ refused r
refused_as (done x) r e = let z : ◌≡◌ {A = ℕ} 0 1 = cc in absurd (omega arith)
refused_as (refused q) r e = let z : q ≡ r = cc in ap refused z

fine_as : (o : Outcome (Unit {0})) → verdict_as o ≡ Ok tt → o ≡ done tt
fine_as (done x) e = refl
fine_as (refused q) e = let z : ◌≡◌ {A = ℕ} 0 1 = cc in absurd (omega arith)

module _ (m : List ℕ) (n at : ℕ) where
  abbrev t : Sites
  t = sites_in m n

  add_in : (s : Site) → add t at s ≡ (admits n at s >>= λ _. or_next t at s (number_of t s))
  add_in s = add_as t at s ∙ ap (λ k. admits k at s >>= λ _. or_next t at s (number_of t s)) (sites_length m n)

  body_refused : (o : Option Site) (r : Refusal) → verdict_as (admits_body n at o) ≡ Err r → add_body m n at o ≡ refused r
  body_refused none r e = let z : Layout at ≡ r = cc (refused_as (refused (Layout at)) r e) in ap refused z
  body_refused (some s) r e =
      let w : add t at s ≡ refused r = add_in s ∙ ap (λ o. o >>= λ _. or_next t at s (number_of t s)) (refused_as (admits n at s) r e) in
      ap (λ a. a >>= held_by m at) w

  pub add_refused : (b : List ℕ) (v : Verdict) (r : Refusal) → v ≡ verdict_as (admits_body n at (whole (site_read b))) → v ≡ Err r → (Err r ≡ numbered_as n (added_in m n at b)) × (m ≡ after_add m n (added_in m n at b))
  unfolding added_in
  add_refused b v r p q = let w = body_refused (whole (site_read b)) r (sym p ∙ q) in (rw w, rw w)

-- a body that may be added
fine_some : (n at : ℕ) (o : Option Site) → verdict_as (admits_body n at o) ≡ Ok tt → is_there o ≡ true
unfolding is_there
fine_some n at none e = let z : ◌≡◌ {A = ℕ} 0 1 = cc in absurd (omega arith)
fine_some n at (some s) e = refl

missing_fine : (o : Option ℕ) (f : Unit {0} → Outcome (Unit {0})) → (missing_source o >>= f) ≡ done tt → (o ≡ none) × (f tt ≡ done tt)
missing_fine none f e = (refl, e)
missing_fine (some k) f e = let z : ◌≡◌ {A = ℕ} 0 1 = cc in absurd (omega arith)

demand_fine : (b : Bool) (r : Refusal) (f : Unit {0} → Outcome (Unit {0})) → (demand b r >>= f) ≡ done tt → b ≡ true
demand_fine true r f e = refl
demand_fine false r f e = let z : ◌≡◌ {A = ℕ} 0 1 = cc in absurd (omega arith)

module _ (m b : List ℕ) (f : Bytes b) (n at : ℕ) (l : n < 65536) (v : Verdict) (p : v ≡ verdict_as (admits_body n at (whole (site_read b)))) (q : v ≡ Ok tt) where
  abbrev s : Site
  s = site_of b

  abbrev table : Sites
  table = sites_in m n

  there : is_body b ≡ true
  unfolding is_body
  there = fine_some n at (whole (site_read b)) (sym p ∙ q)

  read : whole (site_read b) ≡ some s
  read = read_some b there

  fine : admits n at s ≡ done tt
  fine = fine_as (admits n at s) (ap (λ o. verdict_as (admits_body n at o)) (sym read) ∙ sym p ∙ q)

  no_missing : missing n (sources s) ≡ none
  unfolding admits
  no_missing = (missing_fine (missing n (sources s)) _ fine).0

  few_sources : length (sources s) ≤ max_sources
  unfolding admits
  few_sources = leb-true _ _ (demand_fine (leb (length (sources s)) max_sources) (TooManySources (length (sources s)) at) _ (missing_fine (missing n (sources s)) _ fine).1)

  pub short : length b ≤ 24
  short = let d = laid_in b f there in let k = few_sources in d.fits (omega (arith, d.many))

  pub findable : Findable b
  unfolding missing sources
  findable =
      record {
        shape = there;
        fits = omega (arith, short);
        real = λ e.
            let w : first (λ k. not (ltb k n)) (65535 ∷ []) ≡ none = ap (λ x. missing n (sources x)) (sym e) ∙ no_missing in
            let u = first_here (λ k. not (ltb k n)) 65535 [] (rw (le-ltb 65535 n (omega arith))) in
            let z : ◌≡◌ {A = ℕ} 0 1 = cc in
            omega arith;
      }

  add_is : added_in m n at b ≡ (or_next table at s (number_of table s) >>= held_by m at)
  unfolding added_in
  add_is =
      let w : add table at s ≡ or_next table at s (number_of table s) = add_in m n at s ∙ ap (λ o. o >>= λ _. or_next table at s (number_of table s)) fine in
      ap (add_body m n at) read ∙ ap (λ a. a >>= held_by m at) w

  module _ (r : Maybe ℕ) (i : ℕ) (x : r ≡ found_as (number_of table s)) (y : r ≡ Some i) where
    found : number_of table s ≡ some i
    found = found_some (number_of table s) i (sym x ∙ y)

    pub add_cut : length m < n * slot → (Err (TooManySites n at) ≡ numbered_as n (added_in m n at b)) × (m ≡ after_add m n (added_in m n at b))
    add_cut h =
        let w : added_in m n at b ≡ refused (TooManySites n at) = add_is ∙ rw (found, sites_length m n, lt-leb (n * slot) (length m) h) in
        (rw w, rw w)

    pub add_known : n * slot ≤ length m → ((Ok (numbered.Known i)) ≡ numbered_as n (added_in m n at b)) × (m ≡ after_add m n (added_in m n at b))
    unfolding store
    add_known h =
        let k = sites_length m n in
        let w : added_in m n at b ≡ done (record { sites = table; number = i }) = add_is ∙ rw (found, k, le-leb (n * slot) (length m) h) in
        let z = at_inside table i s (number_some table s i found) in
        let d : drop n table ≡ [] = ap (λ j. drop j table) (sym k) ∙ drop-length table in
        (rw (w, lt-ltb i n (omega arith)), rw (w, d))

  module _ (r : Maybe ℕ) (x : r ≡ found_as (number_of table s)) (y : r ≡ None) where
    lost : number_of table s ≡ none
    lost = found_none (number_of table s) (sym x ∙ y)

    pub add_over : max_sites ≤ n → (Err (TooManySites (n + 1) at) ≡ numbered_as n (added_in m n at b)) × (m ≡ after_add m n (added_in m n at b))
    add_over h =
        let j : suc n ≡ n + 1 = omega arith in
        let w : added_in m n at b ≡ refused (TooManySites (n + 1) at) = add_is ∙ rw (lost, sites_length m n, le-ltb n max_sites h, j) in
        (rw w, rw w)

    more : length (table ++ (s ∷ [])) ≡ n + 1
    more = length-append table (s ∷ []) ∙ (let k = sites_length m n in omega arith)

    pub add_full : n < max_sites → length m < (n + 1) * slot → (Err (TooManySites (n + 1) at) ≡ numbered_as n (added_in m n at b)) × (m ≡ after_add m n (added_in m n at b))
    add_full h g =
        let w : added_in m n at b ≡ refused (TooManySites (n + 1) at) = add_is ∙ rw (lost, sites_length m n, lt-ltb n max_sites h, more, lt-leb ((n + 1) * slot) (length m) g) in
        (rw w, rw w)

    pub add_fresh : (m' : List ℕ) → n < max_sites → (n + 1) * slot ≤ length m → m' ≡ put m (n * slot) (length b ∷ b) → ((Ok (numbered.Fresh n)) ≡ numbered_as n (added_in m n at b)) × (m' ≡ after_add m n (added_in m n at b))
    unfolding store
    add_fresh m' h g e =
        let k = sites_length m n in
        let w : added_in m n at b ≡ done (record { sites = table ++ (s ∷ []); number = n }) = add_is ∙ rw (lost, k, lt-ltb n max_sites h, more, le-leb ((n + 1) * slot) (length m) g) in
        let d : drop n (table ++ (s ∷ [])) ≡ s ∷ [] = drop_at table (s ∷ []) n k in
        let c = (laid_in b f there).is in
        (rw (w, le-ltb n n (omega arith)), e ∙ rw (w, d, c))

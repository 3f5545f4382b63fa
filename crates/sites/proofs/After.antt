-- The lent memory after adding: its slots hold the paper's table, each slot a body, the older slots as they were.
use mathlib.Core.Path.{◌≡◌, refl, sym, ap, ◌∙◌}
use mathlib.Core.Bool.{Bool, true, false}
use mathlib.Core.Option.{Option, none, some}
use mathlib.Core.List.{List, [], ◌∷◌, ◌++◌, append_assoc, append-nil, Memᴰ}
use mathlib.Core.Logic.{⊎_elim}
use Prim.Native.Nat.{ℕ, suc, ◌+◌, ◌*◌, ◌≤◌, ◌<◌}
use native.Mathlib.Nat.{eq-or-lt_of_le}
use native.Mathlib.Omega.{arith}
use lib.ListN.{length, get_or, take, drop, length-append, length-drop, take-append-drop, get_or-append}
use lib.Seq.{length-take-le, take-append-le, drop-append-le, drop-append-add, drop_at, get_or_at, take-append_seam, append_snoc}
use lib.Dec.{ltb, leb}
use borrow.Author.Tests.{ltb-true, ltb-false, leb-true}
use Rattle.paper.specs.declared.Refusal.{Refusal}
use Rattle.paper.specs.declared.Refusal.TheVariants.{TooManySites}
use Rattle.paper.specs.Words.{below}
use Rattle.paper.specs.Numbers.{max_sources, Outcome, done, refused, ◌>>=◌, demand}
use Rattle.paper.specs.Layout.{whole, site_read}
use Rattle.paper.specs.Sites.{Site, Sites, body, sources, Added, add, Sound, unfolded}
use Rattle.paper.proofs.Laws.{taken, next_is, There, Fresh, sound_empty, sound_add}
use Rattle.site_body.specs.Body.{is_body, no_site, site_of}
use Rattle.site_body.proofs.Tables.{laid}
use Rattle.sites.specs.Slots.{slot, slot_body, site_in, sites_in, held_by, add_body, added_in, put, store, after_add, unfolded_in}
use Rattle.sites.proofs.Held.{slot_is, slot_over}
use Rattle.sites.proofs.Places.{sites_length, below_same}
use Rattle.sites.proofs.Put.{length_put}
use Rattle.site_body.proofs.Bodies.{site_body, body_there}

-- ---- one slot
front_part : (p q : List ℕ) (j k : ℕ) → j + k ≤ length p → take k (drop j (p ++ q)) ≡ take k (drop j p)
front_part p q j k h =
    let e = length-drop j p in
    ap (λ l. take k l) (drop-append-le j p q (omega arith)) ∙ take-append-le k (drop j p) q (omega arith)

-- a slot of the front does not depend on what follows
slot_front : (p q : List ℕ) (i : ℕ) → i * slot + slot ≤ length p → slot_body (p ++ q) i ≡ slot_body p i
slot_front p q i h = go (ltb (get_or p (i * slot) 0) slot) refl
  where
    same : get_or (p ++ q) (i * slot) 0 ≡ get_or p (i * slot) 0
    same = get_or-append p q 0 (i * slot) (omega arith)

    more : i * slot + slot ≤ length (p ++ q)
    more = let e = length-append p q in omega arith

    go : (t : Bool) → ltb (get_or p (i * slot) 0) slot ≡ t → slot_body (p ++ q) i ≡ slot_body p i
    go true e =
        let l = ltb-true (get_or p (i * slot) 0) slot e in
        slot_is (p ++ q) i (get_or p (i * slot) 0) more (sym same) l
        ∙ front_part p q (i * slot + 1) (get_or p (i * slot) 0) (omega arith)
        ∙ sym (slot_is p i (get_or p (i * slot) 0) h refl l)
    go false e =
        let l = ltb-false (get_or p (i * slot) 0) slot e in
        let w = same in
        slot_over (p ++ q) i more (omega arith) ∙ sym (slot_over p i h l)

slot_whole : (p b d : List ℕ) (n : ℕ) → length p ≡ n * slot → length b < slot → n * slot + slot ≤ length (p ++ (length b ∷ (b ++ d))) → slot_body (p ++ (length b ∷ (b ++ d))) n ≡ b
slot_whole p b d n e l h =
    let k : n * slot + 1 ≡ length p + 1 = omega arith in
    slot_is (p ++ (length b ∷ (b ++ d))) n (length b) h (sym (get_or_at p (length b) (b ++ d) 0 (n * slot) e)) l
    ∙ ap (λ j. take (length b) (drop j (p ++ (length b ∷ (b ++ d))))) k
    ∙ ap (λ x. take (length b) x) (drop-append-add p (length b ∷ (b ++ d)) 1)
    ∙ take-append_seam b d

-- a body written to slot n stands there, and the slots before are as they were
module _ (m : List ℕ) (n : ℕ) (b : List ℕ) (l : length b < slot) (h : n * slot + slot ≤ length m) where
  abbrev rest : List ℕ
  rest = drop (n * slot + length (length b ∷ b)) m

  put_as : put m (n * slot) (length b ∷ b) ≡ take (n * slot) m ++ (length b ∷ (b ++ rest))
  unfolding put
  put_as = append_assoc (take (n * slot) m) (length b ∷ b) rest

  front_long : length (take (n * slot) m) ≡ n * slot
  front_long = length-take-le (n * slot) m (omega arith)

  put_long : length (put m (n * slot) (length b ∷ b)) ≡ length m
  put_long = length_put m (n * slot) (length b ∷ b) (omega arith)

  put_here : slot_body (put m (n * slot) (length b ∷ b)) n ≡ b
  put_here =
      let k = put_long in
      let e = ap length put_as in
      ap (λ x. slot_body x n) put_as ∙ slot_whole (take (n * slot) m) b rest n front_long l (omega arith)

  put_older : (i : ℕ) → i < n → slot_body (put m (n * slot) (length b ∷ b)) i ≡ slot_body m i
  put_older i q =
      let k = front_long in
      let f : i * slot + slot ≤ length (take (n * slot) m) = omega arith in
      ap (λ x. slot_body x i) put_as
      ∙ slot_front (take (n * slot) m) (length b ∷ (b ++ rest)) i f
      ∙ sym (slot_front (take (n * slot) m) (drop (n * slot) m) i f)
      ∙ ap (λ x. slot_body x i) (take-append-drop (n * slot) m)

-- ---- a row of sites
-- a site that a slot can hold, and not what bytes that are no body are read as
pub record Storable (s : Site) : Type 0 where
  pub fits : length (body s) < slot
  pub real : s ≡ no_site → ⊥

abbrev pub AllStorable : List Site → Type 0
AllStorable [] = Unit {0}
AllStorable (s ∷ ss) = Storable s × AllStorable ss

-- every one of the first n slots holds the body of a site
pub record Bodies (m : List ℕ) (n : ℕ) : Type 0 where
  pub shape : (i : ℕ) → i < n → is_body (slot_body m i) ≡ true
  pub real : (i : ℕ) → i < n → site_in m i ≡ no_site → ⊥

pub bodies_none : (m : List ℕ) → Bodies m 0
bodies_none m = record { shape = λ i l. absurd (omega arith); real = λ i l. absurd (omega arith) }

-- the empty table is sound
pub sound_none : (m : List ℕ) → Sound (sites_in m 0)
unfolding sites_in below
sound_none m = sound_empty

-- the older slots decide the older sites
pub sites_same : (m m' : List ℕ) (n : ℕ) → ((i : ℕ) → i < n → slot_body m' i ≡ slot_body m i) → sites_in m' n ≡ sites_in m n
unfolding sites_in site_in
sites_same m m' n h = below_same n (site_in m') (site_in m) (λ i l. ap site_of (h i l))

module _ (m : List ℕ) (n : ℕ) (s : Site) (k : Storable s) (h : n * slot + slot ≤ length m) where
  abbrev wrote : List ℕ
  wrote = put m (n * slot) (length (body s) ∷ body s)

  wrote_site : site_in wrote n ≡ s
  unfolding site_in
  wrote_site = ap site_of (put_here m n (body s) k.fits h) ∙ site_body s

  wrote_sites : sites_in wrote (suc n) ≡ sites_in m n ++ (s ∷ [])
  unfolding sites_in below
  wrote_sites =
      let x = sites_same m wrote n (put_older m n (body s) k.fits h) in
      let y = wrote_site in
      ap (λ t. t ++ (site_in wrote n ∷ [])) x ∙ ap (λ z. sites_in m n ++ (z ∷ [])) y

  wrote_bodies : Bodies m n → Bodies wrote (suc n)
  unfolding site_in
  wrote_bodies b =
      let e = put_here m n (body s) k.fits h in
      let o = put_older m n (body s) k.fits h in
      record {
        shape = λ i l. ⊎_elim (λ (q : i ≡ n). ap (λ j. is_body (slot_body wrote j)) q ∙ ap is_body e ∙ body_there s)
            (λ (q : i < n). ap is_body (o i q) ∙ b.shape i q) (eq-or-lt_of_le (omega arith));
        real = λ i l w. ⊎_elim (λ (q : i ≡ n). k.real (sym wrote_site ∙ ap (λ j. site_in wrote j) (sym q) ∙ w))
            (λ (q : i < n). b.real i q (ap site_of (sym (o i q)) ∙ w)) (eq-or-lt_of_le (omega arith));
      }

  wrote_long : length wrote ≡ length m
  wrote_long = put_long m n (body s) k.fits h

-- the memory keeps its length; the older slots stay; the new sites follow the older ones; every slot has a body
pub store_long : (m : List ℕ) (n : ℕ) (ss : List Site) → AllStorable ss → (n + length ss) * slot ≤ length m → length (store m n ss) ≡ length m
unfolding store
store_long m n [] k h = refl
store_long m n (s ∷ ss) k h =
    let e = wrote_long m n s k.0 (omega arith) in
    store_long (put m (n * slot) (length (body s) ∷ body s)) (suc n) ss k.1 (omega arith) ∙ e

pub store_older : (m : List ℕ) (n : ℕ) (ss : List Site) → AllStorable ss → (n + length ss) * slot ≤ length m → (i : ℕ) → i < n → slot_body (store m n ss) i ≡ slot_body m i
unfolding store
store_older m n [] k h i l = refl
store_older m n (s ∷ ss) k h i l =
    let e = wrote_long m n s k.0 (omega arith) in
    store_older (put m (n * slot) (length (body s) ∷ body s)) (suc n) ss k.1 (omega arith) i (omega arith)
    ∙ put_older m n (body s) k.0.fits (omega arith) i l

pub store_in : (m : List ℕ) (n : ℕ) (ss : List Site) → AllStorable ss → (n + length ss) * slot ≤ length m → sites_in (store m n ss) (n + length ss) ≡ sites_in m n ++ ss
unfolding store
store_in m n [] k h = let e : n + 0 ≡ n = omega arith in ap (λ j. sites_in m j) e ∙ sym (append-nil (sites_in m n))
store_in m n (s ∷ ss) k h =
    let e = wrote_long m n s k.0 (omega arith) in
    let j : n + suc (length ss) ≡ suc n + length ss = omega arith in
    ap (λ i. sites_in (store (put m (n * slot) (length (body s) ∷ body s)) (suc n) ss) i) j
    ∙ store_in (put m (n * slot) (length (body s) ∷ body s)) (suc n) ss k.1 (omega arith)
    ∙ ap (λ t. t ++ ss) (wrote_sites m n s k.0 (omega arith))
    ∙ append_snoc (sites_in m n) s ss

pub store_bodies : (m : List ℕ) (n : ℕ) (ss : List Site) → AllStorable ss → (n + length ss) * slot ≤ length m → Bodies m n → Bodies (store m n ss) (n + length ss)
unfolding store
store_bodies m n [] k h b = let e : n + 0 ≡ n = omega arith in rw e b
store_bodies m n (s ∷ ss) k h b =
    let e = wrote_long m n s k.0 (omega arith) in
    let j : n + suc (length ss) ≡ suc n + length ss = omega arith in
    rw j (store_bodies (put m (n * slot) (length (body s) ∷ body s)) (suc n) ss k.1 (omega arith) (wrote_bodies m n s k.0 (omega arith) b))

-- ---- what the paper's adding appends
pub record Grows (t u : Sites) : Type 0 where
  pub more : List Site
  pub is : u ≡ t ++ more
  pub kept : AllStorable more

few_fits : (s : Site) → length (sources s) ≤ max_sources → length (body s) < slot
few_fits s h = let d = laid s in let e = d.many in let f = d.fits (omega arith) in omega arith

pub add_grows : (t : Sites) (at : ℕ) (s : Site) (a : Added) → add t at s ≡ done a → Grows t a.sites
unfolding sources
add_grows t at s a e =
    let k = taken t at s a e in
    ⊎_elim (λ (h : There t s a). record { more = []; is = h.sites ∙ sym (append-nil t); kept = tt })
    (λ (f : Fresh t s a).
    let r : s ≡ no_site → ⊥ = λ q.
    let x : Memᴰ 65535 (sources s) = rw q (mathlib.Core.List.Memᴰ.head refl) in
    let y = k.lower 65535 x in
    let z = f.room in
    omega arith in
    record { more = s ∷ []; is = f.sites; kept = (record { fits = few_fits s k.few; real = r }, tt) }) (next_is t at s a k.next)

bind_done : {A B : Type 0} (o : Outcome A) (f : A → Outcome B) (b : B) → (o >>= f) ≡ done b → (a : A) × (o ≡ done a) × (f a ≡ done b)
bind_done (done a) f b e = (a, refl, e)
bind_done (refused r) f b e = let z : ◌≡◌ {A = ℕ} 0 1 = cc in absurd (omega arith)

demand_held : (b : Bool) (r : Refusal) (u : Unit {0}) → demand b r ≡ done u → b ≡ true
demand_held true r u e = refl
demand_held false r u e = let z : ◌≡◌ {A = ℕ} 0 1 = cc in absurd (omega arith)

-- ---- the memory with a longer table
module _ (m : List ℕ) (n : ℕ) (u : Sites) (g : Grows (sites_in m n) u) (h : length u * slot ≤ length m) where
  new : drop n u ≡ g.more
  new = ap (λ x. drop n x) g.is ∙ drop_at (sites_in m n) g.more n (sites_length m n)

  count : length u ≡ n + length g.more
  count = ap length g.is ∙ length-append (sites_in m n) g.more ∙ ap (λ k. k + length g.more) (sites_length m n)

  room : (n + length g.more) * slot ≤ length m
  room = rw (← count) h

  pub grown_in : sites_in (store m n (drop n u)) (length u) ≡ u
  grown_in =
      ap (λ x. sites_in (store m n x) (length u)) new ∙ ap (λ k. sites_in (store m n g.more) k) count
      ∙ store_in m n g.more g.kept room ∙ sym g.is

  pub grown_older : (i : ℕ) → i < n → slot_body (store m n (drop n u)) i ≡ slot_body m i
  grown_older i l = ap (λ x. slot_body (store m n x) i) new ∙ store_older m n g.more g.kept room i l

  pub grown_unfolded : (i : ℕ) → i < n → unfolded_in (store m n (drop n u)) i ≡ unfolded_in m i
  unfolding unfolded_in
  grown_unfolded i l = ap (λ t. unfolded t i) (sites_same m (store m n (drop n u)) (suc i) (λ j q. grown_older j (omega arith)))

  pub grown_bodies : Bodies m n → Bodies (store m n (drop n u)) (length u)
  grown_bodies b = rw (new, count) (store_bodies m n g.more g.kept room b)

-- ---- adding a body. On a refusal the memory is as it was.
pub refused_add : (m : List ℕ) (n : ℕ) (r : Refusal) → after_add m n (refused r) ≡ m
refused_add m n r = refl

module _ (m : List ℕ) (n at : ℕ) where
  body_added : (o : Option Site) (a : Added) → add_body m n at o ≡ done a → (s : Site) × (add (sites_in m n) at s ≡ done a) × (length a.sites * slot ≤ length m)
  body_added none a e = let z : ◌≡◌ {A = ℕ} 0 1 = cc in absurd (omega arith)
  body_added (some s) a e =
      let d = bind_done (add (sites_in m n) at s) (held_by m at) a e in
      let r : Refusal = TooManySites (length d.0.sites) at in
      let f = bind_done (demand (leb (length d.0.sites * slot) (length m)) r) (λ _. done d.0) a d.2 in
      let q : d.0 ≡ a = cc f.2 in
      (s, d.1 ∙ ap done q, rw q at (leb-true (length d.0.sites * slot) (length m) (demand_held _ r f.0 f.1)))

module _ (m : List ℕ) (n at : ℕ) (b : List ℕ) (a : Added) (e : added_in m n at b ≡ done a) where
  added : (s : Site) × (add (sites_in m n) at s ≡ done a) × (length a.sites * slot ≤ length m)
  unfolding added_in
  added = body_added m n at (whole (site_read b)) a e

  grown : Grows (sites_in m n) a.sites
  grown = add_grows (sites_in m n) at added.0 a added.1

  pub after_add_is : sites_in (after_add m n (added_in m n at b)) (length a.sites) ≡ a.sites
  after_add_is = ap (λ o. sites_in (after_add m n o) (length a.sites)) e ∙ grown_in m n a.sites grown added.2

  pub after_add_older : (i : ℕ) → i < n → slot_body (after_add m n (added_in m n at b)) i ≡ slot_body m i
  after_add_older i l = ap (λ o. slot_body (after_add m n o) i) e ∙ grown_older m n a.sites grown added.2 i l

  pub after_add_unfolded : (i : ℕ) → i < n → unfolded_in (after_add m n (added_in m n at b)) i ≡ unfolded_in m i
  after_add_unfolded i l = ap (λ o. unfolded_in (after_add m n o) i) e ∙ grown_unfolded m n a.sites grown added.2 i l

  pub after_add_bodies : Bodies m n → Bodies (after_add m n (added_in m n at b)) (length a.sites)
  after_add_bodies k = rw e (grown_bodies m n a.sites grown added.2 k)

  pub after_add_sound : Sound (sites_in m n) → Sound (sites_in (after_add m n (added_in m n at b)) (length a.sites))
  after_add_sound k = rw after_add_is (sound_add (sites_in m n) at added.0 a k added.1)

-- ---- memory as the calls make it: a sound table, every slot a body. It begins so, and every call keeps it so, whatever its answer.
pub record Made (m : List ℕ) (n : ℕ) : Type 0 where
  pub sound : Sound (sites_in m n)
  pub bodies : Bodies m n

pub made_none : (m : List ℕ) → Made m 0
made_none m = record { sound = sound_none m; bodies = bodies_none m }

abbrev pub count_add : ℕ → Outcome Added → ℕ
count_add n (done a) = length a.sites
count_add n (refused r) = n

pub made_add : (m : List ℕ) (n at : ℕ) (b : List ℕ) → Made m n → Made (after_add m n (added_in m n at b)) (count_add n (added_in m n at b))
made_add m n at b k = go (added_in m n at b) refl
  where
    go : (o : Outcome Added) → added_in m n at b ≡ o → Made (after_add m n o) (count_add n o)
    go (done a) e = record { sound = rw e at (after_add_sound m n at b a e k.sound); bodies = rw e at (after_add_bodies m n at b a e k.bodies) }
    go (refused r) e = k

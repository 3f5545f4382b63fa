-- What the bodies of note, the two sweeps, unjoin and the two removals compute is what paper and specs/Listed.antt say.
use mathlib.Core.Path.{◌≡◌, refl, sym, ◌∙◌, ap, subst⁻¹}
use mathlib.Core.List.{List, [], ◌∷◌, ◌++◌}
use mathlib.Core.Bool.{Bool, true, false}
use Prim.Native.Nat.{ℕ, zero, suc, ◌+◌, ◌-◌, ◌≤◌, ◌<◌}
use native.Mathlib.Omega.{arith}
use native.Mathlib.Decide.{dec_lt}
use native.Mathlib.Numerals.{add-one}
use lib.ListN.{length, get_or, set, take, drop, length-append, length-drop, get_or-append}
use lib.Seq.{set_at, drop-cons, append_snoc, get_or-append-add, take_at, drop-length}
use lib.Dec.{ltb, leb}
use borrow.Author.Tests.{le-leb, lt-leb}
use Rattle.std.specs.declared.result.Result.TheVariants.{Err, Ok}
use Rattle.std.specs.declared.option.Option.TheVariants.{None, Some}
use Rattle.paper.specs.Answered.{Maybe, Answer}
use Rattle.paper.specs.declared.Refusal.{Refusal}
use Rattle.paper.specs.declared.Refusal.TheVariants.{Unknown}
use Rattle.std.specs.Prelude.{if◌then◌else◌}
use Rattle.paper.specs.Numbers.{max_sites, Outcome, done, ◌>>=◌, demand}
use Rattle.paper.specs.Classes.{Classes, classes, find_mut, is_at, flatten_in, flattened, Swept, sweep, unjoin, Removed, remove_at, remove_set_of}
use Rattle.classes.specs.Called.{Taken}
use Rattle.classes.specs.declared.Untaken.TheVariants as K
use Rattle.classes.specs.Answers.{noted, over, Sweeps, taken, taken_by, taken_if, sought, sought_by}
use Rattle.class_removal.specs.Listed.{swept_on, sweep_of, remove_by, remove_with, remove_of, taken_of}
use Rattle.classes.specs.Well.{bit}
use Rattle.classes.proofs.Updating.{update_out}

-- ---- sweep

one_longer : (xs : List ℕ) (y : ℕ) → length (xs ++ (y ∷ [])) ≡ length xs + 1
one_longer xs y = simp length-append

-- a list with one element more over the lent memory
over_one : (m xs : List ℕ) (y : ℕ) → length xs < length m → set (over m xs) (length xs) y ≡ over m (xs ++ (y ∷ []))
over_one m xs y h =
    ap (λ (l : List ℕ). set (xs ++ l) (length xs) y) (drop-cons m (length xs) 0 h)
    ∙ set_at xs (get_or m (length xs) 0) (drop (suc (length xs)) m) y (length xs) refl
    ∙ sym (append_snoc xs y (drop (suc (length xs)) m))
    ∙ (rw (one_longer xs y, add-one (length xs)))

noted_sweeps : (s : Swept) (m p' m' : List ℕ) (n y : ℕ) (b : Bool) (q : List ℕ) → Sweeps s m p' m' n → length s.members < length m
    → Sweeps (record { parents = q; members = if b then s.members ++ (y ∷ []) else s.members }) m q (noted m' n b y).0 (noted m' n b y).1
noted_sweeps s m p' m' n y true q S h = record {
  parents = refl;
  members = rw (S.members, S.number) (over_one m s.members y h);
  number = omega (arith, S.number, one_longer s.members y);
}
noted_sweeps s m p' m' n y false q S h = record { parents = refl; members = S.members; number = S.number }

-- of k sites that were looked at, at most k are members, and each is a site
pub record Within (s : Swept) (k : ℕ) : Type 0 where
  pub few : length s.members ≤ k
  pub sites : (i : ℕ) → i < length s.members → get_or s.members i 0 < max_sites

found_site : (p : List ℕ) (y r : ℕ) → is_at (flatten_in p y).1 (Some r) ≡ true → y < max_sites
found_site p y r e = go (dec_lt y max_sites)
  where
    go : Dec (y < max_sites) → y < max_sites
    go (yes h) = h
    go (no d) =
        let f = ap (λ (h : List ℕ × Maybe ℕ). is_at h.1 (Some r)) (update_out p y (omega arith)) in
        let z : ◌≡◌ {A = ℕ} 0 1 = ap bit (sym f ∙ e) in
        absurd (omega arith)

one_more_site : (xs : List ℕ) (y i : ℕ) → y < max_sites → (i < length xs → get_or xs i 0 < max_sites) → i < length (xs ++ (y ∷ [])) → get_or (xs ++ (y ∷ [])) i 0 < max_sites
one_more_site xs y i g h l = go (dec_lt i (length xs))
  where
    go : Dec (i < length xs) → get_or (xs ++ (y ∷ [])) i 0 < max_sites
    go (yes o) = rw (get_or-append xs (y ∷ []) 0 i o) (h o)
    go (no o) =
        let e : i ≡ length xs + 0 = omega (arith, one_longer xs y) in
        rw (e, get_or-append-add xs (y ∷ []) 0 0) g

within_none : (p : List ℕ) → Within (record { parents = p; members = [] }) 0
within_none p = record { few = omega arith; sites = λ i h. absurd (omega arith) }

within_on : (s : Swept) (k y r : ℕ) → Within s k → Within (swept_on y r s) (suc k)
within_on s k y r F = go (is_at (flatten_in s.parents y).1 (Some r)) (found_site s.parents y r)
  where
    go : (b : Bool) → (b ≡ true → y < max_sites) → Within (record { parents = (flatten_in s.parents y).0; members = if b then s.members ++ (y ∷ []) else s.members }) (suc k)
    go true g = record { few = omega (arith, F.few, one_longer s.members y); sites = λ i h. one_more_site s.members y i (g refl) (F.sites i) h }
    go false g = record { few = omega (arith, F.few); sites = F.sites }

pub sweep_within : (k : ℕ) (p : List ℕ) (r : ℕ) → Within (sweep k p r) k
unfolding sweep
sweep_within zero p r = within_none p
sweep_within (suc k) p r = within_on (sweep k p r) k k r (sweep_within k p r)

pub listed_within : (xs : List ℕ) (k : ℕ) (p : List ℕ) (r : ℕ) → Within (sweep_of xs k p r) k
unfolding sweep_of
listed_within xs zero p r = within_none p
listed_within xs (suc k) p r = within_on (sweep_of xs k p r) k (get_or xs k 0) r (listed_within xs k p r)

-- the same of both sweeps: they begin alike, and look at one site more alike
module _ {s : Swept} {m p' m' : List ℕ} {n : ℕ} (S : Sweeps s m p' m' n) where
  pub part_is : take n m' ≡ s.members
  part_is = rw S.members (take_at s.members (drop (length s.members) m) n (sym S.number))

  pub part_length : n ≡ length (take n m')
  part_length = S.number ∙ sym (ap length part_is)

  module _ {k : ℕ} (F : Within s k) where
    pub swept_room : k < length m → n < length m'
    swept_room h = rw S.members (simp (length-append, length-drop) (omega (arith, S.number, F.few)))

    pub swept_length : k ≤ length m → length m' ≡ length m
    swept_length h = ap length S.members ∙ simp (length-append, length-drop) (omega (arith, F.few))

    pub swept_fits : k ≤ length m → n ≤ length m'
    swept_fits h = omega (arith, S.number, F.few, swept_length h)

    pub part_sites : (i : ℕ) → i < length (take n m') → get_or (take n m') i 0 < max_sites
    part_sites i = subst⁻¹ (λ (l : List ℕ). i < length l → get_or l i 0 < max_sites) part_is (F.sites i)

    swept_turn : k < length m → (y r : ℕ) (q : List ℕ) (f : Maybe ℕ) (m'' : List ℕ) (n' : ℕ)
        → ◌≡◌ {A = List ℕ × Maybe ℕ} (q, f) (flatten_in p' y) → ◌≡◌ {A = List ℕ × ℕ} (m'', n') (noted m' n (is_at f (Some r)) y)
        → Sweeps (swept_on y r s) m q m'' n'
    swept_turn h y r q f m'' n' e g =
        let e' : ◌≡◌ {A = List ℕ × Maybe ℕ} (q, f) (flatten_in s.parents y) = e ∙ ap (λ (z : List ℕ). flatten_in z y) S.parents in
        let H = noted_sweeps s m p' m' n y (is_at f (Some r)) q S (omega (arith, F.few)) in
        rw (← e') (rw (← g) at H)

pub sweep_start : (p m : List ℕ) (r : ℕ) → Sweeps (sweep 0 p r) m p m 0
unfolding sweep
sweep_start p m r = record { parents = refl; members = refl; number = refl }

pub listed_start : (xs p m : List ℕ) (r : ℕ) → Sweeps (sweep_of xs 0 p r) m p m 0
unfolding sweep_of
listed_start xs p m r = record { parents = refl; members = refl; number = refl }

module _ (k : ℕ) (p m p' m' : List ℕ) (r n : ℕ) (h : k < length m) (q : List ℕ) (f : Maybe ℕ) (m'' : List ℕ) (n' : ℕ) where
  pub sweep_turn : Sweeps (sweep k p r) m p' m' n
      → ◌≡◌ {A = List ℕ × Maybe ℕ} (q, f) (flatten_in p' k) → ◌≡◌ {A = List ℕ × ℕ} (m'', n') (noted m' n (is_at f (Some r)) k)
      → Sweeps (sweep (k + 1) p r) m q m'' n'
  unfolding sweep
  sweep_turn S e g = rw (add-one k) (swept_turn S (sweep_within k p r) h k r q f m'' n' e g)

  pub listed_turn : (xs : List ℕ) → Sweeps (sweep_of xs k p r) m p' m' n
      → ◌≡◌ {A = List ℕ × Maybe ℕ} (q, f) (flatten_in p' (get_or xs k 0)) → ◌≡◌ {A = List ℕ × ℕ} (m'', n') (noted m' n (is_at f (Some r)) (get_or xs k 0))
      → Sweeps (sweep_of xs (k + 1) p r) m q m'' n'
  unfolding sweep_of
  listed_turn xs S e g = rw (add-one k) (swept_turn S (listed_within xs k p r) h (get_or xs k 0) r q f m'' n' e g)

-- ---- unjoin, from the front

pub unjoin_turn : (p m : List ℕ) (i w : ℕ) {F : List ℕ} → i < length m → w ≡ get_or m i 0 → unjoin p (drop i m) ≡ F → unjoin (set p w max_sites) (drop (i + 1) m) ≡ F
unfolding unjoin
unjoin_turn p m i w h e q = rw (add-one i, e) (sym (ap (unjoin p) (drop-cons m i 0 h)) ∙ q)

pub unjoin_end : (p m : List ℕ) (i : ℕ) {F : List ℕ} → i ≡ length m → unjoin p (drop i m) ≡ F → p ≡ F
unfolding unjoin
unjoin_end p m i h q = sym (ap (λ (j : ℕ). unjoin p (drop j m)) h ∙ ap (unjoin p) (drop-length m)) ∙ q

-- ---- the whole, whichever sites are looked at

-- what follows the updating find on the site that is named
abbrev then_swept : (List ℕ → ℕ → Swept) → List ℕ → Classes × Answer (Maybe ℕ) → Classes × List ℕ × Taken
then_swept w m (d, Ok f) = taken_by d m (done (remove_by w d f))
then_swept w m (d, Err e) = (d, m, Err (K.Refused e))

module _ (w : List ℕ → ℕ → Swept) (c : Classes) (m : List ℕ) (x : ℕ) {d : Classes} {a : Answer (Maybe ℕ)} (e : ◌≡◌ {A = Classes × Answer (Maybe ℕ)} (d, a) (sought c x)) where
  by : {b : Answer (Maybe ℕ)} → a ≡ b → then_swept w m (d, b) ≡ taken_by c m (remove_with w c x)
  unfolding remove_with find_mut
  by o = sym (ap (λ (b : Answer (Maybe ℕ)). then_swept w m (d, b)) o) ∙ ap (then_swept w m) e ∙ go (ltb x max_sites)
    where
      go : (b : Bool) → then_swept w m (sought_by c (demand b (Unknown x) >>= λ _. done (flattened c x)))
          ≡ taken_by c m (demand b (Unknown x) >>= λ _. (let h = flattened c x in done (remove_by w h.after h.found)))
      go true = go' (flattened c x).found
        where
          go' : (f : Maybe ℕ) → taken_by (flattened c x).after m (done (remove_by w (flattened c x).after f)) ≡ taken_by c m (done (remove_by w (flattened c x).after f))
          go' f = refl
      go false = refl

  pub taken_out : {r : Refusal} → a ≡ Err r → ◌≡◌ {A = Classes × List ℕ × Taken} (d, m, Err (K.Refused r)) (taken_by c m (remove_with w c x))
  taken_out o = by o

  pub taken_none : a ≡ Ok None → ◌≡◌ {A = Classes × List ℕ × Taken} (d, m, Ok 0) (taken_by c m (remove_with w c x))
  taken_none o = by o

  pub taken_some : {r n l : ℕ} {p₂ m₂ p₃ : List ℕ} → a ≡ Ok (Some r) → Sweeps (w d.parents r) m p₂ m₂ n
      → (p₃ ≡ unjoin p₂ (take n m₂)) × (l ≡ d.count - length (take n m₂))
      → ◌≡◌ {A = Classes × List ℕ × Taken} (classes p₃ d.ranks l, m₂, Ok n) (taken_by c m (remove_with w c x))
  taken_some {r} {n} {l} {p₂} {m₂} {p₃} o S u =
      let p : p₃ ≡ unjoin (w d.parents r).parents (w d.parents r).members = u.0 ∙ (rw (S.parents, part_is S)) in
      let l' : l ≡ d.count - length (w d.parents r).members = u.1 ∙ ap (λ (y : List ℕ). d.count - length y) (part_is S) in
      rw (p, l', S.members, S.number) (by o)

-- all sites, and the listed ones
pub remove_is_with : (c : Classes) (x : ℕ) → remove_with (sweep max_sites) c x ≡ remove_set_of c x
unfolding remove_with remove_set_of
remove_is_with c x = ap (λ (q : Removed). demand (ltb x max_sites) (Unknown x) >>= λ _. done q) (go (flattened c x).found)
  where
    go : (f : Maybe ℕ) → remove_by (sweep max_sites) (flattened c x).after f ≡ remove_at (flattened c x).after f
    go (Some r) = refl
    go None = refl

-- with room for all that is looked at the removal is done, and with less nothing is
module _ (k : ℕ) (c : Classes) (m : List ℕ) (o : Outcome Removed) where
  taken_room : k ≤ length m → taken_by c m o ≡ taken_if (leb k (length m)) c m o
  taken_room h = sym (ap (λ (b : Bool). taken_if b c m o) (le-leb k (length m) h))

  taken_less : length m < k → ◌≡◌ {A = Classes × List ℕ × Taken} (c, m, (Err K.Short)) (taken_if (leb k (length m)) c m o)
  taken_less h = sym (ap (λ (b : Bool). taken_if b c m o) (lt-leb k (length m) h))

module _ (c : Classes) (m : List ℕ) (x : ℕ) where
  pub short_all : length m < max_sites → ◌≡◌ {A = Classes × List ℕ × Taken} (c, m, (Err K.Short)) (taken c m x)
  short_all h = taken_less max_sites c m (remove_set_of c x) h

  pub taken_all : max_sites ≤ length m → taken_by c m (remove_with (sweep max_sites) c x) ≡ taken c m x
  taken_all h = ap (taken_by c m) (remove_is_with c x) ∙ taken_room max_sites c m (remove_set_of c x) h

  pub short_listed : (xs : List ℕ) → length m < length xs → ◌≡◌ {A = Classes × List ℕ × Taken} (c, m, (Err K.Short)) (taken_of c xs m x)
  short_listed xs h = taken_less (length xs) c m (remove_of xs c x) h

  pub taken_listed : (xs : List ℕ) → length xs ≤ length m → taken_by c m (remove_of xs c x) ≡ taken_of c xs m x
  taken_listed xs h = taken_room (length xs) c m (remove_of xs c x) h

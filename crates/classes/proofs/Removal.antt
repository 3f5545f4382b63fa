-- THE LAW OF A REMOVAL, on a well-made state: the sweep changes no representative, lists the members ascending, and they alone are taken out.
use mathlib.Core.Path.{◌≡◌, refl, sym, ◌∙◌, ap, subst⁻¹}
use mathlib.Core.List.{List, [], ◌∷◌, ◌++◌}
use mathlib.Core.Bool.{Bool, true, false, ◌&&◌, ◌||◌, not}
use Prim.Native.Nat.{ℕ, zero, suc, ◌+◌, ◌-◌, ◌≤◌, ◌<◌}
use native.Mathlib.Omega.{arith}
use native.Mathlib.Decide.{ℕ_discrete, dec_lt}
use lib.ListN.{length, set, length-set, length-append}
use lib.Seq.{get_or-set_same, get_or-set_other}
use lib.Dec.{ltb, eqb}
use borrow.Author.Tests.{lt-ltb, le-ltb, eq-eqb, ne_eqb}
use Rattle.std.specs.declared.option.Option.TheVariants.{None, Some}
use Rattle.paper.specs.Answered.{Maybe}
use Rattle.std.specs.Prelude.{if◌then◌else◌}
use Rattle.paper.specs.Words.{any, has, keep, below}
use Rattle.paper.specs.Numbers.{max_sites}
use Rattle.paper.specs.Classes.{Classes, classes, up, find_in, flat, flatten_in, is_at, Swept, sweep, unjoin, removed}
use Rattle.paper.proofs.Lists.{or_false}
use Rattle.classes.specs.Well.{Well, WellMade, members, joined_in, has_up, in_class, cnt, bit, dropped}
use Rattle.classes.specs.Equal.{sites_below, TakesOut}
use Rattle.classes.proofs.Counting.{cnt_ext}
use Rattle.classes.proofs.Flattening.{Kept, kept, kept_by, flattened_kept, flattened_found}
use Rattle.classes.proofs.Shortening.{Direct, own_direct, direct_stays}
use Rattle.classes.proofs.Uniting.{is_joined, joined_has}
use Rattle.classes.proofs.Removing.{found_after, fewer, remove_well}

never_at : {A : Type 0} {r : ℕ} → None ≡ Some r → A
never_at e = absurd (let z : ◌≡◌ {A = ℕ} 0 1 = cc in omega arith)

same_at : {a b : ℕ} → Some a ≡ Some b → a ≡ b
same_at e = cc

-- ---- the sweep

keep_last : (f : ℕ → Bool) (xs : List ℕ) (y : ℕ) → keep f (xs ++ (y ∷ [])) ≡ (if f y then keep f xs ++ (y ∷ []) else keep f xs)
unfolding keep
keep_last f [] y = go (f y) refl
  where
    go : (b : Bool) → f y ≡ b → keep f (y ∷ []) ≡ (if f y then y ∷ [] else [])
    go true e = rw (e, keep)
    go false e = rw (e, keep)
keep_last f (x ∷ xs) y = go (f x) refl (f y) refl (keep_last f xs y)
  where
    go : (b : Bool) → f x ≡ b → (d : Bool) → f y ≡ d → keep f (xs ++ (y ∷ [])) ≡ (if f y then keep f xs ++ (y ∷ []) else keep f xs)
        → keep f (x ∷ (xs ++ (y ∷ []))) ≡ (if f y then keep f (x ∷ xs) ++ (y ∷ []) else keep f (x ∷ xs))
    go true e true d i = rw (e, keep) (rw (d) (ap (λ (l : List ℕ). x ∷ l) (i ∙ rw d)))
    go true e false d i = rw (e, keep) (rw (d) (ap (λ (l : List ℕ). x ∷ l) (i ∙ rw d)))
    go false e true d i = rw (e, keep) i
    go false e false d i = rw (e, keep) i

pub sites_more : (k : ℕ) (p : List ℕ) (r : ℕ) → sites_below (suc k) p r ≡ (if in_class p r k then sites_below k p r ++ (k ∷ []) else sites_below k p r)
unfolding sites_below below
sites_more k p r = keep_last (in_class p r) (below k (λ z. z)) k

pub sites_none : (p : List ℕ) (r : ℕ) → sites_below 0 p r ≡ []
unfolding sites_below below keep
sites_none p r = refl

pub sites_count : (k : ℕ) (p : List ℕ) (r : ℕ) → length (sites_below k p r) ≡ cnt (in_class p r) k
unfolding cnt
sites_count zero p r = ap length (sites_none p r)
sites_count (suc k) p r = ap length (sites_more k p r) ∙ go (in_class p r k) (sites_count k p r)
  where
    go : (b : Bool) → length (sites_below k p r) ≡ cnt (in_class p r) k
        → length (if b then sites_below k p r ++ (k ∷ []) else sites_below k p r) ≡ bit b + cnt (in_class p r) k
    go true e = simp length-append (omega (arith, e))
    go false e = omega (arith, e)

-- which sites stand in a list with one more at its end
has_last : (xs : List ℕ) (y z : ℕ) → has (xs ++ (y ∷ [])) z ≡ (has xs z || eqb z y)
unfolding has any
has_last [] y z = go (eqb z y)
  where
    go : (b : Bool) → (b || false) ≡ b
    go true = refl
    go false = refl
has_last (x ∷ xs) y z = go (eqb z x) (has_last xs y z)
  where
    go : (b : Bool) → has (xs ++ (y ∷ [])) z ≡ (has xs z || eqb z y) → (b || has (xs ++ (y ∷ [])) z) ≡ ((b || has xs z) || eqb z y)
    go true e = refl
    go false e = e

has_none : (z : ℕ) → has [] z ≡ false
unfolding has any
has_none z = refl

pub sites_has : (k : ℕ) (p : List ℕ) (r z : ℕ) → has (sites_below k p r) z ≡ (ltb z k && in_class p r z)
sites_has zero p r z = ap (λ (l : List ℕ). has l z) (sites_none p r) ∙ (has_none z ∙ sym (ap (λ (b : Bool). b && in_class p r z) (le-ltb z 0 (omega arith))))
sites_has (suc k) p r z = ap (λ (l : List ℕ). has l z) (sites_more k p r) ∙ go (in_class p r k) refl (sites_has k p r z) (ℕ_discrete z k)
  where
    here : (z ≡ k) → (b : Bool) → in_class p r k ≡ b → b ≡ (ltb z (suc k) && in_class p r z)
    here e b q = sym (ap (λ (t : Bool). t && in_class p r z) (lt-ltb z (suc k) (omega arith)) ∙ (ap (in_class p r) e ∙ q))

    before : z ≡ k → has (sites_below k p r) z ≡ (ltb z k && in_class p r z) → has (sites_below k p r) z ≡ false
    before e i = i ∙ ap (λ (t : Bool). t && in_class p r z) (le-ltb z k (omega arith))

    there : (z ≡ k → ⊥) → Dec (z < k) → ltb z k ≡ ltb z (suc k)
    there d (yes l) = lt-ltb z k l ∙ sym (lt-ltb z (suc k) (omega arith))
    there d (no l) = le-ltb z k (omega arith) ∙ sym (le-ltb z (suc k) (omega arith))

    go : (b : Bool) → in_class p r k ≡ b → has (sites_below k p r) z ≡ (ltb z k && in_class p r z) → Dec (z ≡ k)
        → has (if b then sites_below k p r ++ (k ∷ []) else sites_below k p r) z ≡ (ltb z (suc k) && in_class p r z)
    go true q i (yes e) = has_last (sites_below k p r) k z ∙ (rw (before e i, eq-eqb z k e) (here e true q))
    go false q i (yes e) = before e i ∙ here e false q
    go true q i (no d) =
        has_last (sites_below k p r) k z ∙ (rw (ne_eqb z k d) (or_false (has (sites_below k p r) z) ∙ (i ∙ ap (λ (t : Bool). t && in_class p r z) (there d (dec_lt z k)))))
    go false q i (no d) = i ∙ ap (λ (t : Bool). t && in_class p r z) (there d (dec_lt z k))

-- ---- the sweep

sweep_kept : (k : ℕ) (p R : List ℕ) (n r : ℕ) → Well p R n → Kept p (sweep k p r).parents R n
unfolding sweep
sweep_kept zero p R n r W = kept p R n W
sweep_kept (suc k) p R n r W =
    let K = sweep_kept k p R n r W in
    kept_by p (sweep k p r).parents _ R n K (flattened_kept (sweep k p r).parents R n K.well k)

sweep_lists : (k : ℕ) (p R : List ℕ) (n r : ℕ) → Well p R n → (sweep k p r).members ≡ sites_below k p r
unfolding sweep
sweep_lists zero p R n r W = sym (sites_none p r)
sweep_lists (suc k) p R n r W =
    let K = sweep_kept k p R n r W in
    let e : (flatten_in (sweep k p r).parents k).1 ≡ (find_in p k).found = flattened_found (sweep k p r).parents R n K.well k ∙ K.same k in
    rw (e, sweep_lists k p R n r W) (sym (sites_more k p r))

-- every site below k hangs directly under its representative
sweep_direct : (k : ℕ) (p R : List ℕ) (n r : ℕ) → Well p R n → k ≤ max_sites → (z : ℕ) → z < k → Direct (sweep k p r).parents z
unfolding sweep flatten_in
sweep_direct zero p R n r W h z l = absurd (omega arith)
sweep_direct (suc k) p R n r W h z l =
    let K = sweep_kept k p R n r W in
    go (ℕ_discrete z k) K (λ o. sweep_direct k p R n r W (omega arith) z o)
  where
    go : Dec (z ≡ k) → Kept p (sweep k p r).parents R n → (z < k → Direct (sweep k p r).parents z) → Direct (flat (sweep k p r).parents k) z
    go (yes e) K ih = subst⁻¹ (λ (y : ℕ). Direct (flat (sweep k p r).parents k) y) e (own_direct (sweep k p r).parents R n K.well k)
    go (no d) K ih = direct_stays (sweep k p r).parents R n K.well k z (omega arith) (ih (omega (arith, d)))

-- ---- taking out

pub unjoin_length : (ms p : List ℕ) → length (unjoin p ms) ≡ length p
unfolding unjoin
unjoin_length [] p = refl
unjoin_length (y ∷ ms) p = unjoin_length ms (set p y max_sites) ∙ length-set p y max_sites

pub unjoin_up : (ms p : List ℕ) (z : ℕ) → z < length p → up (unjoin p ms) z ≡ (if has ms z then max_sites else up p z)
unfolding unjoin has any
unjoin_up [] p z h = refl
unjoin_up (y ∷ ms) p z h =
    unjoin_up ms (set p y max_sites) z (rw (length-set p y max_sites) h) ∙ go (ℕ_discrete z y) (has ms z)
  where
    go : Dec (z ≡ y) → (b : Bool) → (if b then max_sites else up (set p y max_sites) z) ≡ (if eqb z y || b then max_sites else up p z)
    go (yes e) true = simp (eq-eqb z y e)
    go (yes e) false = simp (eq-eqb z y e) (rw e (get_or-set_same p y max_sites 0 (rw e at h)))
    go (no d) true = simp (ne_eqb z y d)
    go (no d) false = simp (ne_eqb z y d) (get_or-set_other p y z max_sites 0 d)

module _ (c : Classes) (W : WellMade c) (r : ℕ) where
  s : Swept
  s = sweep max_sites c.parents r

  K : Kept c.parents s.parents c.ranks c.count
  unfolding s
  K = sweep_kept max_sites c.parents c.ranks c.count r W

  L : s.members ≡ sites_below max_sites c.parents r
  unfolding s
  L = sweep_lists max_sites c.parents c.ranks c.count r W

  -- in the swept parents the members are those of the class
  mine : (z : ℕ) → z < max_sites → has s.members z ≡ in_class s.parents r z
  mine z h = rw L (sites_has max_sites c.parents r z ∙ (rw (lt-ltb z max_sites h) (ap (λ (f : Maybe ℕ). is_at f (Some r)) (sym (K.same z)))))

  q : List ℕ
  q = unjoin s.parents s.members

  lq : length q ≡ length s.parents
  unfolding q
  lq = unjoin_length s.members s.parents

  uq : (z : ℕ) → z < max_sites → up q z ≡ (if in_class s.parents r z then max_sites else up s.parents z)
  unfolding q
  uq z h = unjoin_up s.members s.parents z (omega (arith, K.well.len)) ∙ ap (λ (b : Bool). if b then max_sites else up s.parents z) (mine z h)

  size : length s.members ≡ members c.parents r
  size = ap length L ∙ sites_count max_sites c.parents r

  few : joined_in s.parents ≡ joined_in q + members s.parents r
  few = fewer s.parents c.ranks c.count K.well r q lq uq

  all : members s.parents r ≡ members c.parents r
  all = cnt_ext (in_class s.parents r) (in_class c.parents r) max_sites (λ z l. ap (λ (f : Maybe ℕ). is_at f (Some r)) (K.same z))

  count : c.count - length s.members ≡ joined_in q
  count = omega (arith, size, all, few, K.well.tally)

  left : (z : ℕ) → z < max_sites → has_up q z ≡ (has_up c.parents z && not (has s.members z))
  unfolding q
  left z h = ap (λ (y : ℕ). ltb y max_sites) (unjoin_up s.members s.parents z (omega (arith, K.well.len))) ∙ go (has s.members z)
    where
      same : has_up s.parents z ≡ has_up c.parents z
      same =
          joined_has (classes s.parents c.ranks c.count) K.well z h ∙ (ap is_joined (K.same z) ∙ sym (joined_has c W z h))

      no_more : (b : Bool) → false ≡ (b && false)
      no_more true = refl
      no_more false = refl

      still : (b : Bool) → b ≡ (b && true)
      still true = refl
      still false = refl

      go : (b : Bool) → ltb (if b then max_sites else up s.parents z) max_sites ≡ (has_up c.parents z && not b)
      go true = le-ltb max_sites max_sites (omega arith) ∙ no_more (has_up c.parents z)
      go false = same ∙ still (has_up c.parents z)

  direct : (z v : ℕ) → z < max_sites → (find_in q z).found ≡ Some v → up q z ≡ v
  unfolding s
  direct z v h e = go (find_in s.parents z).found refl
    where
      D : Direct s.parents z
      D = sweep_direct max_sites c.parents c.ranks c.count r W (omega arith) z h

      from : (f : Maybe ℕ) → (find_in s.parents z).found ≡ f → dropped r f ≡ Some v
      from f o = sym (found_after s.parents c.ranks c.count K.well r q lq uq z ∙ ap (dropped r) o) ∙ e

      out : (w : ℕ) → (find_in s.parents z).found ≡ Some w → Dec (w ≡ r) → up q z ≡ v
      out w o (yes i) = never_at (sym (simp (eq-eqb w r i)) ∙ from (Some w) o)
      out w o (no d) =
          uq z h ∙ (ap (λ (f : Maybe ℕ). if is_at f (Some r) then max_sites else up s.parents z) o
          ∙ (simp (ne_eqb w r d) (D w o ∙ same_at (sym (simp (ne_eqb w r d)) ∙ from (Some w) o))))

      go : (f : Maybe ℕ) → (find_in s.parents z).found ≡ f → up q z ≡ v
      go (Some w) o = out w o (ℕ_discrete w r)
      go None o = never_at (from None o)

  pub takes_out : TakesOut c r (removed c (sweep max_sites c.parents r))
  unfolding s q
  takes_out = record {
    well = subst⁻¹ (λ (n : ℕ). Well q c.ranks n) count (remove_well s.parents c.ranks c.count K.well r q lq uq);
    found = λ z. found_after s.parents c.ranks c.count K.well r q lq uq z ∙ ap (dropped r) (K.same z);
    list = L;
    size = size;
    leaves = left;
    direct = λ z v h e. direct z v h e;
  }

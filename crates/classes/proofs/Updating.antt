-- What every updating find does, on any contents: the sites that it passed, and what hanging them leaves. The calls, the removal and the laws rest on these
-- and on Flattening's.
use mathlib.Core.Path.{◌≡◌, refl, sym, ◌∙◌, ap, subst, subst⁻¹}
use mathlib.Core.Bool.{Bool, true, false, ◌||◌}
use mathlib.Core.List.{List, [], ◌∷◌}
use Prim.Native.Nat.{ℕ, zero, suc, ◌+◌, ◌-◌, ◌≤◌, ◌<◌}
use lib.ListN.{length, get_or, set, length-set}
use lib.Seq.{get_or-set_same, get_or-set_other, set-get_or}
use lib.Dec.{eqb}
use native.Mathlib.Omega.{arith}
use native.Mathlib.Decide.{ℕ_discrete, dec_lt}
use borrow.Author.Tests.{eq-eqb, ne_eqb}
use Rattle.std.specs.declared.option.Option.TheVariants.{None, Some}
use Rattle.paper.specs.Answered.{Maybe}
use Rattle.std.specs.Prelude.{if◌then◌else◌}
use Rattle.paper.specs.Words.{any, has}
use Rattle.paper.specs.Numbers.{max_sites}
use Rattle.paper.specs.Classes.{up, Trail, seek, find_in, passed, hung, flat_to, flat, flatten_in}
use Rattle.classes.specs.Well.{Leads}
use Rattle.classes.proofs.Steps.{seek_out, seek_none, seek_root, seek_step}
use Rattle.classes.proofs.Leading.{find_out, find_none, one_root, is_root, lead_by, lead_lt}

never : {A : Type 0} {r : ℕ} → None ≡ Some r → A
never e = absurd (let z : ◌≡◌ {A = ℕ} 0 1 = cc in omega arith)

-- ---- a find that answers r has followed the links to it

seek_led : (k : ℕ) (p : List ℕ) (x l r : ℕ) → (seek k p x l).found ≡ Some r → (m : ℕ) × Leads m p x r × ((seek k p x l).links ≡ l + m)
seek_led zero p x l r e = never (sym (ap (λ (t : Trail). t.found) (seek_none p x l)) ∙ e)
seek_led (suc k) p x l r e = go (λ f. seek_led k p (up p x) (l + 1) r f) (dec_lt x max_sites) (ℕ_discrete (up p x) x)
  where
    is : {t : Trail} → seek (suc k) p x l ≡ t → t.found ≡ Some r
    is q = sym (ap (λ (t : Trail). t.found) q) ∙ e

    go : ((seek k p (up p x) (l + 1)).found ≡ Some r → (m : ℕ) × Leads m p (up p x) r × ((seek k p (up p x) (l + 1)).links ≡ (l + 1) + m))
        → Dec (x < max_sites) → Dec (up p x ≡ x) → (m : ℕ) × Leads m p x r × ((seek (suc k) p x l).links ≡ l + m)
    go ih (no d) b = never (is (seek_out p x (suc k) l (omega arith)))
    go ih (yes h) (yes o) =
        let q = seek_root p x k l h o in
        let f = is q in
        let z : x ≡ r = cc in
        let n = ap (λ (t : Trail). t.links) q in
        (0, (h, o, z), omega (arith, n))
    go ih (yes h) (no o) =
        let q = seek_step p x k l h o in
        let i = ih (is q) in
        let n = ap (λ (t : Trail). t.links) q in
        (suc i.0, (h, o, i.1), omega (arith, n, i.2))

pub find_led : (p : List ℕ) (x r : ℕ) → (find_in p x).found ≡ Some r → Leads (find_in p x).links p x r
unfolding find_in
find_led p x r e =
    let i = seek_led max_sites p x 0 r e in
    let n : (find_in p x).links ≡ i.0 = omega (arith, i.2) in
    subst⁻¹ (λ (k : ℕ). Leads k p x r) n i.1

-- ---- the way from x, once x hangs elsewhere

module _ (p : List ℕ) (x v m s : ℕ) (u : Leads m p x s) where
  off : (n z : ℕ) → n < m → Leads n p z s → up (set p x v) z ≡ up p z
  off n z l t = get_or-set_other p x z v 0 (λ e. omega (arith, (one_root n m p x s s (subst (λ (y : ℕ). Leads n p y s) e t) u).1))

  pub still : (n z : ℕ) → n < m → Leads n p z s → Leads n (set p x v) z s
  still zero z l t = (t.0, off 0 z l t ∙ t.1, t.2)
  still (suc n) z l t = lead_by (set p x v) z (up p z) n s (off (suc n) z l t) t.0 t.1 (still n (up p z) (omega arith) t.2)

  passed_still : (n z : ℕ) → n < m → Leads n p z s → passed n (set p x v) z ≡ passed n p z
  unfolding passed
  passed_still zero z l t = refl
  passed_still (suc n) z l t = ap (λ (ys : List ℕ). z ∷ ys) (ap (passed n (set p x v)) (off (suc n) z l t) ∙ passed_still n (up p z) (omega arith) t.2)

-- the first site hung, then the rest
pub hung_step : (n : ℕ) (p : List ℕ) (x r : ℕ) → Leads (suc n) p x r
    → hung p (passed (suc n) p x) r ≡ hung (set p x r) (passed n (set p x r) (up p x)) r
unfolding passed hung
hung_step n p x r t = sym (ap (λ (ys : List ℕ). hung (set p x r) ys r) (passed_still p x r (suc n) r t n (up p x) (omega arith) t.2))

pub hung_none : (p : List ℕ) (x r : ℕ) → hung p (passed 0 p x) r ≡ p
unfolding passed hung
hung_none p x r = refl

-- ---- the loop: w is the index that was widened from at, `left` the links that are left

abbrev pub Hangs : ℕ → List ℕ → ℕ → ℕ → List ℕ → Type 0
Hangs left p at r F = Leads left p at r × (hung p (passed left p at) r ≡ F)

module _ (p : List ℕ) (at w r : ℕ) (e : w ≡ at) {F : List ℕ} where
  pub hang_in : (left : ℕ) → Hangs left p at r F → w < max_sites
  hang_in left h = rw e (lead_lt left p at r h.0)

  pub hang_turn : (left : ℕ) → 1 < left → Hangs left p at r F → Hangs (left - 1) (set p w r) (get_or p w 0) r F
  hang_turn zero l h = absurd (omega arith)
  hang_turn (suc n) l h =
      let k : suc n - 1 ≡ n = omega arith in
      rw (k, e) (still p at r (suc n) r h.0 n (up p at) (omega arith) h.0.2, sym (hung_step n p at r h.0) ∙ h.1)

pub hang_end : (p : List ℕ) (at r : ℕ) {F : List ℕ} (left : ℕ) → left ≤ 1 → Hangs left p at r F → p ≡ F
unfolding passed hung
hang_end p at r zero l h = h.1
hang_end p at r (suc zero) l h = sym (ap (set p at) (sym h.0.2.2) ∙ set-get_or p at 0) ∙ h.1
hang_end p at r (suc (suc n)) l h = absurd (omega arith)

-- ---- 02 [2], parent by parent

pub hung_length : (ys p : List ℕ) (r : ℕ) → length (hung p ys r) ≡ length p
unfolding hung
hung_length [] p r = refl
hung_length (y ∷ ys) p r = hung_length ys (set p y r) r ∙ length-set p y r

pub hung_up : (ys p : List ℕ) (r z : ℕ) → z < length p → up (hung p ys r) z ≡ (if has ys z then r else up p z)
unfolding hung has any
hung_up [] p r z h = refl
hung_up (y ∷ ys) p r z h = hung_up ys (set p y r) r z (rw (length-set p y r) h) ∙ go (ℕ_discrete z y) (has ys z)
  where
    go : Dec (z ≡ y) → (b : Bool) → (if b then r else up (set p y r) z) ≡ (if eqb z y || b then r else up p z)
    go (yes e) true = simp (eq-eqb z y e)
    go (yes e) false = simp (eq-eqb z y e) (rw e (get_or-set_same p y r 0 (rw e at h)))
    go (no d) true = simp (ne_eqb z y d)
    go (no d) false = simp (ne_eqb z y d) (get_or-set_other p y z r 0 d)

pub flat_at : (p : List ℕ) (x r : ℕ) → (find_in p x).found ≡ Some r → flat p x ≡ hung p (passed (find_in p x).links p x) r
unfolding flat
flat_at p x r e = ap (flat_to p x (find_in p x).links) e

pub flat_none : (p : List ℕ) (x : ℕ) → (find_in p x).found ≡ None → flat p x ≡ p
unfolding flat
flat_none p x e = ap (flat_to p x (find_in p x).links) e

-- "every site it passed directly under the representative": a site that was passed has r as its parent, and any other the parent that it had
pub flat_up : (p : List ℕ) (x r : ℕ) → (find_in p x).found ≡ Some r → (z : ℕ) → z < length p
    → up (flat p x) z ≡ (if has (passed (find_in p x).links p x) z then r else up p z)
flat_up p x r e z h = ap (λ (q : List ℕ). up q z) (flat_at p x r e) ∙ hung_up (passed (find_in p x).links p x) p r z h

-- ---- what the calls above rest on

-- a number that is no site has no root
pub update_out : (p : List ℕ) (x : ℕ) → max_sites ≤ x → flatten_in p x ≡ (p, None)
unfolding flatten_in flat
update_out p x h = ap (λ (t : Trail). (flat_to p x t.links t.found, t.found)) (find_out p x h)

-- nor has a site that was never joined
pub update_none : (p : List ℕ) (x : ℕ) → x < max_sites → max_sites ≤ up p x → flatten_in p x ≡ (p, None)
unfolding flatten_in flat
update_none p x h g = ap (λ (t : Trail). (flat_to p x t.links t.found, t.found)) (find_none p x h g)

-- a root that is answered is a site
pub update_lt : (p : List ℕ) (x : ℕ) {r : ℕ} → (flatten_in p x).1 ≡ Some r → r < max_sites
unfolding flatten_in
update_lt p x {r} e = (is_root (find_in p x).links p x r (find_led p x r e)).0

hung_leaves : (n : ℕ) (p : List ℕ) (x r z : ℕ) → Leads n p x r → max_sites ≤ up p z → up (hung p (passed n p x) r) z ≡ up p z
hung_leaves zero p x r z t g = ap (λ (q : List ℕ). up q z) (hung_none p x r)
hung_leaves (suc n) p x r z t g =
    let d : z ≡ x → ⊥ = λ e. omega (arith, ap (up p) e, lead_lt n p (up p x) r t.2) in
    let o : up (set p x r) z ≡ up p z = get_or-set_other p x z r 0 d in
    ap (λ (q : List ℕ). up q z) (hung_step n p x r t)
    ∙ (hung_leaves n (set p x r) (up p x) r z (still p x r (suc n) r t n (up p x) (omega arith) t.2) (subst⁻¹ (λ (w : ℕ). max_sites ≤ w) o g) ∙ o)

-- the sites that were never joined stay so
pub update_leaves : (p : List ℕ) (x z : ℕ) → max_sites ≤ up p z → up (flatten_in p x).0 z ≡ up p z
unfolding flatten_in
update_leaves p x z g = go (find_in p x).found refl
  where
    go : (f : Maybe ℕ) → (find_in p x).found ≡ f → up (flat p x) z ≡ up p z
    go (Some r) e = ap (λ (q : List ℕ). up q z) (flat_at p x r e) ∙ hung_leaves (find_in p x).links p x r z (find_led p x r e) g
    go None e = ap (λ (q : List ℕ). up q z) (flat_none p x e)

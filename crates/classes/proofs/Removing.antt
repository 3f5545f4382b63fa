-- Taking a class out keeps a state well made, makes its sites answer nothing and leaves the others.
use mathlib.Core.Path.{◌≡◌, refl, sym, ◌∙◌, ap, subst, subst⁻¹}
use mathlib.Core.List.{List}
use mathlib.Core.Bool.{Bool, true, false}
use Prim.Native.Nat.{ℕ, zero, suc, ◌+◌, ◌^◌, ◌≤◌, ◌<◌}
use native.Mathlib.Omega.{arith}
use native.Mathlib.Decide.{ℕ_discrete}
use lib.ListN.{length}
use lib.Dec.{ltb, eqb}
use borrow.Author.Tests.{lt-ltb, le-ltb, eq-eqb, ne_eqb}
use Rattle.std.specs.declared.option.Option.TheVariants.{None, Some}
use Rattle.paper.specs.Answered.{Maybe}
use Rattle.std.specs.Prelude.{if◌then◌else◌}
use Rattle.paper.specs.Numbers.{max_sites}
use Rattle.paper.specs.Classes.{up, Trail, find_in, is_at}
use Rattle.classes.specs.Well.{log_sites, Leads, Well, rank, members, joined_in, has_up, in_class, bit, dropped}
use Rattle.classes.proofs.Counting.{cnt_ext, cnt_add}
use Rattle.classes.proofs.Leading.{find_leads, find_out, find_none, lead_by, lead_lt, one_root}
use Rattle.classes.proofs.Linked.{Case, outside, lone, led, case}

-- q has the parents p but for the sites with the root r
module _ (p R : List ℕ) (c : ℕ) (W : Well p R c) (r : ℕ) (q : List ℕ) (lq : length q ≡ length p)
    (uq : (z : ℕ) → z < max_sites → up q z ≡ (if in_class p r z then max_sites else up p z)) where
  -- a site on a chain to s is in r's class just where s is r
  class_of : (m y s : ℕ) → Leads m p y s → in_class p r y ≡ eqb s r
  class_of m y s t = go (case p R c W y)
    where
      go : Case p R y → in_class p r y ≡ eqb s r
      go (outside h) = absurd (omega (arith, lead_lt m p y s t))
      go (lone h g) = absurd (omega (arith, g, next m y s t))
        where
          next : (m y s : ℕ) → Leads m p y s → up p y < max_sites
          next zero y s t = rw t.1 t.0
          next (suc m) y s t = lead_lt m p (up p y) s t.2
      go (led n v u b k h j) =
          ap (λ (t : Trail). is_at t.found (Some r)) (find_leads n p y v (omega arith) u) ∙ ap (λ (w : ℕ). eqb w r) (one_root n m p y v s u t).0

  gone : (z : ℕ) → z < max_sites → in_class p r z ≡ true → up q z ≡ max_sites
  gone z h e = uq z h ∙ simp e

  left : (z : ℕ) → z < max_sites → in_class p r z ≡ false → up q z ≡ up p z
  left z h e = uq z h ∙ simp e

  still : (n z s : ℕ) → (s ≡ r → ⊥) → Leads n p z s → Leads n q z s
  still zero z s d t = (t.0, left z t.0 (class_of 0 z s t ∙ ne_eqb s r d) ∙ t.1, t.2)
  still (suc n) z s d t =
      lead_by q z (up p z) n s (left z t.0 (class_of (suc n) z s t ∙ ne_eqb s r d)) t.0 t.1 (still n (up p z) s d t.2)

  pub found_after : (z : ℕ) → (find_in q z).found ≡ dropped r (find_in p z).found
  found_after z = go (case p R c W z)
    where
      at : (k s : ℕ) → Leads k p z s → k ≤ log_sites → z < max_sites → Dec (s ≡ r) → (find_in q z).found ≡ dropped r (Some s)
      at k s t l h (yes e) =
          ap (λ (t : Trail). t.found) (find_none q z h (rw (gone z h (class_of k z s t ∙ eq-eqb s r e)) (omega arith))) ∙ sym (simp (eq-eqb s r e))
      at k s t l h (no d) = ap (λ (t : Trail). t.found) (find_leads k q z s (omega arith) (still k z s d t)) ∙ sym (simp (ne_eqb s r d))

      go : Case p R z → (find_in q z).found ≡ dropped r (find_in p z).found
      go (outside h) = ap (λ (t : Trail). t.found) (find_out q z h) ∙ sym (ap (λ (t : Trail). dropped r t.found) (find_out p z h))
      go (lone h g) =
          let f = find_none p z h g in
          let e : up q z ≡ up p z = left z h (ap (λ (t : Trail). is_at t.found (Some r)) f) in
          ap (λ (t : Trail). t.found) (find_none q z h (rw e g)) ∙ sym (ap (λ (t : Trail). dropped r t.found) f)
      go (led k s t b l h j) =
          at k s t l h (ℕ_discrete s r) ∙ sym (ap (λ (t : Trail). dropped r t.found) (find_leads k p z s (omega arith) t))

  dropped_other : (s : ℕ) → (s ≡ r → ⊥) → (f : Maybe ℕ) → is_at (dropped r f) (Some s) ≡ is_at f (Some s)
  dropped_other s d None = refl
  dropped_other s d (Some v) = go (ℕ_discrete v r)
    where
      go : Dec (v ≡ r) → is_at (dropped r (Some v)) (Some s) ≡ eqb v s
      go (yes e) = simp (eq-eqb v r e) (sym (ne_eqb v s (λ o. d (sym o ∙ e))))
      go (no o) = simp (ne_eqb v r o)

  -- a site with the root r has a parent
  joined_up : (z : ℕ) → in_class p r z ≡ true → up p z < max_sites
  joined_up z e = go (case p R c W z)
    where
      go : Case p R z → up p z < max_sites
      go (outside h) = let f = ap (λ (t : Trail). is_at t.found (Some r)) (find_out p z h) in let k : ◌≡◌ {A = ℕ} 0 1 = ap bit (sym f ∙ e) in absurd (omega arith)
      go (lone h g) = let f = ap (λ (t : Trail). is_at t.found (Some r)) (find_none p z h g) in let k : ◌≡◌ {A = ℕ} 0 1 = ap bit (sym f ∙ e) in absurd (omega arith)
      go (led n v u b k h j) = j

  pub fewer : joined_in p ≡ joined_in q + members p r
  fewer = cnt_add (has_up p) (has_up q) (in_class p r) max_sites (λ z h. go z h (in_class p r z) refl)
    where
      go : (z : ℕ) → z < max_sites → (b : Bool) → in_class p r z ≡ b → bit (has_up p z) ≡ bit (has_up q z) + bit (in_class p r z)
      go z h true e =
          omega (arith, ap bit e, ap bit (lt-ltb (up p z) max_sites (joined_up z e)), ap bit (le-ltb (up q z) max_sites (rw (gone z h e) (omega arith))))
      go z h false e = omega (arith, ap bit e, ap (λ (y : ℕ). bit (ltb y max_sites)) (left z h e))

  -- a site that still has a parent has the old one, and so has its parent
  stays : (z : ℕ) → z < max_sites → up q z < max_sites → in_class p r z ≡ false
  stays z h j = go (in_class p r z) refl
    where
      go : (b : Bool) → in_class p r z ≡ b → in_class p r z ≡ false
      go true e = absurd (omega (arith, gone z h e))
      go false e = e

  parent_stays : (z : ℕ) → z < max_sites → up p z < max_sites → in_class p r z ≡ false → in_class p r (up p z) ≡ false
  parent_stays z h j e = go (case p R c W z)
    where
      go : Case p R z → in_class p r (up p z) ≡ false
      go (outside g) = absurd (omega arith)
      go (lone g k) = absurd (omega arith)
      go (led zero s t b k g l) = ap (in_class p r) t.1 ∙ e
      go (led (suc n) s t b k g l) = class_of n (up p z) s t.2 ∙ sym (class_of (suc n) z s t) ∙ e

  pub remove_well : Well q R (joined_in q)
  remove_well = record {
    len = lq ∙ W.len;
    rlen = W.rlen;
    closed = λ z h j. closed_after z h j (stays z h j);
    rise = λ z h j d. rise_after z h j d (left z h (stays z h j));
    low = λ z h j. W.low z h (subst (λ (y : ℕ). y < max_sites) (left z h (stays z h j)) j);
    big = λ s h e. big_after s h e (stays s h (subst⁻¹ (λ (y : ℕ). y < max_sites) e h));
    tally = refl;
  }
    where
      closed_after : (z : ℕ) → z < max_sites → up q z < max_sites → in_class p r z ≡ false → up q (up q z) < max_sites
      closed_after z h j e =
          let l = left z h e in
          let k : up p z < max_sites = subst (λ (y : ℕ). y < max_sites) l j in
          subst⁻¹ (λ (y : ℕ). up q y < max_sites) l
          (subst⁻¹ (λ (y : ℕ). y < max_sites) (left (up p z) k (parent_stays z h k e)) (W.closed z h k))

      rise_after : (z : ℕ) → z < max_sites → up q z < max_sites → (up q z ≡ z → ⊥) → up q z ≡ up p z → rank R z < rank R (up q z)
      rise_after z h j d l =
          subst⁻¹ (λ (y : ℕ). rank R z < rank R y) l
          (W.rise z h (subst (λ (y : ℕ). y < max_sites) l j) (subst (λ (y : ℕ). y ≡ z → ⊥) l d))

      big_after : (s : ℕ) → s < max_sites → up q s ≡ s → in_class p r s ≡ false → 2 ^ rank R s ≤ members q s
      big_after s h e f =
          let o : up p s ≡ s = sym (left s h f) ∙ e in
          let d : s ≡ r → ⊥ = λ w. let k : ◌≡◌ {A = ℕ} 0 1 = ap bit (sym f ∙ class_of 0 s s (h, o, refl) ∙ eq-eqb s r w) in omega arith in
          subst⁻¹ (λ (k : ℕ). 2 ^ rank R s ≤ k)
          (cnt_ext (in_class q s) (in_class p s) max_sites (λ z l. ap (λ (f : Maybe ℕ). is_at f (Some s)) (found_after z) ∙ dropped_other s d (find_in p z).found))
          (W.big s h o)

-- A site hung under its representative, and an updating find, keep a state well made and every find's answer, and make no way longer.
use mathlib.Core.Path.{◌≡◌, refl, sym, ◌∙◌, ap, subst, subst⁻¹}
use mathlib.Core.List.{List}
use Prim.Native.Nat.{ℕ, zero, suc, ◌^◌, ◌≤◌, ◌<◌}
use native.Mathlib.Omega.{arith}
use native.Mathlib.Decide.{ℕ_discrete}
use lib.ListN.{set, length-set}
use lib.Seq.{get_or-set_same, get_or-set_other}
use lib.Dec.{ltb}
use borrow.Author.Tests.{lt-ltb}
use Rattle.std.specs.declared.option.Option.TheVariants.{None, Some}
use Rattle.paper.specs.Answered.{Maybe}
use Rattle.paper.specs.Numbers.{max_sites}
use Rattle.paper.specs.Classes.{up, find_in, passed, hung, flat_to, flat, flatten_in, is_at}
use Rattle.classes.specs.Well.{Leads, Well, rank, members, has_up, in_class}
use Rattle.classes.proofs.Counting.{cnt_ext}
use Rattle.classes.proofs.Leading.{find_leads, find_out, find_none, lead_by, lead_lt, one_root, is_root, reaches}
use Rattle.classes.proofs.Linked.{Case, outside, lone, led, case}
use Rattle.classes.proofs.Updating.{find_led, still, hung_step, hung_none}

-- the site x, which leads to the root r by a link or more, goes directly under r
module _ (p R : List ℕ) (c : ℕ) (W : Well p R c) (n x r : ℕ) (t : Leads (suc n) p x r) where
  hx : x < max_sites
  hx = t.0

  jx : up p x < max_sites
  jx = lead_lt n p (up p x) r t.2

  hr : r < max_sites
  hr = (is_root (suc n) p x r t).0

  at_x : up (set p x r) x ≡ r
  at_x = get_or-set_same p x r 0 (omega (arith, W.len, hx))

  off_x : (z : ℕ) → (z ≡ x → ⊥) → up (set p x r) z ≡ up p z
  off_x z d = get_or-set_other p x z r 0 d

  higher : rank R x < rank R r
  higher =
      let i = reaches p R c W x hx jx in
      let o = one_root i.0 (suc n) p x i.1 r i.2 t in
      omega (arith, i.3, o.1, ap (rank R) o.0)

  apart : r ≡ x → ⊥
  apart e = omega (arith, higher, ap (rank R) e)

  root_r : up (set p x r) r ≡ r
  root_r = off_x r apart ∙ (is_root (suc n) p x r t).1

  not_root : (z : ℕ) → up p z ≡ z → z ≡ x → ⊥
  not_root z o e = t.1 (subst (λ (y : ℕ). up p y ≡ y) e o)

  keep : (m z s : ℕ) → Leads m p z s → (k : ℕ) × Leads k (set p x r) z s × (k ≤ m)
  keep zero z s u = (0, (u.0, off_x z (not_root z u.1) ∙ u.1, u.2), omega arith)
  keep (suc m) z s u = go (keep m (up p z) s u.2) (ℕ_discrete z x)
    where
      go : (k : ℕ) × Leads k (set p x r) (up p z) s × (k ≤ m) → Dec (z ≡ x) → (k : ℕ) × Leads k (set p x r) z s × (k ≤ suc m)
      go i (yes e) =
          let o : s ≡ r = (one_root (suc m) (suc n) p x s r (subst (λ (y : ℕ). Leads (suc m) p y s) e u) t).0 in
          let l : Leads 1 (set p x r) x r = lead_by (set p x r) x r 0 r at_x hx apart (hr, root_r, refl) in
          (1, subst⁻¹ (λ (y : ℕ). Leads 1 (set p x r) y s) e (subst⁻¹ (λ (y : ℕ). Leads 1 (set p x r) x y) o l), omega arith)
      go i (no d) = (suc i.0, lead_by (set p x r) z (up p z) i.0 s (off_x z d) u.0 u.1 i.1, omega (arith, i.2))

  same_found : (z : ℕ) → (find_in (set p x r) z).found ≡ (find_in p z).found
  same_found z = go (case p R c W z)
    where
      go : Case p R z → (find_in (set p x r) z).found ≡ (find_in p z).found
      go (outside h) = let a = find_out (set p x r) z h in let b = find_out p z h in cc
      go (lone h g) =
          let d : z ≡ x → ⊥ = λ e. omega (arith, jx, ap (up p) e) in
          let a = find_none (set p x r) z h (rw (off_x z d) g) in let b = find_none p z h g in cc
      go (led m s u b k h j) =
          let i = keep m z s u in
          let a = find_leads i.0 (set p x r) z s (omega (arith, i.2)) i.1 in
          let b = find_leads m p z s (omega arith) u in cc

  same_members : (s : ℕ) → members (set p x r) s ≡ members p s
  same_members s = cnt_ext (in_class (set p x r) s) (in_class p s) max_sites (λ z l. ap (λ (f : Maybe ℕ). is_at f (Some s)) (same_found z))

  same_ups : (z : ℕ) → has_up (set p x r) z ≡ has_up p z
  same_ups z = go (ℕ_discrete z x)
    where
      go : Dec (z ≡ x) → has_up (set p x r) z ≡ has_up p z
      go (yes e) =
          subst⁻¹ (λ (y : ℕ). has_up (set p x r) y ≡ has_up p y) e
          (lt-ltb (up (set p x r) x) max_sites (rw at_x hr) ∙ sym (lt-ltb (up p x) max_sites jx))
      go (no d) = ap (λ (y : ℕ). ltb y max_sites) (off_x z d)

  joined_before : (z : ℕ) → up (set p x r) z < max_sites → up p z < max_sites
  joined_before z h = go (ℕ_discrete z x)
    where
      go : Dec (z ≡ x) → up p z < max_sites
      go (yes e) = rw e jx
      go (no d) = rw (off_x z d) at h

  closed_after : (z : ℕ) → z < max_sites → up (set p x r) z < max_sites → up (set p x r) (up (set p x r) z) < max_sites
  closed_after z h j = go (ℕ_discrete z x)
    where
      on : (y : ℕ) → up p y < max_sites → Dec (y ≡ x) → up (set p x r) y < max_sites
      on y k (yes e) = subst⁻¹ (λ (w : ℕ). up (set p x r) w < max_sites) e (subst⁻¹ (λ (w : ℕ). w < max_sites) at_x hr)
      on y k (no d) = subst⁻¹ (λ (w : ℕ). w < max_sites) (off_x y d) k

      go : Dec (z ≡ x) → up (set p x r) (up (set p x r) z) < max_sites
      go (yes e) =
          subst⁻¹ (λ (y : ℕ). up (set p x r) (up (set p x r) y) < max_sites) e
          (subst⁻¹ (λ (y : ℕ). up (set p x r) y < max_sites) at_x (subst⁻¹ (λ (y : ℕ). y < max_sites) root_r hr))
      go (no d) =
          subst⁻¹ (λ (y : ℕ). up (set p x r) y < max_sites) (off_x z d)
          (on (up p z) (W.closed z h (joined_before z j)) (ℕ_discrete (up p z) x))

  rise_after : (z : ℕ) → z < max_sites → up (set p x r) z < max_sites → (up (set p x r) z ≡ z → ⊥) → rank R z < rank R (up (set p x r) z)
  rise_after z h j d = go (ℕ_discrete z x)
    where
      go : Dec (z ≡ x) → rank R z < rank R (up (set p x r) z)
      go (yes e) = subst⁻¹ (λ (y : ℕ). rank R y < rank R (up (set p x r) y)) e (subst⁻¹ (λ (y : ℕ). rank R x < rank R y) at_x higher)
      go (no o) = subst⁻¹ (λ (y : ℕ). rank R z < rank R y) (off_x z o) (W.rise z h (joined_before z j) (subst (λ (y : ℕ). y ≡ z → ⊥) (off_x z o) d))

  root_before : (s : ℕ) → up (set p x r) s ≡ s → up p s ≡ s
  root_before s e = go (ℕ_discrete s x)
    where
      go : Dec (s ≡ x) → up p s ≡ s
      go (yes q) = absurd (apart (sym at_x ∙ subst (λ (y : ℕ). up (set p x r) y ≡ y) q e))
      go (no o) = sym (off_x s o) ∙ e

  hung_well : Well (set p x r) R c
  hung_well = record {
    len = length-set p x r ∙ W.len;
    rlen = W.rlen;
    closed = closed_after;
    rise = rise_after;
    low = λ z h j. W.low z h (joined_before z j);
    big = λ s h e. subst⁻¹ (λ (n : ℕ). 2 ^ rank R s ≤ n) (same_members s) (W.big s h (root_before s e));
    tally = W.tally ∙ sym (cnt_ext (has_up (set p x r)) (has_up p) max_sites (λ z l. same_ups z));
  }

-- q is well made, every find on it answers as on p, and no way on it is longer
pub record Kept (p q R : List ℕ) (c : ℕ) : Type 0 where
  pub well : Well q R c
  pub same : (z : ℕ) → (find_in q z).found ≡ (find_in p z).found
  pub shorter : (n z s : ℕ) → Leads n p z s → (m : ℕ) × Leads m q z s × (m ≤ n)

pub kept : (p R : List ℕ) (c : ℕ) → Well p R c → Kept p p R c
kept p R c W = record { well = W; same = λ z. refl; shorter = λ n z s t. (n, t, omega arith) }

pub kept_by : (p q s R : List ℕ) (c : ℕ) → Kept p q R c → Kept q s R c → Kept p s R c
kept_by p q s R c J K = record {
  well = K.well;
  same = λ z. K.same z ∙ J.same z;
  shorter = λ n z r t. let i = J.shorter n z r t in let j = K.shorter i.0 z r i.1 in (j.0, j.1, omega (arith, i.2, j.2));
}

hung_kept : (n : ℕ) (p R : List ℕ) (c x r : ℕ) → Well p R c → Leads n p x r → Kept p (hung p (passed n p x) r) R c
hung_kept zero p R c x r W t = subst⁻¹ (λ (q : List ℕ). Kept p q R c) (hung_none p x r) (kept p R c W)
hung_kept (suc n) p R c x r W t =
    subst⁻¹ (λ (q : List ℕ). Kept p q R c) (hung_step n p x r t)
    (kept_by p (set p x r) _ R c
    (record { well = hung_well p R c W n x r t; same = same_found p R c W n x r t; shorter = keep p R c W n x r t })
    (hung_kept n (set p x r) R c (up p x) r (hung_well p R c W n x r t) (still p x r (suc n) r t n (up p x) (omega arith) t.2)))

-- On a well-made state the updating find answers what the plain find answers, and keeps every answer and the state well made.
module _ (p R : List ℕ) (c : ℕ) (W : Well p R c) (x : ℕ) where
  pub flattened_kept : Kept p (flatten_in p x).0 R c
  unfolding flatten_in flat
  flattened_kept = go (find_in p x).found refl
    where
      go : (f : Maybe ℕ) → (find_in p x).found ≡ f → Kept p (flat_to p x (find_in p x).links f) R c
      go (Some r) e = hung_kept (find_in p x).links p R c x r W (find_led p x r e)
      go None e = kept p R c W

  pub flattened_found : (flatten_in p x).1 ≡ (find_in p x).found
  unfolding flatten_in
  flattened_found = refl

-- The Rust's updating find, which only halves the path: each site passed goes under its parent's parent. It too keeps a state well made and every find's
-- answer (proofs/Simulating.antt says what follows for scripts).
use mathlib.Core.Path.{◌≡◌, refl, sym, ◌∙◌, ap, subst, subst⁻¹}
use mathlib.Core.Bool.{true, false}
use mathlib.Core.List.{List}
use Prim.Native.Nat.{ℕ, zero, suc, ◌^◌, ◌≤◌, ◌<◌}
use native.Mathlib.Omega.{arith}
use native.Mathlib.Decide.{ℕ_discrete, dec_lt}
use lib.ListN.{set, length-set}
use lib.Seq.{get_or-set_same, get_or-set_other}
use lib.Dec.{ltb, eqb}
use borrow.Author.Tests.{lt-ltb, le-ltb, eq-eqb, ne_eqb}
use Rattle.std.specs.declared.option.Option.TheVariants.{None, Some}
use Rattle.paper.specs.Answered.{Maybe}
use Rattle.paper.specs.Numbers.{max_sites}
use Rattle.paper.specs.Classes.{up, find_in, Trail, is_at}
use Rattle.classes.specs.Well.{Leads, Well, rank, members, has_up, in_class}
use Rattle.classes.proofs.Counting.{cnt_ext}
use Rattle.classes.proofs.Leading.{find_leads, find_out, find_none, lead_by}
use Rattle.classes.proofs.Linked.{Case, outside, lone, led, case}
use Rattle.classes.proofs.Flattening.{Kept, kept, kept_by}

unfoldable pub halve : ℕ → List ℕ → ℕ → List ℕ × Maybe ℕ
halve zero p x = (p, None)
halve (suc k) p x =
    elim (ltb x max_sites) [
      | false ↦ (p, None)
      | true ↦ elim (eqb (up p x) x) [
        | true ↦ (p, Some x)
        | false ↦ elim (ltb (up p x) max_sites) [ false ↦ (p, None) | true ↦ let u = up p (up p x) in halve k (set p x u) u ]
      ]
    ]

unfoldable pub halve_in : List ℕ → ℕ → List ℕ × Maybe ℕ
halve_in p x = halve max_sites p x

-- one turn
module _ (p : List ℕ) (at : ℕ) where
  halve_out : (k : ℕ) → max_sites ≤ at → halve k p at ≡ (p, None)
  unfolding halve
  halve_out zero h = refl
  halve_out (suc k) h = rw (le-ltb at max_sites h, halve)

  halve_nil : halve 0 p at ≡ (p, None)
  unfolding halve
  halve_nil = refl

  halve_root : (k : ℕ) → at < max_sites → up p at ≡ at → halve (suc k) p at ≡ (p, Some at)
  unfolding halve
  halve_root k h e = rw (lt-ltb at max_sites h, eq-eqb (up p at) at e, halve)

  halve_none : (k : ℕ) → at < max_sites → (up p at ≡ at → ⊥) → max_sites ≤ up p at → halve (suc k) p at ≡ (p, None)
  unfolding halve
  halve_none k h e g = rw (lt-ltb at max_sites h, ne_eqb (up p at) at e, le-ltb (up p at) max_sites g, halve)

  halve_step : (k : ℕ) → at < max_sites → (up p at ≡ at → ⊥) → up p at < max_sites
      → halve (suc k) p at ≡ halve k (set p at (up p (up p at))) (up p (up p at))
  unfolding halve
  halve_step k h e g = rw (lt-ltb at max_sites h, ne_eqb (up p at) at e, lt-ltb (up p at) max_sites g, halve)

-- x's parent becomes its grandparent
abbrev skip : List ℕ → ℕ → List ℕ
skip p x = set p x (up p (up p x))

module _ (p R : List ℕ) (c : ℕ) (W : Well p R c) (x : ℕ) (hx : x < max_sites) (jx : up p x < max_sites) (nx : up p x ≡ x → ⊥) where
  at_x : up (skip p x) x ≡ up p (up p x)
  at_x = get_or-set_same p x (up p (up p x)) 0 (omega (arith, W.len))

  off_x : (z : ℕ) → (z ≡ x → ⊥) → up (skip p x) z ≡ up p z
  off_x z d = get_or-set_other p x z (up p (up p x)) 0 d

  over : up p (up p x) < max_sites
  over = W.closed x hx jx

  higher : rank R x < rank R (up p (up p x))
  higher = go (ℕ_discrete (up p (up p x)) (up p x))
    where
      go : Dec (up p (up p x) ≡ up p x) → rank R x < rank R (up p (up p x))
      go (yes e) = rw e (W.rise x hx jx nx)
      go (no d) = omega (arith, W.rise x hx jx nx, W.rise (up p x) jx over d)

  apart : up p (up p x) ≡ x → ⊥
  apart e = omega (arith, higher, ap (rank R) e)

  not_root : (z : ℕ) → up p z ≡ z → z ≡ x → ⊥
  not_root z r e = nx (subst (λ (y : ℕ). up p y ≡ y) e r)

  keep : (n z s : ℕ) → Leads n p z s → (m : ℕ) × Leads m (skip p x) z s × (m ≤ n)
  keep zero z s t = (0, (t.0, off_x z (not_root z t.1) ∙ t.1, t.2), omega arith)
  keep (suc zero) z s t = go (keep zero (up p z) s t.2) (ℕ_discrete z x)
    where
      go : (m : ℕ) × Leads m (skip p x) (up p z) s × (m ≤ 0) → Dec (z ≡ x) → (m : ℕ) × Leads m (skip p x) z s × (m ≤ 1)
      go i (yes e) =
          let u : Leads 1 p x s = subst (λ (y : ℕ). Leads 1 p y s) e t in
          let g : up p (up p x) ≡ up p x = u.2.1 in
          let o : up (skip p x) (up p (up p x)) ≡ up p (up p x) = off_x (up p (up p x)) apart ∙ ap (up p) g in (
            1,
            subst⁻¹ (λ (y : ℕ). Leads 1 (skip p x) y s) e
                (lead_by (skip p x) x (up p (up p x)) 0 s at_x hx apart (over, o, g ∙ u.2.2)),
            omega arith,
          )
      go i (no d) = (suc i.0, lead_by (skip p x) z (up p z) i.0 s (off_x z d) t.0 t.1 i.1, omega (arith, i.2))
  keep (suc (suc n)) z s t = go (keep (suc n) (up p z) s t.2) (λ u. keep n (up p (up p x)) s u) (ℕ_discrete z x)
    where
      go : (m : ℕ) × Leads m (skip p x) (up p z) s × (m ≤ suc n)
          → (Leads n p (up p (up p x)) s → (m : ℕ) × Leads m (skip p x) (up p (up p x)) s × (m ≤ n))
          → Dec (z ≡ x) → (m : ℕ) × Leads m (skip p x) z s × (m ≤ suc (suc n))
      go i k (yes e) =
          let u : Leads (suc (suc n)) p x s = subst (λ (y : ℕ). Leads (suc (suc n)) p y s) e t in
          let j = k u.2.2 in (
            suc j.0,
            subst⁻¹ (λ (y : ℕ). Leads (suc j.0) (skip p x) y s) e
                (lead_by (skip p x) x (up p (up p x)) j.0 s at_x hx apart j.1),
            omega (arith, j.2),
          )
      go i k (no d) = (suc i.0, lead_by (skip p x) z (up p z) i.0 s (off_x z d) t.0 t.1 i.1, omega (arith, i.2))

  same_found : (z : ℕ) → (find_in (skip p x) z).found ≡ (find_in p z).found
  same_found z = go (case p R c W z)
    where
      go : Case p R z → (find_in (skip p x) z).found ≡ (find_in p z).found
      go (outside h) = let a = find_out (skip p x) z h in let b = find_out p z h in cc
      go (lone h g) =
          let d : z ≡ x → ⊥ = λ e. omega (arith, ap (up p) e) in
          let a = find_none (skip p x) z h (rw (off_x z d) g) in let b = find_none p z h g in cc
      go (led n r t b k h j) =
          let i = keep n z r t in
          let a = find_leads i.0 (skip p x) z r (omega (arith, i.2)) i.1 in
          let b = find_leads n p z r (omega arith) t in cc

  same_members : (r : ℕ) → members (skip p x) r ≡ members p r
  same_members r = cnt_ext (in_class (skip p x) r) (in_class p r) max_sites (λ z l. ap (λ (f : Maybe ℕ). is_at f (Some r)) (same_found z))

  same_ups : (z : ℕ) → has_up (skip p x) z ≡ has_up p z
  same_ups z = go (ℕ_discrete z x)
    where
      go : Dec (z ≡ x) → has_up (skip p x) z ≡ has_up p z
      go (yes e) =
          subst⁻¹ (λ (y : ℕ). has_up (skip p x) y ≡ has_up p y) e
          (lt-ltb (up (skip p x) x) max_sites (rw at_x over) ∙ sym (lt-ltb (up p x) max_sites jx))
      go (no d) = ap (λ (y : ℕ). ltb y max_sites) (off_x z d)

  joined_before : (z : ℕ) → up (skip p x) z < max_sites → up p z < max_sites
  joined_before z h = go (ℕ_discrete z x)
    where
      go : Dec (z ≡ x) → up p z < max_sites
      go (yes e) = rw e jx
      go (no d) = rw (off_x z d) at h

  joined_after : (z : ℕ) → up p z < max_sites → up (skip p x) z < max_sites
  joined_after z h = go (ℕ_discrete z x)
    where
      go : Dec (z ≡ x) → up (skip p x) z < max_sites
      go (yes e) = subst⁻¹ (λ (y : ℕ). up (skip p x) y < max_sites) e (rw at_x over)
      go (no d) = rw (off_x z d) h

  closed_after : (z : ℕ) → z < max_sites → up (skip p x) z < max_sites → up p (up (skip p x) z) < max_sites
  closed_after z h j = go (ℕ_discrete z x)
    where
      go : Dec (z ≡ x) → up p (up (skip p x) z) < max_sites
      go (yes e) = subst⁻¹ (λ (y : ℕ). up p (up (skip p x) y) < max_sites) e (subst⁻¹ (λ (y : ℕ). up p y < max_sites) at_x (W.closed (up p x) jx over))
      go (no d) = subst⁻¹ (λ (y : ℕ). up p y < max_sites) (off_x z d) (W.closed z h (joined_before z j))

  rise_after : (z : ℕ) → z < max_sites → up (skip p x) z < max_sites → (up (skip p x) z ≡ z → ⊥) → rank R z < rank R (up (skip p x) z)
  rise_after z h j d = go (ℕ_discrete z x)
    where
      go : Dec (z ≡ x) → rank R z < rank R (up (skip p x) z)
      go (yes e) = subst⁻¹ (λ (y : ℕ). rank R y < rank R (up (skip p x) y)) e (subst⁻¹ (λ (y : ℕ). rank R x < rank R y) at_x higher)
      go (no o) = subst⁻¹ (λ (y : ℕ). rank R z < rank R y) (off_x z o) (W.rise z h (joined_before z j) (subst (λ (y : ℕ). y ≡ z → ⊥) (off_x z o) d))

  root_before : (r : ℕ) → up (skip p x) r ≡ r → up p r ≡ r
  root_before r e = go (ℕ_discrete r x)
    where
      go : Dec (r ≡ x) → up p r ≡ r
      go (yes q) = absurd (apart (sym at_x ∙ subst (λ (y : ℕ). up (skip p x) y ≡ y) q e))
      go (no o) = sym (off_x r o) ∙ e

  skip_well : Well (skip p x) R c
  skip_well = record {
    len = length-set p x (up p (up p x)) ∙ W.len;
    rlen = W.rlen;
    closed = λ z h j. joined_after (up (skip p x) z) (closed_after z h j);
    rise = rise_after;
    low = λ z h j. W.low z h (joined_before z j);
    big = λ r h e. subst⁻¹ (λ (n : ℕ). 2 ^ rank R r ≤ n) (same_members r) (W.big r h (root_before r e));
    tally = W.tally ∙ sym (cnt_ext (has_up (skip p x)) (has_up p) max_sites (λ z l. same_ups z));
  }

-- a halving find keeps the state well made and every answer
halve_kept : (k : ℕ) (p R : List ℕ) (c at : ℕ) → Well p R c → Kept p (halve k p at).0 R c
halve_kept zero p R c at W = subst⁻¹ (λ (h : List ℕ × Maybe ℕ). Kept p h.0 R c) (halve_nil p at) (kept p R c W)
halve_kept (suc k) p R c at W =
    go (λ K. halve_kept k (skip p at) R c (up p (up p at)) K) (dec_lt at max_sites) (ℕ_discrete (up p at) at) (dec_lt (up p at) max_sites)
  where
    go : (Well (skip p at) R c → Kept (skip p at) (halve k (skip p at) (up p (up p at))).0 R c)
        → Dec (at < max_sites) → Dec (up p at ≡ at) → Dec (up p at < max_sites) → Kept p (halve (suc k) p at).0 R c
    go ih (no d) b e = subst⁻¹ (λ (h : List ℕ × Maybe ℕ). Kept p h.0 R c) (halve_out p at (suc k) (omega arith)) (kept p R c W)
    go ih (yes h) (yes r) e = subst⁻¹ (λ (h : List ℕ × Maybe ℕ). Kept p h.0 R c) (halve_root p at k h r) (kept p R c W)
    go ih (yes h) (no n) (no d) = subst⁻¹ (λ (h : List ℕ × Maybe ℕ). Kept p h.0 R c) (halve_none p at k h n (omega arith)) (kept p R c W)
    go ih (yes h) (no n) (yes j) =
        subst⁻¹ (λ (h : List ℕ × Maybe ℕ). Kept p h.0 R c) (halve_step p at k h n j)
        (kept_by p (skip p at) _ R c
        (record { well = skip_well p R c W at h j n; same = same_found p R c W at h j n; shorter = keep p R c W at h j n })
        (ih (skip_well p R c W at h j n)))

-- what it answers at the end of a chain
halve_led : (k n : ℕ) (p R : List ℕ) (c at r : ℕ) → Well p R c → n < k → Leads n p at r → (halve k p at).1 ≡ Some r
halve_led zero n p R c at r W l t = absurd (omega arith)
halve_led (suc k) zero p R c at r W l t = ap (λ (h : List ℕ × Maybe ℕ). h.1) (halve_root p at k t.0 t.1) ∙ ap Some t.2
halve_led (suc k) (suc zero) p R c at r W l t =
    let g = t.2.1 in
    let i = keep p R c W at t.0 t.2.0 t.1 0 (up p (up p at)) r (W.closed at t.0 t.2.0, ap (up p) g, g ∙ t.2.2) in
    ap (λ (h : List ℕ × Maybe ℕ). h.1) (halve_step p at k t.0 t.1 t.2.0)
    ∙ halve_led k i.0 (skip p at) R c (up p (up p at)) r (skip_well p R c W at t.0 t.2.0 t.1) (omega (arith, i.2)) i.1
halve_led (suc k) (suc (suc n)) p R c at r W l t =
    let i = keep p R c W at t.0 t.2.0 t.1 n (up p (up p at)) r t.2.2 in
    ap (λ (h : List ℕ × Maybe ℕ). h.1) (halve_step p at k t.0 t.1 t.2.0)
    ∙ halve_led k i.0 (skip p at) R c (up p (up p at)) r (skip_well p R c W at t.0 t.2.0 t.1) (omega (arith, i.2)) i.1

-- On a well-made state the halving find answers what the plain find answers, and keeps every answer and the state well made.
module _ (p R : List ℕ) (c : ℕ) (W : Well p R c) (x : ℕ) where
  pub halve_keeps : Kept p (halve_in p x).0 R c
  unfolding halve_in
  halve_keeps = halve_kept max_sites p R c x W

  pub halve_found : (halve_in p x).1 ≡ (find_in p x).found
  unfolding halve_in
  halve_found = go (case p R c W x)
    where
      go : Case p R x → (halve max_sites p x).1 ≡ (find_in p x).found
      go (outside h) = ap (λ (h : List ℕ × Maybe ℕ). h.1) (halve_out p x max_sites h) ∙ sym (ap (λ (t : Trail). t.found) (find_out p x h))
      go (lone h g) =
          ap (λ (h : List ℕ × Maybe ℕ). h.1) (halve_none p x _ h (λ e. omega arith) g) ∙ sym (ap (λ (t : Trail). t.found) (find_none p x h g))
      go (led n r t b k h j) =
          halve_led max_sites n p R c x r W (omega arith) t ∙ sym (ap (λ (t : Trail). t.found) (find_leads n p x r (omega arith) t))

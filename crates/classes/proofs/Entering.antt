-- A site that was never joined becomes a class of its own: the state stays well made, and every other find answers as before.
use mathlib.Core.Path.{◌≡◌, refl, sym, ◌∙◌, ap, subst⁻¹}
use mathlib.Core.List.{List}
use Prim.Native.Nat.{ℕ, zero, suc, ◌+◌, ◌^◌, ◌≤◌, ◌<◌}
use native.Mathlib.Omega.{arith}
use native.Mathlib.Decide.{ℕ_discrete}
use lib.ListN.{set, length-set}
use lib.Seq.{get_or-set_same, get_or-set_other}
use lib.Dec.{ltb, eqb}
use borrow.Author.Tests.{lt-ltb, le-ltb, eq-eqb, ne_eqb}
use Rattle.std.specs.declared.option.Option.TheVariants.{Some}
use Rattle.paper.specs.Answered.{Maybe}
use Rattle.paper.specs.Numbers.{max_sites}
use Rattle.paper.specs.Classes.{up, find_in, one_more, most_count, Trail, is_at}
use Rattle.classes.specs.Well.{log_sites, Leads, Well, rank, members, joined_in, has_up, in_class, bit}
use Rattle.classes.proofs.Counting.{cnt_ext, cnt_mono, cnt_add, cnt_one, cnt_le}
use Rattle.classes.proofs.Leading.{find_leads, find_out, find_none, lead_by, lead_lt}
use Rattle.classes.proofs.Linked.{Case, outside, lone, led, case}

module _ (p R : List ℕ) (c : ℕ) (W : Well p R c) (x : ℕ) (hx : x < max_sites) (gx : max_sites ≤ up p x) where
  at_x : up (set p x x) x ≡ x
  at_x = get_or-set_same p x x 0 (omega (arith, W.len))

  off_x : (z : ℕ) → (z ≡ x → ⊥) → up (set p x x) z ≡ up p z
  off_x z d = get_or-set_other p x z x 0 d

  rank_x : rank (set R x 0) x ≡ 0
  rank_x = get_or-set_same R x 0 0 (omega (arith, W.rlen))

  rank_off : (z : ℕ) → (z ≡ x → ⊥) → rank (set R x 0) z ≡ rank R z
  rank_off z d = get_or-set_other R x z 0 0 d

  joined_off : (z : ℕ) → up p z < max_sites → z ≡ x → ⊥
  joined_off z h e = omega (arith, ap (up p) e)

  keep : (n z s : ℕ) → Leads n p z s → Leads n (set p x x) z s
  keep zero z s t =
      let j : up p z < max_sites = rw t.1 t.0 in
      (t.0, off_x z (joined_off z j) ∙ t.1, t.2)
  keep (suc n) z s t =
      lead_by (set p x x) z (up p z) n s (off_x z (joined_off z (lead_lt n p (up p z) s t.2))) t.0 t.1 (keep n (up p z) s t.2)

  pub found_x : (find_in (set p x x) x).found ≡ Some x
  found_x = ap (λ (t : Trail). t.found) (find_leads 0 (set p x x) x x (omega arith) (hx, at_x, refl))

  pub found_off : (z : ℕ) → (z ≡ x → ⊥) → (find_in (set p x x) z).found ≡ (find_in p z).found
  found_off z d = go (case p R c W z)
    where
      go : Case p R z → (find_in (set p x x) z).found ≡ (find_in p z).found
      go (outside h) = let a = find_out (set p x x) z h in let b = find_out p z h in cc
      go (lone h g) = let a = find_none (set p x x) z h (rw (off_x z d) g) in let b = find_none p z h g in cc
      go (led n r t b k h j) =
          let a = find_leads n (set p x x) z r (omega arith) (keep n z r t) in
          let b = find_leads n p z r (omega arith) t in cc

  same_class : (r : ℕ) → (r ≡ x → ⊥) → (z : ℕ) → in_class (set p x x) r z ≡ in_class p r z
  same_class r d z = go (ℕ_discrete z x)
    where
      go : Dec (z ≡ x) → in_class (set p x x) r z ≡ in_class p r z
      go (yes e) =
          subst⁻¹ (λ (y : ℕ). in_class (set p x x) r y ≡ in_class p r y) e
          (ap (λ (f : Maybe ℕ). is_at f (Some r)) found_x ∙ ne_eqb x r (λ q. d (sym q)) ∙ sym (ap (λ (t : Trail). is_at t.found (Some r)) (find_none p x hx gx)))
      go (no o) = ap (λ (f : Maybe ℕ). is_at f (Some r)) (found_off z o)

  one_member : 1 ≤ members (set p x x) x
  one_member =
      omega (arith, cnt_one x max_sites hx, cnt_mono (λ z. eqb z x) (in_class (set p x x) x) max_sites (λ z l. go z (ℕ_discrete z x)))
    where
      go : (z : ℕ) → Dec (z ≡ x) → bit (eqb z x) ≤ bit (in_class (set p x x) x z)
      go z (yes e) =
          subst⁻¹ (λ (y : ℕ). bit (eqb y x) ≤ bit (in_class (set p x x) x y)) e
          (omega (arith, ap bit (eq-eqb x x refl), ap bit (ap (λ (f : Maybe ℕ). is_at f (Some x)) found_x ∙ eq-eqb x x refl)))
      go z (no d) = omega (arith, ap bit (ne_eqb z x d))

  grown : joined_in (set p x x) ≡ joined_in p + 1
  grown = omega (arith, cnt_one x max_sites hx, cnt_add (has_up (set p x x)) (has_up p) (λ z. eqb z x) max_sites (λ z l. go z (ℕ_discrete z x)))
    where
      go : (z : ℕ) → Dec (z ≡ x) → bit (has_up (set p x x) z) ≡ bit (has_up p z) + bit (eqb z x)
      go z (yes e) =
          subst⁻¹ (λ (y : ℕ). bit (has_up (set p x x) y) ≡ bit (has_up p y) + bit (eqb y x)) e
          (omega (arith, ap bit (lt-ltb (up (set p x x) x) max_sites (rw at_x hx)), ap bit (le-ltb (up p x) max_sites gx), ap bit (eq-eqb x x refl)))
      go z (no d) = omega (arith, ap (λ (y : ℕ). bit (ltb y max_sites)) (off_x z d), ap bit (ne_eqb z x d))

  before : (z : ℕ) → (z ≡ x → ⊥) → up (set p x x) z < max_sites → up p z < max_sites
  before z d j = rw (off_x z d) at j

  closed_after : (z : ℕ) → z < max_sites → up (set p x x) z < max_sites → up (set p x x) (up (set p x x) z) < max_sites
  closed_after z h j = go (ℕ_discrete z x)
    where
      go : Dec (z ≡ x) → up (set p x x) (up (set p x x) z) < max_sites
      go (yes e) = subst⁻¹ (λ (y : ℕ). up (set p x x) (up (set p x x) y) < max_sites) e (rw (at_x, at_x) hx)
      go (no d) =
          let k = W.closed z h (before z d j) in
          subst⁻¹ (λ (y : ℕ). up (set p x x) y < max_sites) (off_x z d) (subst⁻¹ (λ (y : ℕ). y < max_sites) (off_x (up p z) (joined_off (up p z) k)) k)

  rise_after : (z : ℕ) → z < max_sites → up (set p x x) z < max_sites → (up (set p x x) z ≡ z → ⊥) → rank (set R x 0) z < rank (set R x 0) (up (set p x x) z)
  rise_after z h j n = go (ℕ_discrete z x)
    where
      go : Dec (z ≡ x) → rank (set R x 0) z < rank (set R x 0) (up (set p x x) z)
      go (yes e) = absurd (n (subst⁻¹ (λ (y : ℕ). up (set p x x) y ≡ y) e at_x))
      go (no d) =
          let b = before z d j in
          omega (
            arith,
            W.rise z h b (λ q. n (off_x z d ∙ q)),
            rank_off z d,
            ap (rank (set R x 0)) (off_x z d),
            rank_off (up p z) (joined_off (up p z) (W.closed z h b)),
          )

  low_after : (z : ℕ) → z < max_sites → up (set p x x) z < max_sites → rank (set R x 0) z ≤ log_sites
  low_after z h j = go (ℕ_discrete z x)
    where
      go : Dec (z ≡ x) → rank (set R x 0) z ≤ log_sites
      go (yes e) = omega (arith, ap (rank (set R x 0)) e, rank_x)
      go (no d) = omega (arith, rank_off z d, W.low z h (before z d j))

  big_after : (r : ℕ) → r < max_sites → up (set p x x) r ≡ r → 2 ^ rank (set R x 0) r ≤ members (set p x x) r
  big_after r h e = go (ℕ_discrete r x)
    where
      go : Dec (r ≡ x) → 2 ^ rank (set R x 0) r ≤ members (set p x x) r
      go (yes q) =
          subst⁻¹ (λ (y : ℕ). 2 ^ rank (set R x 0) y ≤ members (set p x x) y) q
          (subst⁻¹ (λ (k : ℕ). 2 ^ k ≤ members (set p x x) x) rank_x one_member)
      go (no d) =
          subst⁻¹ (λ (k : ℕ). 2 ^ k ≤ members (set p x x) r) (rank_off r d)
          (subst⁻¹ (λ (k : ℕ). 2 ^ rank R r ≤ k) (cnt_ext (in_class (set p x x) r) (in_class p r) max_sites (λ z l. same_class r d z))
          (W.big r h (sym (off_x r d) ∙ e)))

  pub enter_well : Well (set p x x) (set R x 0) (one_more most_count c)
  enter_well = record {
    len = length-set p x x ∙ W.len;
    rlen = length-set R x 0 ∙ W.rlen;
    closed = closed_after;
    rise = rise_after;
    low = low_after;
    big = big_after;
    tally = omega (arith, W.tally, grown, cnt_le (has_up (set p x x)) max_sites);
  }

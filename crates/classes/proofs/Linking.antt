-- The root b goes under the root a: the state stays well made, b's class joins a's, and every other find answers as before.
use mathlib.Core.Path.{◌≡◌, refl, sym, ◌∙◌, ap, subst, subst⁻¹}
use mathlib.Core.List.{List}
use Prim.Native.Nat.{ℕ, zero, suc, ◌+◌, ◌^◌, ◌≤◌, ◌<◌}
use native.Mathlib.Omega.{arith}
use native.Mathlib.Decide.{ℕ_discrete}
use lib.ListN.{length, set, length-set}
use lib.Seq.{get_or-set_same, get_or-set_other}
use lib.Dec.{ltb, eqb}
use borrow.Author.Tests.{lt-ltb, eq-eqb, ne_eqb}
use Rattle.std.specs.declared.option.Option.TheVariants.{None, Some}
use Rattle.paper.specs.Answered.{Maybe}
use Rattle.paper.specs.Numbers.{max_sites}
use Rattle.paper.specs.Classes.{up, find_in, Trail, is_at}
use Rattle.classes.specs.Well.{log_sites, Leads, Well, rank, members, has_up, in_class, bit, turned}
use Rattle.classes.proofs.Counting.{cnt_ext, cnt_add}
use Rattle.classes.proofs.Leading.{find_leads, find_out, find_none, lead_by}
use Rattle.classes.proofs.Linked.{Case, outside, lone, led, case}

-- how `turned` counts
turned_other : (a b r : ℕ) → (r ≡ a → ⊥) → (r ≡ b → ⊥) → (f : Maybe ℕ) → is_at (turned a b f) (Some r) ≡ is_at f (Some r)
turned_other a b r da db None = refl
turned_other a b r da db (Some s) = go (ℕ_discrete s b)
  where
    go : Dec (s ≡ b) → is_at (turned a b (Some s)) (Some r) ≡ eqb s r
    go (yes e) =
        simp (eq-eqb s b e) (ne_eqb a r (λ q. da (sym q)) ∙ sym (ne_eqb s r (λ q. db (sym q ∙ e))))
    go (no d) = simp (ne_eqb s b d)

turned_sum : (a b : ℕ) → (a ≡ b → ⊥) → (f : Maybe ℕ) → bit (is_at (turned a b f) (Some a)) ≡ bit (is_at f (Some a)) + bit (is_at f (Some b))
turned_sum a b n None = refl
turned_sum a b n (Some s) = go (ℕ_discrete s b)
  where
    go : Dec (s ≡ b) → bit (is_at (turned a b (Some s)) (Some a)) ≡ bit (eqb s a) + bit (eqb s b)
    go (yes e) = simp (eq-eqb s b e, eq-eqb a a refl, ne_eqb s a (λ q. n (sym q ∙ e)))
    go (no d) = simp (ne_eqb s b d) (omega arith)

module _ (p R : List ℕ) (c : ℕ) (W : Well p R c) (a b : ℕ) (ha : a < max_sites) (ra : up p a ≡ a) (hb : b < max_sites) (rb : up p b ≡ b) (n : a ≡ b → ⊥) where
  at_b : up (set p b a) b ≡ a
  at_b = get_or-set_same p b a 0 (omega (arith, W.len))

  off_b : (z : ℕ) → (z ≡ b → ⊥) → up (set p b a) z ≡ up p z
  off_b z d = get_or-set_other p b z a 0 d

  root_a : up (set p b a) a ≡ a
  root_a = off_b a n ∙ ra

  not_b : (z : ℕ) → (up p z ≡ z → ⊥) → z ≡ b → ⊥
  not_b z d e = d (subst⁻¹ (λ (y : ℕ). up p y ≡ y) e rb)

  keep : (k z s : ℕ) → (s ≡ b → ⊥) → Leads k p z s → Leads k (set p b a) z s
  keep zero z s d t = (t.0, off_b z (λ e. d (sym t.2 ∙ e)) ∙ t.1, t.2)
  keep (suc k) z s d t = lead_by (set p b a) z (up p z) k s (off_b z (not_b z t.1)) t.0 t.1 (keep k (up p z) s d t.2)

  move : (k z : ℕ) → Leads k p z b → Leads (suc k) (set p b a) z a
  move zero z t =
      subst⁻¹ (λ (y : ℕ). Leads 1 (set p b a) y a) t.2
      (lead_by (set p b a) b a 0 a at_b hb n (ha, root_a, refl))
  move (suc k) z t = lead_by (set p b a) z (up p z) (suc k) a (off_b z (not_b z t.1)) t.0 t.1 (move k (up p z) t.2)

  pub found_after : (z : ℕ) → (find_in (set p b a) z).found ≡ turned a b (find_in p z).found
  found_after z = go (case p R c W z)
    where
      at : (k r : ℕ) → Leads k p z r → k ≤ log_sites → Dec (r ≡ b) → (find_in (set p b a) z).found ≡ turned a b (Some r)
      at k r t l (yes e) =
          ap (λ (t : Trail). t.found) (find_leads (suc k) (set p b a) z a (omega arith) (move k z (subst (λ (y : ℕ). Leads k p z y) e t)))
          ∙ simp (eq-eqb r b e)
      at k r t l (no d) =
          ap (λ (t : Trail). t.found) (find_leads k (set p b a) z r (omega arith) (keep k z r d t)) ∙ simp (ne_eqb r b d)

      go : Case p R z → (find_in (set p b a) z).found ≡ turned a b (find_in p z).found
      go (outside h) =
          ap (λ (t : Trail). t.found) (find_out (set p b a) z h) ∙ sym (ap (λ (t : Trail). turned a b t.found) (find_out p z h))
      go (lone h g) =
          let d : z ≡ b → ⊥ = λ e. omega (arith, ap (up p) e) in
          ap (λ (t : Trail). t.found) (find_none (set p b a) z h (rw (off_b z d) g))
          ∙ sym (ap (λ (t : Trail). turned a b t.found) (find_none p z h g))
      go (led k r t l q h j) =
          at k r t q (ℕ_discrete r b) ∙ sym (ap (λ (t : Trail). turned a b t.found) (find_leads k p z r (omega arith) t))

  pub members_a : members (set p b a) a ≡ members p a + members p b
  members_a =
      cnt_add (in_class (set p b a) a) (in_class p a) (in_class p b) max_sites
      (λ z l. ap (λ (f : Maybe ℕ). bit (is_at f (Some a))) (found_after z) ∙ turned_sum a b n (find_in p z).found)

  members_other : (r : ℕ) → (r ≡ a → ⊥) → (r ≡ b → ⊥) → members (set p b a) r ≡ members p r
  members_other r da db =
      cnt_ext (in_class (set p b a) r) (in_class p r) max_sites
      (λ z l. ap (λ (f : Maybe ℕ). is_at f (Some r)) (found_after z) ∙ turned_other a b r da db (find_in p z).found)

  same_ups : (z : ℕ) → has_up (set p b a) z ≡ has_up p z
  same_ups z = go (ℕ_discrete z b)
    where
      go : Dec (z ≡ b) → has_up (set p b a) z ≡ has_up p z
      go (yes e) =
          subst⁻¹ (λ (y : ℕ). has_up (set p b a) y ≡ has_up p y) e
          (lt-ltb (up (set p b a) b) max_sites (rw at_b ha) ∙ sym (lt-ltb (up p b) max_sites (rw rb hb)))
      go (no d) = ap (λ (y : ℕ). ltb y max_sites) (off_b z d)

  before : (z : ℕ) → up (set p b a) z < max_sites → up p z < max_sites
  before z h = go (ℕ_discrete z b)
    where
      go : Dec (z ≡ b) → up p z < max_sites
      go (yes e) = subst⁻¹ (λ (y : ℕ). up p y < max_sites) e (rw rb hb)
      go (no d) = rw (off_b z d) at h

  after : (z : ℕ) → up p z < max_sites → up (set p b a) z < max_sites
  after z h = go (ℕ_discrete z b)
    where
      go : Dec (z ≡ b) → up (set p b a) z < max_sites
      go (yes e) = subst⁻¹ (λ (y : ℕ). up (set p b a) y < max_sites) e (rw at_b ha)
      go (no d) = rw (off_b z d) h

  closed_after : (z : ℕ) → z < max_sites → up (set p b a) z < max_sites → up (set p b a) (up (set p b a) z) < max_sites
  closed_after z h j = after (up (set p b a) z) (go (ℕ_discrete z b))
    where
      go : Dec (z ≡ b) → up p (up (set p b a) z) < max_sites
      go (yes e) = subst⁻¹ (λ (y : ℕ). up p (up (set p b a) y) < max_sites) e (subst⁻¹ (λ (y : ℕ). up p y < max_sites) at_b (rw ra ha))
      go (no d) = subst⁻¹ (λ (y : ℕ). up p y < max_sites) (off_b z d) (W.closed z h (before z j))

  -- Q has the ranks afterwards: as before but at a, where it may have grown
  module _ (Q : List ℕ) (lq : length Q ≡ max_sites) (oq : (z : ℕ) → (z ≡ a → ⊥) → rank Q z ≡ rank R z) (gq : rank R a ≤ rank Q a)
      (bq : rank R b < rank Q a) (tq : rank Q a ≤ log_sites) (mq : 2 ^ rank Q a ≤ members p a + members p b) where
    grows : (z : ℕ) → rank R z ≤ rank Q z
    grows z = go (ℕ_discrete z a)
      where
        go : Dec (z ≡ a) → rank R z ≤ rank Q z
        go (yes e) = subst⁻¹ (λ (y : ℕ). rank R y ≤ rank Q y) e gq
        go (no d) = omega (arith, oq z d)

    rise_after : (z : ℕ) → z < max_sites → up (set p b a) z < max_sites → (up (set p b a) z ≡ z → ⊥) → rank Q z < rank Q (up (set p b a) z)
    rise_after z h j d = go (ℕ_discrete z b)
      where
        go : Dec (z ≡ b) → rank Q z < rank Q (up (set p b a) z)
        go (yes e) =
            subst⁻¹ (λ (y : ℕ). rank Q y < rank Q (up (set p b a) y)) e
            (omega (arith, ap (rank Q) at_b, oq b (λ q. n (sym q)), bq))
        go (no o) =
            let m : up p z ≡ z → ⊥ = λ q. d (off_b z o ∙ q) in
            omega (arith, W.rise z h (before z j) m, grows (up p z), ap (rank Q) (off_b z o), oq z (λ q. m (subst⁻¹ (λ (y : ℕ). up p y ≡ y) q ra)))

    low_after : (z : ℕ) → z < max_sites → up (set p b a) z < max_sites → rank Q z ≤ log_sites
    low_after z h j = go (ℕ_discrete z a)
      where
        go : Dec (z ≡ a) → rank Q z ≤ log_sites
        go (yes e) = omega (arith, ap (rank Q) e)
        go (no d) = omega (arith, oq z d, W.low z h (before z j))

    big_after : (r : ℕ) → r < max_sites → up (set p b a) r ≡ r → 2 ^ rank Q r ≤ members (set p b a) r
    big_after r h e = go (ℕ_discrete r a) (ℕ_discrete r b)
      where
        go : Dec (r ≡ a) → Dec (r ≡ b) → 2 ^ rank Q r ≤ members (set p b a) r
        go (yes q) d =
            subst⁻¹ (λ (y : ℕ). 2 ^ rank Q y ≤ members (set p b a) y) q (subst⁻¹ (λ (k : ℕ). 2 ^ rank Q a ≤ k) members_a mq)
        go (no d) (yes q) = absurd (n (sym at_b ∙ subst (λ (y : ℕ). up (set p b a) y ≡ y) q e))
        go (no d) (no o) =
            subst⁻¹ (λ (k : ℕ). 2 ^ k ≤ members (set p b a) r) (oq r d)
            (subst⁻¹ (λ (k : ℕ). 2 ^ rank R r ≤ k) (members_other r d o) (W.big r h (sym (off_b r o) ∙ e)))

    pub link_well : Well (set p b a) Q c
    link_well = record {
      len = length-set p b a ∙ W.len;
      rlen = lq;
      closed = closed_after;
      rise = rise_after;
      low = low_after;
      big = big_after;
      tally = W.tally ∙ sym (cnt_ext (has_up (set p b a)) (has_up p) max_sites (λ z l. same_ups z));
    }

-- A join as 01 says it, of the equivalence `rep p u ≡ rep p v`.
use mathlib.Core.Path.{◌≡◌, refl, sym, ◌∙◌, ap}
use mathlib.Core.Logic.{◌⊎◌, inl, inr, ⊎_elim}
use mathlib.Core.List.{List}
use mathlib.Core.Bool.{Bool, true, false, ◌||◌}
use Prim.Native.Nat.{ℕ, ◌+◌, ◌≤◌, ◌<◌}
use native.Mathlib.Omega.{arith}
use native.Mathlib.Decide.{ℕ_discrete, dec_lt}
use lib.Dec.{eqb}
use borrow.Author.Tests.{lt-ltb, le-ltb, eq-eqb, ne_eqb}
use Rattle.std.specs.declared.option.Option.TheVariants.{None, Some}
use Rattle.paper.specs.Answered.{Maybe}
use Rattle.std.specs.Prelude.{if◌then◌else◌}
use Rattle.paper.specs.Numbers.{max_sites}
use Rattle.paper.specs.Classes.{up, find_in, Trail, Classes, enter, unite}
use Rattle.classes.specs.Well.{Well, rank, turned, WellMade, rep_of, winner, loser, alone_as, cnt, bit, has_up}
use Rattle.classes.specs.Answers.{or_self, rep}
use Rattle.classes.specs.Equal.{class_count, Only, before, forth, back, Unites}
use Rattle.classes.proofs.Counting.{cnt_add, cnt_one}
use Rattle.classes.proofs.Leading.{find_leads, find_out, find_none, is_root}
use Rattle.classes.proofs.Linked.{Case, outside, lone, led, case, found_leads}
use Rattle.classes.proofs.Merging.{Turned, link_turned, Entered, enter_entered, root_of}

-- a find at a root answers it
pub root_found : (p : List ℕ) (r : ℕ) → r < max_sites → up p r ≡ r → (find_in p r).found ≡ Some r
root_found p r h e = ap (λ (t : Trail). t.found) (find_leads 0 p r r (omega arith) (h, e, refl))

-- a joined site is one that a find answers of
abbrev pub is_joined : Maybe ℕ → Bool
is_joined (Some s) = true
is_joined None = false

pub joined_has : (c : Classes) → WellMade c → (z : ℕ) → z < max_sites → has_up c.parents z ≡ is_joined (rep_of c z)
joined_has c W z h = go (case c.parents c.ranks c.count W z)
  where
    go : Case c.parents c.ranks z → has_up c.parents z ≡ is_joined (rep_of c z)
    go (outside o) = absurd (omega arith)
    go (lone l g) = le-ltb _ _ g ∙ sym (ap (λ (t : Trail). is_joined t.found) (find_none c.parents z l g))
    go (led n r t b k l j) = lt-ltb _ _ j ∙ sym (ap (λ (t : Trail). is_joined t.found) (find_leads n c.parents z r (omega arith) t))

turned_joined : (a b : ℕ) (f : Maybe ℕ) → is_joined (turned a b f) ≡ is_joined f
turned_joined a b (Some s) = refl
turned_joined a b None = refl

alone_joined : (x z : ℕ) (f : Maybe ℕ) → is_joined (alone_as x z f) ≡ (is_joined f || eqb z x)
alone_joined x z (Some s) = refl
alone_joined x z None = go (eqb z x)
  where
    go : (t : Bool) → is_joined (if t then Some x else None) ≡ (false || t)
    go true = refl
    go false = refl

or_assoc : (a b d : Bool) → ((a || b) || d) ≡ (a || (b || d))
or_assoc true b d = refl
or_assoc false b d = refl

-- a representative is its own
module _ (p R : List ℕ) (n : ℕ) (W : Well p R n) where
  pub rep_rep : (x : ℕ) → rep p (rep p x) ≡ rep p x
  unfolding rep
  rep_rep x = go (find_in p x).found refl
    where
      go : (f : Maybe ℕ) → (find_in p x).found ≡ f → or_self (or_self x f) (find_in p (or_self x f)).found ≡ or_self x f
      go (Some r) e =
          let i = found_leads p R n W x r e in
          let q = is_root i.0 p x r i.1 in
          ap (or_self r) (root_found p r q.0 q.1)
      go None e = ap (or_self x) e

  pub rep_inside : (x : ℕ) → x < max_sites → rep p x < max_sites
  unfolding rep
  rep_inside x h = go (find_in p x).found refl
    where
      go : (f : Maybe ℕ) → (find_in p x).found ≡ f → or_self x f < max_sites
      go (Some r) e =
          let i = found_leads p R n W x r e in (is_root i.0 p x r i.1).0
      go None e = h

-- one value of a function onto representatives gives way to another
module _ (f g : ℕ → ℕ) (a b : ℕ) (fa : f a ≡ a) (fb : f b ≡ b) (G : (z : ℕ) → g z ≡ (if eqb (f z) b then a else f z)) where
  at_b : (z : ℕ) → f z ≡ b → g z ≡ a
  at_b z e = G z ∙ simp (eq-eqb (f z) b e)

  off_b : (z : ℕ) → (f z ≡ b → ⊥) → g z ≡ f z
  off_b z d = G z ∙ simp (ne_eqb (f z) b d)

  turn_grows : (u v : ℕ) → f u ≡ f v → g u ≡ g v
  turn_grows u v e = G u ∙ (rw e (sym (G v)))

  turn_joins : g a ≡ g b
  turn_joins = go (ℕ_discrete a b)
    where
      go : Dec (a ≡ b) → g a ≡ g b
      go (yes e) = ap g e
      go (no d) = off_b a (λ e. d (sym fa ∙ e)) ∙ (fa ∙ sym (at_b b fb))

  turn_same : a ≡ b → (z : ℕ) → g z ≡ f z
  turn_same e z = go (ℕ_discrete (f z) b)
    where
      go : Dec (f z ≡ b) → g z ≡ f z
      go (yes q) = at_b z q ∙ (e ∙ sym q)
      go (no d) = off_b z d

  turn_only : (u v : ℕ) → g u ≡ g v → (f u ≡ f v) ⊎ (((f u ≡ a) × (f v ≡ b)) ⊎ ((f u ≡ b) × (f v ≡ a)))
  turn_only u v e = go (ℕ_discrete (f u) b) (ℕ_discrete (f v) b)
    where
      go : Dec (f u ≡ b) → Dec (f v ≡ b) → (f u ≡ f v) ⊎ (((f u ≡ a) × (f v ≡ b)) ⊎ ((f u ≡ b) × (f v ≡ a)))
      go (yes p) (yes q) = inl (p ∙ sym q)
      go (yes p) (no q) = inr (inr (p, sym (off_b v q) ∙ (sym e ∙ at_b u p)))
      go (no p) (yes q) = inr (inl (sym (off_b u p) ∙ (e ∙ at_b v q), q))
      go (no p) (no q) = inl (sym (off_b u p) ∙ (e ∙ off_b v q))

  turn_bit : (a ≡ b → ⊥) → (z : ℕ) → bit (eqb (f z) z) ≡ bit (eqb (g z) z) + bit (eqb z b)
  turn_bit n z = go (ℕ_discrete (f z) b) (ℕ_discrete z b)
    where
      go : Dec (f z ≡ b) → Dec (z ≡ b) → bit (eqb (f z) z) ≡ bit (eqb (g z) z) + bit (eqb z b)
      go (yes p) (yes q) =
          omega (arith, ap bit (eq-eqb (f z) z (p ∙ sym q)), ap bit (eq-eqb z b q), ap bit (ne_eqb (g z) z (λ e. n (sym (at_b z p) ∙ (e ∙ q)))))
      go (yes p) (no q) =
          let za : z ≡ a → ⊥ = λ e. n (sym fa ∙ (ap f (sym e) ∙ p)) in
          omega (arith, ap bit (ne_eqb (f z) z (λ e. q (sym e ∙ p))), ap bit (ne_eqb z b q), ap bit (ne_eqb (g z) z (λ e. za (sym e ∙ at_b z p))))
      go (no p) (yes q) = absurd (p (ap f q ∙ (fb ∙ refl)))
      go (no p) (no q) = omega (arith, ap (λ (k : ℕ). bit (eqb k z)) (off_b z p), ap bit (ne_eqb z b q))

  turn_fewer : (a ≡ b → ⊥) → b < max_sites → cnt (λ z. eqb (f z) z) max_sites ≡ cnt (λ z. eqb (g z) z) max_sites + 1
  turn_fewer n h =
      let k = cnt_add (λ z. eqb (f z) z) (λ z. eqb (g z) z) (λ z. eqb z b) max_sites (λ z l. turn_bit n z) in
      omega (arith, k, cnt_one b max_sites h)

-- the answers after a join, as representatives
alone_same : (x z : ℕ) (f : Maybe ℕ) → or_self z (alone_as x z f) ≡ or_self z f
alone_same x z (Some s) = refl
alone_same x z None = go (ℕ_discrete z x)
  where
    go : Dec (z ≡ x) → or_self z (if eqb z x then Some x else None) ≡ z
    go (yes e) = simp (eq-eqb z x e) (sym e)
    go (no d) = simp (ne_eqb z x d)

turned_rep : (a b z : ℕ) (f : Maybe ℕ) → (f ≡ None → z ≡ b → ⊥) → or_self z (turned a b f) ≡ (if eqb (or_self z f) b then a else or_self z f)
turned_rep a b z (Some s) h = refl
turned_rep a b z None h = simp (ne_eqb z b (h refl))

module _ (c : Classes) (W : WellMade c) (x y : ℕ) (hx : x < max_sites) (hy : y < max_sites) where
  -- the two roots are the representatives
  E : Entered c (enter c x).after x (enter c x).root
  E = enter_entered c W x hx

  F : Entered (enter c x).after (enter (enter c x).after y).after y (enter (enter c x).after y).root
  F = enter_entered (enter c x).after E.well y hy

  t : Classes
  t = (enter (enter c x).after y).after

  t_rep : (z : ℕ) → rep t.parents z ≡ rep c.parents z
  unfolding rep t
  t_rep z = ap (or_self z) (F.found z ∙ ap (alone_as y z) (E.found z)) ∙ (alone_same y z (alone_as x z (rep_of c z)) ∙ alone_same x z (rep_of c z))

  pub root_x : (enter c x).root ≡ rep c.parents x
  unfolding rep
  root_x = sym (sym (alone_same x x (rep_of c x)) ∙ ap (or_self x) (sym (E.found x) ∙ E.mine))

  pub root_y : (enter (enter c x).after y).root ≡ rep c.parents y
  unfolding rep t
  root_y = sym (sym (t_rep y) ∙ ap (or_self y) F.mine)

  T : Turned t (unite c x y) (winner t (enter c x).root (enter (enter c x).after y).root) (loser t (enter c x).root (enter (enter c x).after y).root)
  unfolding unite t
  T =
      let m = F.found x ∙ ap (alone_as y x) E.mine in
      let p = root_of t F.well x (enter c x).root m in
      let q = root_of t F.well y (enter (enter c x).after y).root F.mine in
      link_turned t F.well (enter c x).root (enter (enter c x).after y).root p.0 p.1 q.0 q.1

  f : ℕ → ℕ
  f = rep c.parents

  g : ℕ → ℕ
  g = rep (unite c x y).parents

  -- the one that stays a root, and the other
  module _ (a b : ℕ) (ends : ((a ≡ f x) × (b ≡ f y)) ⊎ ((a ≡ f y) × (b ≡ f x))) (U : Turned t (unite c x y) a b) where
    fix : (z w : ℕ) → z ≡ f w → f z ≡ z
    unfolding f
    fix z w e = rw e (rep_rep c.parents c.ranks c.count W w)

    fa : f a ≡ a
    fa = ⊎_elim (λ h. fix a x h.0) (λ h. fix a y h.0) ends

    fb : f b ≡ b
    fb = ⊎_elim (λ h. fix b y h.1) (λ h. fix b x h.1) ends

    low : b < max_sites
    unfolding f
    low =
        ⊎_elim (λ h. rw h.1 (rep_inside c.parents c.ranks c.count W y hy))
        (λ h. rw h.1 (rep_inside c.parents c.ranks c.count W x hx)) ends

    -- the loser is in a class
    in_class : rep_of t b ≡ None → ⊥
    unfolding t f
    in_class e = ⊎_elim (λ h. by y F.mine (h.1 ∙ sym root_y)) (λ h. by x (F.found x ∙ ap (alone_as y x) E.mine) (h.1 ∙ sym root_x)) ends
      where
        by : (z : ℕ) {s : ℕ} → rep_of t z ≡ Some s → b ≡ s → ⊥
        by z {s} m q =
            let k = root_of t F.well z s m in
            let o = root_found t.parents s k.0 k.1 in
            let n : rep_of t s ≡ None = rw q at e in
            let z : ◌≡◌ {A = ℕ} 0 1 = cc in omega arith

    turns : (z : ℕ) → g z ≡ (if eqb (f z) b then a else f z)
    unfolding g f rep
    turns z =
        ap (or_self z) (U.found z)
        ∙ (turned_rep a b z (rep_of t z) (λ e o. in_class (rw o at e))
        ∙ ap (λ (k : ℕ). (if eqb k b then a else k)) (t_rep z))

    named : (u v : ℕ) → (f u ≡ f v) ⊎ (((f u ≡ a) × (f v ≡ b)) ⊎ ((f u ≡ b) × (f v ≡ a))) → Only c.parents x y u v
    unfolding f
    named u v (inl e) = before e
    named u v (inr (inl e)) = ⊎_elim (λ h. forth (e.0 ∙ h.0) (e.1 ∙ h.1)) (λ h. back (e.0 ∙ h.0) (e.1 ∙ h.1)) ends
    named u v (inr (inr e)) = ⊎_elim (λ h. back (e.0 ∙ h.1) (e.1 ∙ h.0)) (λ h. forth (e.0 ∙ h.1) (e.1 ∙ h.0)) ends

    enters : (z : ℕ) → z < max_sites → has_up (unite c x y).parents z ≡ (has_up c.parents z || (eqb z x || eqb z y))
    unfolding t
    enters z h =
        joined_has (unite c x y) U.well z h
        ∙ (ap is_joined (U.found z)
        ∙ (turned_joined a b (rep_of t z)
        ∙ (ap is_joined (F.found z)
        ∙ (alone_joined y z (rep_of (enter c x).after z)
        ∙ (ap (λ (f : Maybe ℕ). is_joined f || eqb z y) (E.found z)
        ∙ (ap (λ (b : Bool). b || eqb z y) (alone_joined x z (rep_of c z))
        ∙ (or_assoc (is_joined (rep_of c z)) (eqb z x) (eqb z y)
        ∙ ap (λ (b : Bool). b || (eqb z x || eqb z y)) (sym (joined_has c W z h)))))))))

    unites_by : (k : Bool) → (k ≡ false → a ≡ b) → (k ≡ true → a ≡ b → ⊥)
        → Unites c (unite c x y) x y k
    unfolding f g class_count
    unites_by k h l = record {
      well = U.well;
      joins = ⊎_elim (λ e. both x y e.0 e.1) (λ e. sym (both y x e.0 e.1)) ends;
      grows = turn_grows f g a b fa fb turns;
      only = λ u v e. named u v (turn_only f g a b fa fb turns u v e);
      entered = enters;
      same = λ o. turn_same f g a b fa fb turns (h o);
      fewer = λ o. turn_fewer f g a b fa fb turns (l o) low;
    }
      where
        both : (z w : ℕ) → a ≡ f z → b ≡ f w → g z ≡ g w
        both z w e o =
            turn_grows f g a b fa fb turns z a (sym (fa ∙ e))
            ∙ (turn_joins f g a b fa fb turns ∙ turn_grows f g a b fa fb turns b w (fb ∙ o))

  pub unites : (k : Bool) → (k ≡ false → (enter c x).root ≡ (enter (enter c x).after y).root)
      → (k ≡ true → (enter c x).root ≡ (enter (enter c x).after y).root → ⊥)
      → Unites c (unite c x y) x y k
  unfolding f
  unites k h l = go (dec_lt (rank t.ranks (enter c x).root) (rank t.ranks (enter (enter c x).after y).root))
    where
      go : Dec (rank t.ranks (enter c x).root < rank t.ranks (enter (enter c x).after y).root) → Unites c (unite c x y) x y k
      go (yes q) =
          unites_by (enter (enter c x).after y).root (enter c x).root (inr (root_y, root_x)) (simp (lt-ltb _ _ q) at T) k (λ e. sym (h e)) (λ e o. l e (sym o))
      go (no q) =
          unites_by (enter c x).root (enter (enter c x).after y).root (inl (root_x, root_y)) (simp (le-ltb (rank t.ranks (enter c x).root) (rank t.ranks (enter (enter c x).after y).root) (omega arith)) at T) k h l

pub rep_outside : (p : List ℕ) (x : ℕ) → max_sites ≤ x → rep p x ≡ x
unfolding rep
rep_outside p x h = ap (λ (t : Trail). or_self x t.found) (find_out p x h)

pub rep_lone : (p : List ℕ) (x : ℕ) → x < max_sites → max_sites ≤ up p x → rep p x ≡ x
unfolding rep
rep_lone p x h g = ap (λ (t : Trail). or_self x t.found) (find_none p x h g)

-- The two steps of a join keep a state well made: a site enters a class, and one root goes under another.
use mathlib.Core.Path.{◌≡◌, refl, sym, ◌∙◌, ap, subst⁻¹}
use mathlib.Core.Bool.{Bool, false}
use Prim.Native.Nat.{ℕ, zero, suc, ◌+◌, ◌*◌, ◌^◌, ◌≤◌, ◌<◌}
use native.Mathlib.Omega.{arith}
use native.Mathlib.Decide.{ℕ_discrete, dec_lt}
use lib.ListN.{set, length-set, replicate, length-replicate, get_or-replicate}
use lib.Seq.{get_or-set_same, get_or-set_other}
use lib.Dec.{ltb, eqb}
use lib.Pow.{pow-lt, pow-add}
use borrow.Author.Tests.{lt-ltb, le-ltb, eq-eqb, ne_eqb}
use Rattle.std.specs.declared.option.Option.TheVariants.{None, Some}
use Rattle.paper.specs.Answered.{Maybe}
use Rattle.std.specs.Prelude.{if◌then◌else◌}
use Rattle.paper.specs.Numbers.{max_sites}
use Rattle.paper.specs.Classes.{up, Classes, classes, no_classes, flattened, one_more, most_rank, alone, rooted, enter, link, under, raised}
use Rattle.classes.specs.Well.{log_sites, rank, members, in_class, turned, WellMade, rep_of, winner, loser, alone_as, has_up, cnt, bit}
use Rattle.classes.proofs.Counting.{cnt_le}
use Rattle.classes.proofs.Leading.{find_leads, is_root}
use Rattle.classes.proofs.Linked.{Case, outside, lone, led, case, found_leads}
use Rattle.classes.proofs.Flattening.{Kept, flattened_kept, flattened_found}
use Rattle.classes.proofs.Entering.{enter_well, found_x, found_off}
use Rattle.classes.proofs.Linking.{link_well, found_after, members_a}

-- a power of two that is at most max-sites has an exponent of at most log-sites
pub log_le : (k : ℕ) → 2 ^ k ≤ max_sites → k ≤ log_sites
log_le k h = go (dec_lt log_sites k)
  where
    go : Dec (log_sites < k) → k ≤ log_sites
    go (yes l) = absurd (omega (arith, pow-lt l))
    go (no d) = omega arith

twice : (k : ℕ) → 2 ^ (k + 1) ≡ 2 ^ k + 2 ^ k
twice k = let e : 2 ^ k * 2 ≡ 2 ^ k + 2 ^ k = omega arith in pow-add 2 k 1 ∙ e

-- d is well made, and finds on it answer as on c after the root b went under a
pub record Turned (c d : Classes) (a b : ℕ) : Type 0 where
  pub well : WellMade d
  pub found : (z : ℕ) → rep_of d z ≡ turned a b (rep_of c z)

turned_self : (a b : ℕ) → a ≡ b → (f : Maybe ℕ) → f ≡ turned a b f
turned_self a b e None = refl
turned_self a b e (Some s) = go (ℕ_discrete s b)
  where
    go : Dec (s ≡ b) → Some s ≡ turned a b (Some s)
    go (yes q) = simp (eq-eqb s b q) (ap Some (q ∙ sym e))
    go (no d) = simp (ne_eqb s b d)

module _ (c : Classes) (W : WellMade c) where
  -- the lower of two roots goes under the higher
  under_turned : (a b : ℕ) → a < max_sites → up c.parents a ≡ a → b < max_sites → up c.parents b ≡ b
      → rank c.ranks b < rank c.ranks a → Turned c (under c b a) a b
  under_turned a b ha ra hb rb l =
      let n : a ≡ b → ⊥ = λ e. omega (arith, ap (rank c.ranks) e) in
      record {
        well =
            link_well c.parents c.ranks c.count W a b ha ra hb rb n c.ranks W.rlen (λ z d. refl) (omega arith) l
            (W.low a ha (rw ra ha)) (omega (arith, W.big a ha ra));
        found = found_after c.parents c.ranks c.count W a b ha ra hb rb n;
      }

  -- on a tie b goes under a, whose rank grows
  tie_turned : (a b : ℕ) → a < max_sites → up c.parents a ≡ a → b < max_sites → up c.parents b ≡ b → (a ≡ b → ⊥)
      → rank c.ranks a ≡ rank c.ranks b → Turned c (raised (under c b a) a) a b
  tie_turned a b ha ra hb rb n e =
      let R = c.ranks in
      let k = rank R a in
      let q : rank (set R a (k + 1)) a ≡ k + 1 = get_or-set_same R a (k + 1) 0 (omega (arith, W.rlen)) in
      let m : 2 ^ (k + 1) ≤ members c.parents a + members c.parents b =
      omega (arith, twice k, W.big a ha ra, ap (λ (j : ℕ). 2 ^ j) e, W.big b hb rb) in
      let t : k + 1 ≤ log_sites =
      log_le (k + 1)
      (omega (arith, m, members_a c.parents R c.count W a b ha ra hb rb n, cnt_le (in_class (set c.parents b a) a) max_sites)) in
      let s : one_more most_rank k ≡ k + 1 = omega (arith, t) in
      let T : Turned c (classes (set c.parents b a) (set R a (k + 1)) c.count) a b = record {
        well =
            link_well c.parents R c.count W a b ha ra hb rb n (set R a (k + 1)) (length-set R a (k + 1) ∙ W.rlen)
            (λ z d. get_or-set_other R a z (k + 1) 0 d) (omega (arith, q)) (omega (arith, q, e)) (omega (arith, q, t))
            (subst⁻¹ (λ (j : ℕ). 2 ^ j ≤ members c.parents a + members c.parents b) q m);
        found = found_after c.parents R c.count W a b ha ra hb rb n;
      } in
      rw s T

  pub link_turned : (a b : ℕ) → a < max_sites → up c.parents a ≡ a → b < max_sites → up c.parents b ≡ b
      → Turned c (link c a b) (winner c a b) (loser c a b)
  unfolding link
  link_turned a b ha ra hb rb = go (ℕ_discrete a b) (dec_lt (rank c.ranks a) (rank c.ranks b)) (ℕ_discrete (rank c.ranks a) (rank c.ranks b))
    where
      go : Dec (a ≡ b) → Dec (rank c.ranks a < rank c.ranks b) → Dec (rank c.ranks a ≡ rank c.ranks b)
          → Turned c (if eqb a b then c else
          (if ltb (rank c.ranks a) (rank c.ranks b) then under c a b else
          (if eqb (rank c.ranks a) (rank c.ranks b) then raised (under c b a) a else under c b a))) (winner c a b) (loser c a b)
      go (yes e) l t =
          simp (eq-eqb a b e, le-ltb (rank c.ranks a) (rank c.ranks b) (omega (arith, ap (rank c.ranks) e)))
          (record { well = W; found = λ z. turned_self a b e (rep_of c z) })
      go (no n) (yes l) t = simp (ne_eqb a b n, lt-ltb (rank c.ranks a) (rank c.ranks b) l) (under_turned b a hb rb ha ra l)
      go (no n) (no l) (yes t) =
          simp (
            ne_eqb a b n,
            le-ltb (rank c.ranks a) (rank c.ranks b) (omega arith),
            eq-eqb (rank c.ranks a) (rank c.ranks b) t,
          )
          (tie_turned a b ha ra hb rb n t)
      go (no n) (no l) (no t) =
          simp (ne_eqb a b n, le-ltb (rank c.ranks a) (rank c.ranks b) (omega arith), ne_eqb (rank c.ranks a) (rank c.ranks b) t)
          (under_turned a b ha ra hb rb (omega arith))

-- d is well made, r is x's root in it, and finds on it answer as on c, but that x is in a class
pub record Entered (c d : Classes) (x r : ℕ) : Type 0 where
  pub well : WellMade d
  pub found : (z : ℕ) → rep_of d z ≡ alone_as x z (rep_of c z)
  pub mine : rep_of d x ≡ Some r

-- the root that a find answers is a root
pub root_of : (c : Classes) → WellMade c → (x r : ℕ) → rep_of c x ≡ Some r → (r < max_sites) × (up c.parents r ≡ r)
root_of c W x r e =
    let i = found_leads c.parents c.ranks c.count W x r e in
    is_root i.0 c.parents x r i.1

module _ (c : Classes) (W : WellMade c) (x : ℕ) (hx : x < max_sites) where
  d : Classes
  d = (flattened c x).after

  K : Kept c.parents d.parents c.ranks c.count
  unfolding d flattened
  K = flattened_kept c.parents c.ranks c.count W x

  -- the state after the find is well made, and has the old ranks and count
  D : WellMade d
  unfolding d flattened
  D = K.well

  same : (z : ℕ) → rep_of d z ≡ rep_of c z
  same z = K.same z

  answer : (flattened c x).found ≡ rep_of c x
  unfolding flattened
  answer = flattened_found c.parents c.ranks c.count W x

  at_root : (r : ℕ) → rep_of c x ≡ Some r → Entered c d x r
  at_root r e = record { well = D; found = λ z. same z ∙ go z (rep_of c z) refl; mine = same x ∙ e }
    where
      go : (z : ℕ) (f : Maybe ℕ) → rep_of c z ≡ f → f ≡ alone_as x z f
      go z (Some s) q = refl
      go z None q = simp (ne_eqb z x (λ o. let w : rep_of c x ≡ None = ap (rep_of c) (sym o) ∙ q in let k : ◌≡◌ {A = ℕ} 0 1 = cc in omega arith))

  at_none : rep_of c x ≡ None → Entered c (alone d x) x x
  at_none e = record {
    well = enter_well d.parents d.ranks d.count D x hx no_up;
    found = λ z. go z (ℕ_discrete z x);
    mine = found_x d.parents d.ranks d.count D x hx no_up;
  }
    where
      no_up : max_sites ≤ up d.parents x
      no_up = by (case d.parents d.ranks d.count D x)
        where
          by : Case d.parents d.ranks x → max_sites ≤ up d.parents x
          by (outside h) = absurd (omega arith)
          by (lone h g) = g
          by (led n r t b k h j) =
              let f = find_leads n d.parents x r (omega arith) t in
              let s = same x in
              let z : ◌≡◌ {A = ℕ} 0 1 = cc in absurd (omega arith)

      go : (z : ℕ) → Dec (z ≡ x) → rep_of (alone d x) z ≡ alone_as x z (rep_of c z)
      go z (yes o) =
          subst⁻¹ (λ (y : ℕ). rep_of (alone d x) y ≡ alone_as x y (rep_of c y)) o
          (found_x d.parents d.ranks d.count D x hx no_up ∙ sym (ap (alone_as x x) e ∙ simp (eq-eqb x x refl)))
      go z (no o) = found_off d.parents d.ranks d.count D x hx no_up z o ∙ same z ∙ out (rep_of c z)
        where
          out : (f : Maybe ℕ) → f ≡ alone_as x z f
          out (Some s) = refl
          out None = simp (ne_eqb z x o)

  pub enter_entered : Entered c (enter c x).after x (enter c x).root
  unfolding enter d
  enter_entered = go (flattened c x).found (sym answer)
    where
      go : (f : Maybe ℕ) → rep_of c x ≡ f → Entered c (rooted (flattened c x).after x f).after x (rooted (flattened c x).after x f).root
      go (Some r) e = at_root r e
      go None e = at_none e

-- "Classes start empty": that state is well made
cnt_zero : (f : ℕ → Bool) (n : ℕ) → ((z : ℕ) → z < n → f z ≡ false) → cnt f n ≡ 0
unfolding cnt
cnt_zero f zero h = refl
cnt_zero f (suc n) h = omega (arith, ap bit (h n (omega arith)), cnt_zero f n (λ z l. h z (omega arith)))

pub empty_well : WellMade no_classes
empty_well = record {
  len = length-replicate {A = ℕ} max_sites max_sites;
  rlen = length-replicate {A = ℕ} max_sites 0;
  closed = λ x h j. absurd (none x h j);
  rise = λ x h j d. absurd (none x h j);
  low = λ x h j. absurd (none x h j);
  big = λ r h e. absurd (none r h (rw e h));
  tally = sym (cnt_zero (has_up (replicate max_sites max_sites)) max_sites (λ z l. le-ltb (up (replicate max_sites max_sites) z) max_sites (omega (arith, get_or-replicate {A = ℕ} max_sites z max_sites 0 l))));
}
  where
    none : (x : ℕ) → x < max_sites → up (replicate max_sites max_sites) x < max_sites → ⊥
    none x h j = omega (arith, get_or-replicate {A = ℕ} max_sites x max_sites 0 h)

-- The search of check 6: one root, one class, one start.
use mathlib.Core.Path.{◌≡◌, refl, sym, ◌∙◌, ap}
use mathlib.Core.List.{List}
use mathlib.Core.Bool.{true, false, not}
use mathlib.Core.Logic.{◌⊎◌, inl, inr}
use Prim.Native.Nat.{ℕ, zero, suc, ◌+◌, ◌≤◌, ◌<◌}
use native.Mathlib.Omega.{arith}
use native.Mathlib.Decide.{ℕ_discrete}
use lib.ListN.{get_or, set, length, length-set}
use lib.Seq.{get_or-set_same, get_or-set_other}
use lib.Dec.{eqb}
use borrow.Author.Count.{below_more}
use borrow.Author.Tests.{eq-eqb, ne_eqb, eqb-true, not-false}
use Rattle.paper.specs.Numbers.{max_sites, max_fields}
use Rattle.classes.specs.Answers.{rep}
use Rattle.classes.specs.Well.{cnt, bit}
use Rattle.classes.proofs.Counting.{cnt_mono, cnt_add, cnt_one, cnt_le}
use Rattle.rule_rows.specs.Holding.{Held, chart, kid_count, kid_in, row_of, count_of, kid_of}
use Rattle.rule_check.specs.Search.{Edge, Path, edge, then, Ready, Visited, Visit, old, new, Extends, Marks, Listed, Fresh}
use Rattle.rule_rows.proofs.Reading.{few_kids, kid_inside}

cnt_true : (n : ℕ) → cnt (λ y. true) n ≡ n
unfolding cnt
cnt_true zero = refl
cnt_true (suc n) = let h = cnt_true n in omega arith

pub extends_self : (seen queue : List ℕ) (tail : ℕ) → Extends seen queue tail seen queue tail
extends_self seen queue tail = record { longer = omega arith; listed = λ k l. refl; marked = λ z h. h }

pub extends_then : (s q : List ℕ) (t : ℕ) (s' q' : List ℕ) (t' : ℕ) (s'' q'' : List ℕ) (t'' : ℕ) → Extends s q t s' q' t' → Extends s' q' t' s'' q'' t'' → Extends s q t s'' q'' t''
extends_then s q t s' q' t' s'' q'' t'' A B =
    let a = A.longer in
    let b = B.longer in
    record {
      longer = omega arith;
      listed = λ k l. B.listed k (omega arith) ∙ A.listed k l;
      marked = λ z h. B.marked z (A.marked z h);
    }

module _ (H : Held) (p boss : List ℕ) where
  path_then : {a b d : ℕ} → Path H p boss a b → Edge H p boss b d → Path H p boss a d
  path_then (edge e) g = then e (edge g)
  path_then (then e w) g = then e (path_then w g)

  module _ (l : ℕ) (seen queue : List ℕ) (tail : ℕ) (X : Visited H p boss l seen queue tail) where
    pub has_room : (z : ℕ) → z < max_sites → get_or seen z 0 ≡ 0 → tail < max_sites
    has_room z h e =
        let c = cnt_mono (λ y. eqb y z) (λ y. eqb (get_or seen y 0) 0) max_sites (λ y k. by y (ℕ_discrete y z)) in
        let o = cnt_one z max_sites h in
        let r = X.room in
        omega arith
      where
        by : (y : ℕ) → Dec (y ≡ z) → bit (eqb y z) ≤ bit (eqb (get_or seen y 0) 0)
        by y (yes q) = let u = ap bit (eq-eqb y z q) in let v = ap bit (eq-eqb (get_or seen y 0) 0 (ap (λ (k : ℕ). get_or seen k 0) q ∙ e)) in omega arith
        by y (no d) = let u = ap bit (ne_eqb y z d) in omega arith

    pub tail_le : tail ≤ max_sites
    tail_le = let r = X.room in omega arith

    pub visit_step : (z : ℕ) → z < max_sites → Path H p boss l z → (s' q' : List ℕ) (t' : ℕ) → Visit seen queue tail z s' q' t'
        → Visited H p boss l s' q' t' × Extends seen queue tail s' q' t' × (get_or s' z 0 ≡ 0 → ⊥)
    visit_step z h w s' q' t' (old n es eq et) = rw (es, eq, et) (X, extends_self seen queue tail, n)
    visit_step z h w s' q' t' (new e es eq et) = rw (es, eq, et) (visited, extends, marked_z)
      where
        tl : tail < max_sites
        tl = has_room z h e

        same_s : get_or (set seen z 1) z 0 ≡ 1
        same_s = let g = X.seen_long in get_or-set_same seen z 1 0 (omega arith)

        other_s : (y : ℕ) → (y ≡ z → ⊥) → get_or (set seen z 1) y 0 ≡ get_or seen y 0
        other_s y d = get_or-set_other seen z y 1 0 d

        same_q : get_or (set queue tail z) tail 0 ≡ z
        same_q = let g = X.queue_long in let t = tl in get_or-set_same queue tail z 0 (omega arith)

        other_q : (k : ℕ) → k < tail → get_or (set queue tail z) k 0 ≡ get_or queue k 0
        other_q k g = get_or-set_other queue tail k z 0 (λ o. omega arith)

        marked_z : get_or (set seen z 1) z 0 ≡ 0 → ⊥
        marked_z o = let g = same_s in omega arith

        bits : (y : ℕ) → Dec (y ≡ z) → bit (eqb (get_or seen y 0) 0) ≡ bit (eqb (get_or (set seen z 1) y 0) 0) + bit (eqb y z)
        bits y (yes q) =
            let u = ap bit (eq-eqb y z q) in
            let v = ap bit (eq-eqb (get_or seen y 0) 0 (ap (λ (k : ℕ). get_or seen k 0) q ∙ e)) in
            let v2 = ap bit (ne_eqb (get_or (set seen z 1) y 0) 0 (λ o. marked_z (ap (λ (k : ℕ). get_or (set seen z 1) k 0) (sym q) ∙ o))) in
            omega arith
        bits y (no d) =
            let u = ap bit (ne_eqb y z d) in
            let v = ap (λ (k : ℕ). bit (eqb k 0)) (other_s y d) in
            omega arith

        extends : Extends seen queue tail (set seen z 1) (set queue tail z) (tail + 1)
        extends = record { longer = omega arith; listed = other_q; marked = λ y n. by y n (ℕ_discrete y z) }
          where
            by : (y : ℕ) → (get_or seen y 0 ≡ 0 → ⊥) → Dec (y ≡ z) → get_or (set seen z 1) y 0 ≡ 0 → ⊥
            by y n (yes q) o = marked_z (ap (λ (k : ℕ). get_or (set seen z 1) k 0) (sym q) ∙ o)
            by y n (no d) o = n (sym (other_s y d) ∙ o)

        visited : Visited H p boss l (set seen z 1) (set queue tail z) (tail + 1)
        visited = record {
          seen_long = length-set seen z 1 ∙ X.seen_long;
          queue_long = length-set queue tail z ∙ X.queue_long;
          room =
              let c = cnt_add (λ y. eqb (get_or seen y 0) 0) (λ y. eqb (get_or (set seen z 1) y 0) 0) (λ y. eqb y z) max_sites (λ y k. bits y (ℕ_discrete y z)) in
              let o = cnt_one z max_sites h in
              let r = X.room in
              omega arith;
          sites = below_more _ _ (λ k g. rw (other_q k g) (X.sites k g)) (rw same_q h);
          sound = below_more _ _ (λ k g. rw (other_q k g) (X.sound k g)) (rw same_q w);
          found = λ y g n. by y g n (ℕ_discrete y z);
        }
          where
            by : (y : ℕ) → y < max_sites → (get_or (set seen z 1) y 0 ≡ 0 → ⊥) → Dec (y ≡ z) → (k : ℕ) × (k < tail + 1) × (get_or (set queue tail z) k 0 ≡ y)
            by y g n (yes q) = (tail, omega arith, same_q ∙ sym q)
            by y g n (no d) =
                let w = X.found y g (λ o. n (other_s y d ∙ o)) in
                (w.0, (let k = w.1 in omega arith), other_q w.0 w.1 ∙ w.2)

  -- the children of a class
  module _ (Q : Ready p H.kids) (x : ℕ) (hx : x < max_sites) (hb : get_or boss x 0 < max_sites) where
    pub kid_site : (f : ℕ) → rep p (kid_of H (get_or boss x 0) f) < max_sites
    kid_site f = Q.reps.inside (kid_of H (get_or boss x 0) f) (kid_inside H.kids (row_of H (get_or boss x 0)) f Q.inside)

    pub kid_path : (l f : ℕ) → f < count_of H (get_or boss x 0) → (x ≡ l) ⊎ Path H p boss l x → Path H p boss l (rep p (kid_of H (get_or boss x 0) f))
    kid_path l f h (inl e) = rw (← e) (edge (record { root = hx; there = hb; place = f; in_range = h; to = refl }))
    kid_path l f h (inr w) = path_then w (record { root = hx; there = hb; place = f; in_range = h; to = refl })

    pub kids_marks : (seen : List ℕ) → ((f : ℕ) → f < count_of H (get_or boss x 0) → get_or seen (rep p (kid_of H (get_or boss x 0) f)) 0 ≡ 0 → ⊥) → Marks H p boss seen x
    kids_marks seen h y e o = h e.place e.in_range (ap (λ (k : ℕ). get_or seen k 0) (sym e.to) ∙ o)

  pub no_marks : (seen : List ℕ) (x : ℕ) → max_sites ≤ get_or boss x 0 → Marks H p boss seen x
  no_marks seen x h y e o = let t = e.there in omega arith

  -- the start
  pub visited_none : (l : ℕ) (seen queue : List ℕ) → Fresh seen queue → Visited H p boss l seen queue 0
  visited_none l seen queue F = record {
    seen_long = F.seen_long;
    queue_long = F.queue_long;
    room =
        let c = cnt_mono (λ y. true) (λ y. eqb (get_or seen y 0) 0) max_sites (λ y k. let u = ap bit (eq-eqb (get_or seen y 0) 0 (F.clean y k)) in omega arith) in
        let d = cnt_le (λ y. eqb (get_or seen y 0) 0) max_sites in
        let e = cnt_true max_sites in
        omega arith;
    sites = λ k g. absurd (omega arith);
    sound = λ k g. absurd (omega arith);
    found = λ z h n. absurd (n (F.clean z h));
  }

  pub visited_listed : (l : ℕ) (seen queue : List ℕ) (tail : ℕ) → Visited H p boss l seen queue tail → Listed seen queue tail
  visited_listed l seen queue tail X = record {
    seen_long = X.seen_long;
    queue_long = X.queue_long;
    few = tail_le l seen queue tail X;
    sites = X.sites;
    found = X.found;
  }

  -- the end: a closed set of marks holds all that is reached
  module _ (l : ℕ) (seen queue : List ℕ) (tail : ℕ) (X : Visited H p boss l seen queue tail) (first : Marks H p boss seen l)
      (D : (k : ℕ) → k < tail → Marks H p boss seen (get_or queue k 0)) (Q : Ready p H.kids) where
    all_marked : (a : ℕ) → Marks H p boss seen a → {b : ℕ} → Path H p boss a b → get_or seen b 0 ≡ 0 → ⊥
    all_marked a m (edge e) = m _ e
    all_marked a m (then {b = b} e g) =
        let w = X.found b (rw e.to (kid_site Q a e.root e.there e.place)) (m b e) in
        all_marked b (rw w.2 at (D w.0 w.1)) g

    pub path_marked : Path H p boss l l → get_or seen l 0 ≡ 0 → ⊥
    path_marked w = all_marked l first w

  pub marked_path : (l : ℕ) (seen queue : List ℕ) (tail : ℕ) → Visited H p boss l seen queue tail → l < max_sites → (get_or seen l 0 ≡ 0 → ⊥) → Path H p boss l l
  marked_path l seen queue tail X h n = let w = X.found l h n in rw w.2 at (X.sound w.0 w.1)

-- the body of children: i, a and m are x, the boss of x and the number of its children
pub record ChildrenTo (H : Held) (p boss : List ℕ) (l : ℕ) (seen queue : List ℕ) (tail x : ℕ) (seen' queue' : List ℕ) (tail' f : ℕ) : Type 0 where
  pub visited : Visited H p boss l seen' queue' tail'
  pub extends : Extends seen queue tail seen' queue' tail'
  pub marks : (g : ℕ) → g < f → get_or seen' (rep p (kid_of H (get_or boss x 0) g)) 0 ≡ 0 → ⊥

pub children_none : (H : Held) (p boss : List ℕ) (l : ℕ) (seen queue : List ℕ) (tail x : ℕ) → Visited H p boss l seen queue tail
    → ChildrenTo H p boss l seen queue tail x seen queue tail 0
children_none H p boss l seen queue tail x X = record { visited = X; extends = extends_self seen queue tail; marks = λ g h. absurd (omega arith) }

module _ (rows words kids p boss : List ℕ) (Q : Ready p kids) (x : ℕ) (hx : x < max_sites) (v b i : ℕ) (ev : v ≡ x) (hb : get_or boss v 0 < max_sites) (eb : b ≡ get_or boss v 0)
    (ei : i ≡ get_or rows b 0) where
  abbrev H : Held
  H = chart rows words kids

  hb' : get_or boss x 0 < max_sites
  hb' = rw ev at hb

  row_is : i ≡ row_of H (get_or boss x 0)
  row_is = ei ∙ ap (λ (u : ℕ). get_or rows u 0) (eb ∙ ap (λ (u : ℕ). get_or boss u 0) ev)

  module _ (m : ℕ) (em : m ≡ kid_count words i) where
    em' : m ≡ count_of H (get_or boss x 0)
    em' = em ∙ ap (kid_count words) row_is

    pub few_fields : m ≤ max_fields
    few_fields = rw em (few_kids words i)

    module _ (f k z : ℕ) (ek : k ≡ kid_in kids i f) (ez : z ≡ rep p k) where
      root_is : z ≡ rep p (kid_of H (get_or boss x 0) f)
      root_is = ez ∙ (ap (rep p) ek ∙ ap (λ (u : ℕ). rep p (kid_in kids u f)) row_is)

      pub root_site : z < max_sites
      root_site = rw root_is (kid_site H p boss Q x hx hb' f)

      pub children_step : (l : ℕ) (s q : List ℕ) (t : ℕ) (s' q' : List ℕ) (t' : ℕ) (s'' q'' : List ℕ) (t'' : ℕ) → (x ≡ l) ⊎ Path H p boss l x → f < m
          → ChildrenTo H p boss l s q t x s' q' t' f → Visit s' q' t' z s'' q'' t'' → ChildrenTo H p boss l s q t x s'' q'' t'' (f + 1)
      children_step l s q t s' q' t' s'' q'' t'' r h C w =
          let h' : f < count_of H (get_or boss x 0) = rw em' at h in
          let W = visit_step H p boss l s' q' t' C.visited (rep p (kid_of H (get_or boss x 0) f)) (kid_site H p boss Q x hx hb' f) (kid_path H p boss Q x hx hb' l f h' r) s'' q'' t'' (rw root_is at w) in
          record {
            visited = W.0;
            extends = extends_then s q t s' q' t' s'' q'' t'' C.extends W.1;
            marks = below_more _ _ (λ g a. W.1.marked (rep p (kid_of H (get_or boss x 0) g)) (C.marks g a)) W.2;
          }

    pub children_done : (l : ℕ) (s q : List ℕ) (t : ℕ) (s' q' : List ℕ) (t' f : ℕ) → f ≡ m → ChildrenTo H p boss l s q t x s' q' t' f
        → Visited H p boss l s' q' t' × (Extends s q t s' q' t' × Marks H p boss s' x)
    children_done l s q t s' q' t' f e C = (C.visited, (C.extends, kids_marks H p boss Q x hx hb' s' (λ g h. C.marks g (let a = em' in omega arith))))

-- the loop of returning: the first head of queue have their children marked
pub record SearchTo (H : Held) (p boss : List ℕ) (l : ℕ) (seen queue : List ℕ) (tail head : ℕ) : Type 0 where
  pub visited : Visited H p boss l seen queue tail
  pub within : head ≤ tail
  pub first : Marks H p boss seen l
  pub done : (k : ℕ) → k < head → Marks H p boss seen (get_or queue k 0)

module _ (H : Held) (p boss : List ℕ) (l : ℕ) where
  pub search_start : (seen queue : List ℕ) (tail : ℕ) → Visited H p boss l seen queue tail → Marks H p boss seen l → SearchTo H p boss l seen queue tail 0
  search_start seen queue tail X m = record { visited = X; within = omega arith; first = m; done = λ k h. absurd (omega arith) }

  pub search_step : (s q : List ℕ) (t h : ℕ) (s' q' : List ℕ) (t' : ℕ) → SearchTo H p boss l s q t h → h < t → Visited H p boss l s' q' t' → Extends s q t s' q' t'
      → Marks H p boss s' (get_or q h 0) → SearchTo H p boss l s' q' t' (h + 1)
  search_step s q t h s' q' t' S b X E m = record {
    visited = X;
    within = let a = E.longer in omega arith;
    first = λ y e. E.marked y (S.first y e);
    done = below_more _ _ (λ k g. rw (E.listed k (omega arith)) (λ y e. E.marked y (S.done k g y e))) (rw (E.listed h b) m);
  }

  pub search_told : Ready p H.kids → (s q : List ℕ) (t h i : ℕ) → SearchTo H p boss l s q t h → h ≡ t → l < max_sites → i ≡ l
      → (not (eqb (get_or s i 0) 0) ≡ true → Path H p boss l l) × (not (eqb (get_or s i 0) 0) ≡ false → Path H p boss l l → ⊥)
  search_told Q s q t h i S e hl ei = rw ei (
    (λ o. marked_path H p boss l s q t S.visited hl (λ z. let k = ap not (eq-eqb (get_or s l 0) 0 z) in let w : ◌≡◌ {A = ℕ} 0 1 = cc in omega arith)),
    (λ o w. path_marked H p boss l s q t S.visited S.first (λ k b. S.done k (omega arith)) Q w (eqb-true (get_or s l 0) 0 (not-false (eqb (get_or s l 0) 0) o))),
  )

-- a class without a holder leads nowhere
pub no_holder : (H : Held) (p boss : List ℕ) (l i : ℕ) → i ≡ l → max_sites ≤ get_or boss i 0 → (false ≡ true → Path H p boss l l) × (false ≡ false → Path H p boss l l → ⊥)
no_holder H p boss l i e h = (λ o. let z : ◌≡◌ {A = ℕ} 0 1 = cc in absurd (omega arith), λ _ w. let k : max_sites ≤ get_or boss l 0 = rw e at h in go k w)
  where
    go : {a b : ℕ} → max_sites ≤ get_or boss a 0 → Path H p boss a b → ⊥
    go k (edge e) = let t = e.there in omega arith
    go k (then e w) = let t = e.there in omega arith

-- the loop of wipe: what is marked stands in queue from i on
pub record WipedTo (seen queue : List ℕ) (tail i : ℕ) : Type 0 where
  pub seen_long : length seen ≡ max_sites
  pub found : (z : ℕ) → z < max_sites → (get_or seen z 0 ≡ 0 → ⊥) → (k : ℕ) × (i ≤ k) × (k < tail) × (get_or queue k 0 ≡ z)

pub wiped_none : (seen queue : List ℕ) (tail : ℕ) → Listed seen queue tail → WipedTo seen queue tail 0
wiped_none seen queue tail L = record { seen_long = L.seen_long; found = λ z h n. let w = L.found z h n in (w.0, omega arith, w.1, w.2) }

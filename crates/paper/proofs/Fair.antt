-- The states that the rounds pass through are fair: what the items leave is (`load_fair`), and a round keeps it so (`round_fair`). After a round
-- a site is joined only if it was, outside the dissolved class, or is a child of a member of that class (`joined_after`).
use mathlib.Core.Path.{◌≡◌, refl, sym, ap, ◌∙◌}
use mathlib.Core.Bool.{not}
use mathlib.Core.Option.{Option, none, some}
use mathlib.Core.Logic.{◌⊎◌, inl, inr}
use mathlib.Core.List.Memᴰ
use mathlib.Core.List.{List, [], ◌∷◌, Memᴰ}
use Prim.Native.Nat.{ℕ, suc, ◌<◌}
use native.Mathlib.Omega.{arith}
use native.Mathlib.Decide.{ℕ_discrete}
use lib.ListN.{length, get_elem?}
use lib.Dec.{eqb, leb}
use borrow.Author.Tests.{ltb-true}
use Rattle.paper.specs.declared.Constraint.{Constraint}
use Rattle.paper.specs.declared.Item.{Item}
use Rattle.paper.specs.declared.Item.TheVariants.{Is, Equal}
use Rattle.paper.specs.declared.Refusal.TheVariants.{Unknown, Unreachable, TooManyFields}
use Rattle.paper.specs.Words.{look, put}
use Rattle.paper.specs.Numbers.{max_fields, done}
use Rattle.paper.specs.Sites.{Sites, Sound, same_constraint, fields, child, child_count, children, child_number, known, add_all, Extends}
use Rattle.paper.specs.Loading.{Loading, Labels, Constraints, Solving, join_all, members, others, dissolve, like_children, constrain, load_item, load_items, give_all, grow_all, join_children, round, started, no_items}
use Rattle.paper.proofs.Labels.{never, put_here, put_there}
use Rattle.paper.proofs.Closure.{of_below, in_below}
use Rattle.paper.proofs.Outcomes.{done_once, bind_done, demand_done}
use Rattle.paper.proofs.Adding.{Has, get_inside, extends_length, child_there, add_all_sound, add_all_extends, add_all_has}
use Rattle.paper.proofs.Tables.{of_keep, Rising, put_rising, Fine, fine_more, none_fine, join_all_fine, of_members, in_members, dissolve_fine}

-- a constrained site is a site, and its children are there
pub record Grown (t : Sites) (n : ℕ) (c : Constraint) : Type 0 where
  pub inside : n < length t
  pub children : (i : ℕ) → i < child_count c → Has t (child n c i)

-- sound sites; sound labels, ascending, of sites that are there; the constraints ascending, each with its children
pub record Fair (s : Solving) : Type 0 where
  pub sites : Sound s.sites
  pub classes : Fine (λ n. n < length s.sites) s.classes
  pub ascending : Rising 0 s.constraints
  pub grown : (n : ℕ) (c : Constraint) → look s.constraints n ≡ some c → Grown s.sites n c

grown_more : (t u : Sites) (n : ℕ) (c : Constraint) → Extends t u → Grown t n c → Grown u n c
grown_more t u n c x G = record {
  inside = let l = extends_length t u x in let h = G.inside in omega arith;
  children = λ i h. let y = G.children i h in (y.0, x y.0 (child n c i) y.1);
}

in_children : (n : ℕ) (c : Constraint) (i : ℕ) → i < child_count c → Memᴰ (child n c i) (children n c)
unfolding children
in_children n c i h = in_below (child_count c) (child n c) i h

-- one more constraint, with the children added
put_grown : (t u : Sites) (cs : Constraints) (s : ℕ) (c : Constraint) → Extends t u → Grown u s c → ((n : ℕ) (d : Constraint) → look cs n ≡ some d → Grown t n d) → (n : ℕ) (d : Constraint) → look (put s c cs) n ≡ some d → Grown u n d
put_grown t u cs s c x G h n d e = go (ℕ_discrete s n)
  where
    go : Dec (s ≡ n) → Grown u n d
    go (yes q) = let y = put_here s c cs in let w : look (put s c cs) s ≡ some d = ap (look (put s c cs)) q ∙ e in let z : c ≡ d = cc in rw (← q, ← z) G
    go (no q) = grown_more t u n d x (h n d (sym (put_there s n c cs q) ∙ e))

-- ---- what the items leave

-- a rule on its way: as fair, and its equalities are of sites that are there
pub record Loaded (l : Loading) : Type 0 where
  pub sites : Sound l.sites
  pub equal : (p : ℕ × ℕ) → Memᴰ p l.equalities → (p.0 < length l.sites) × (p.1 < length l.sites)
  pub ascending : Rising 0 l.constraints
  pub grown : (n : ℕ) (c : Constraint) → look l.constraints n ≡ some c → Grown l.sites n c

pub load_item_loaded : (l : Loading) (at : ℕ) (i : Item) (l' : Loading) → Loaded l → load_item l at i ≡ done l' → Loaded l'
unfolding load_item known
load_item_loaded l at (Is s c) l' L e =
    let x = demand_done (known l.sites s) (Unknown s) _ l' e in
    let y = demand_done (leb (fields c) max_fields) (TooManyFields (fields c) at) _ l' x.1 in
    go (ltb-true s (length l.sites) x.0) (look l.constraints s) y.1
  where
    go : s < length l.sites → (o : Option Constraint) → constrain l at s c o ≡ done l' → Loaded l'
    go h none f =
        let x = bind_done (add_all l.sites at (children s c)) _ l' f in
        let q = done_once x.2 in
        let more = add_all_extends l.sites at (children s c) x.0 x.1 in
        let longer = extends_length l.sites x.0 more in
        let G : Grown x.0 s c = record { inside = omega arith; children = λ i r. add_all_has l.sites at (children s c) x.0 x.1 (child s c i) (in_children s c i r) } in
        rw (← q) (record {
          sites = add_all_sound l.sites at (children s c) x.0 L.sites x.1;
          equal = λ p m. let w = L.equal p m in (omega arith, omega arith);
          ascending = put_rising 0 s c l.constraints (omega arith) L.ascending;
          grown = put_grown l.sites x.0 l.constraints s c more G L.grown;
        })
    go h (some d) f =
        let x = demand_done (same_constraint c d) (Unreachable s s) _ l' f in
        let q = done_once x.1 in
        rw (← q) (record { sites = L.sites; equal = L.equal; ascending = L.ascending; grown = L.grown })
load_item_loaded l at (Equal a b) l' L e =
    let x = demand_done (known l.sites a) (Unknown a) _ l' e in
    let y = demand_done (known l.sites b) (Unknown b) _ l' x.1 in
    let q = done_once y.1 in
    let ha = ltb-true a (length l.sites) x.0 in
    let hb = ltb-true b (length l.sites) y.0 in
    rw (← q) (record { sites = L.sites; equal = λ p m. go ha hb p (Memᴰ.append_cases l.equalities m); ascending = L.ascending; grown = L.grown })
  where
    go : a < length l.sites → b < length l.sites → (p : ℕ × ℕ) → Memᴰ p l.equalities ⊎ Memᴰ p ((a, b) ∷ []) → (p.0 < length l.sites) × (p.1 < length l.sites)
    go ha hb p (inl m) = L.equal p m
    go ha hb p (inr m) = let z = Memᴰ.eq_of_singleton m in rw z (ha, hb)

pub load_items_loaded : (l : Loading) (at : ℕ) (is : List Item) (l' : Loading) → Loaded l → load_items l at is ≡ done l' → Loaded l'
unfolding load_items
load_items_loaded l at [] l' L e = let q = done_once e in rw (← q) L
load_items_loaded l at (i ∷ is) l' L e =
    let x = bind_done (load_item l at i) (λ m. load_items m (suc at) is) l' e in
    load_items_loaded x.0 (suc at) is l' (load_item_loaded l at i x.0 L x.1) x.2

pub started_fair : (l : Loading) → Loaded l → Fair (started l)
started_fair l L = record { sites = L.sites; classes = join_all_fine [] l.equalities L.equal none_fine; ascending = L.ascending; grown = L.grown }

pub load_fair : (t : Sites) (at : ℕ) (is : List Item) (l : Loading) → Sound t → load_items (no_items t) at is ≡ done l → Fair (started l)
unfolding look
load_fair t at is l S e = started_fair l (load_items_loaded (no_items t) at is l (record { sites = S; equal = λ p m. elim m [ ]; ascending = tt; grown = λ n c q. absurd (never q) }) e)

-- ---- a round

pub grow_all_sound : (t : Sites) (at : ℕ) (ns : List ℕ) (c : Constraint) (u : Sites) → Sound t → grow_all t at ns c ≡ done u → Sound u
unfolding grow_all
grow_all_sound t at [] c u S e = let q = done_once e in rw (← q) S
grow_all_sound t at (n ∷ ns) c u S e =
    let x = bind_done (add_all t at (children n c)) (λ v. grow_all v at ns c) u e in
    grow_all_sound x.0 at ns c u (add_all_sound t at (children n c) x.0 S x.1) x.2

pub grow_all_extends : (t : Sites) (at : ℕ) (ns : List ℕ) (c : Constraint) (u : Sites) → grow_all t at ns c ≡ done u → Extends t u
unfolding grow_all
grow_all_extends t at [] c u e = let q = done_once e in λ n s f. rw (← q) f
grow_all_extends t at (m ∷ ns) c u e =
    let x = bind_done (add_all t at (children m c)) (λ v. grow_all v at ns c) u e in
    λ n s f. grow_all_extends x.0 at ns c u x.2 n s (add_all_extends t at (children m c) x.0 x.1 n s f)

pub grow_all_has : (t : Sites) (at : ℕ) (ns : List ℕ) (c : Constraint) (u : Sites) → grow_all t at ns c ≡ done u → (n : ℕ) → Memᴰ n ns → (i : ℕ) → i < child_count c → Has u (child n c i)
unfolding grow_all
grow_all_has t at [] c u e n m i h = elim m [ ]
grow_all_has t at (k ∷ ns) c u e n (Memᴰ.head q) i h =
    let x = bind_done (add_all t at (children k c)) (λ v. grow_all v at ns c) u e in
    let y = add_all_has t at (children k c) x.0 x.1 (child k c i) (in_children k c i h) in
    (y.0, rw q (grow_all_extends x.0 at ns c u x.2 y.0 (child k c i) y.1))
grow_all_has t at (k ∷ ns) c u e n (Memᴰ.tail q) i h = let x = bind_done (add_all t at (children k c)) (λ v. grow_all v at ns c) u e in grow_all_has x.0 at ns c u x.2 n q i h

give_rising : (ns : List ℕ) (c : Constraint) (cs : Constraints) → Rising 0 cs → Rising 0 (give_all ns c cs)
unfolding give_all
give_rising [] c cs r = r
give_rising (n ∷ ns) c cs r = give_rising ns c (put n c cs) (put_rising 0 n c cs (omega arith) r)

give_grown : (u : Sites) (ns : List ℕ) (c : Constraint) (cs : Constraints) → ((n : ℕ) → Memᴰ n ns → Grown u n c) → ((n : ℕ) (d : Constraint) → look cs n ≡ some d → Grown u n d) → (n : ℕ) (d : Constraint) → look (give_all ns c cs) n ≡ some d → Grown u n d
unfolding give_all
give_grown u [] c cs g h = h
give_grown u (m ∷ ns) c cs g h = give_grown u ns c (put m c cs) (λ n q. g n (Memᴰ.tail q)) (put_grown u u cs m c (λ n s e. e) (g m (Memᴰ.head refl)) h)

join_children_fine : {P : ℕ → Type 0} (t : Sites) (low : ℕ) (c : Constraint) (ns : List ℕ) (k : Labels) → ((m : ℕ) → Memᴰ m (low ∷ ns) → (i : ℕ) → i < child_count c → P (child_number t m c i)) → Fine P k → Fine P (join_children t low c ns k)
unfolding join_children like_children
join_children_fine t low c [] k h F = F
join_children_fine {P} t low c (n ∷ ns) k h F = join_children_fine t low c ns (join_all k (like_children t low n c)) (λ m q. h m (skip m q)) (join_all_fine k (like_children t low n c) pair F)
  where
    skip : (m : ℕ) → Memᴰ m (low ∷ ns) → Memᴰ m (low ∷ n ∷ ns)
    skip m (Memᴰ.head q) = Memᴰ.head q
    skip m (Memᴰ.tail q) = Memᴰ.tail (Memᴰ.tail q)

    pair : (p : ℕ × ℕ) → Memᴰ p (like_children t low n c) → P p.0 × P p.1
    pair p q =
        let r = of_below (child_count c) (λ i. (child_number t low c i, child_number t n c i)) p q in
        rw r.2 (h low (Memᴰ.head refl) r.0 r.1, h n (Memᴰ.tail (Memᴰ.head refl)) r.0 r.1)

-- why a site is joined after a round
pub data Why (k : Labels) (low : ℕ) (t : Sites) (n : ℕ) : Type 0 where
  stayed : (v : ℕ) → look k n ≡ some v → (v ≡ low → ⊥) → Why k low t n
  child_of : (m : ℕ) (c : Constraint) (i : ℕ) → look k m ≡ some low → get_elem? t n ≡ some (child m c i) → Why k low t n

-- a round that is not refused, of a class whose lowest member is `low`
module _ (s : Solving) (F : Fair s) (at low : ℕ) (c : Constraint) (s' : Solving) (own : look s.classes low ≡ some low) (e : round s at low c ≡ done s') where
  parts : (grow_all s.sites at (members s.classes low) c ≡ done s'.sites) × (s'.constraints ≡ give_all (members s.classes low) c s.constraints) × (s'.classes ≡ join_children s'.sites low c (others s.classes low) (dissolve s.classes low))
  unfolding round
  parts = let x = bind_done (grow_all s.sites at (members s.classes low) c) _ s' e in let q = done_once x.2 in rw (← q) (x.1, refl, refl)

  pub round_extends : Extends s.sites s'.sites
  round_extends = grow_all_extends s.sites at (members s.classes low) c s'.sites parts.0

  round_has : (m : ℕ) → look s.classes m ≡ some low → (i : ℕ) → i < child_count c → Has s'.sites (child m c i)
  round_has m q i h = grow_all_has s.sites at (members s.classes low) c s'.sites parts.0 m (in_members s.classes low m q) i h

  -- the members whose children are joined
  joining : (m : ℕ) → Memᴰ m (low ∷ others s.classes low) → look s.classes m ≡ some low
  unfolding others
  joining m (Memᴰ.head q) = rw q own
  joining m (Memᴰ.tail q) = of_members s.classes low m F.classes.rising (of_keep (λ n. not (eqb n low)) (members s.classes low) m q).0

  pub joined_after : Fine (Why s.classes low s'.sites) s'.classes
  joined_after = rw parts.2 (join_children_fine s'.sites low c (others s.classes low) (dissolve s.classes low)
      (λ m q i h. child_of m c i (joining m q) (child_there s'.sites m c i (round_has m (joining m q) i h)))
      (dissolve_fine s.classes low F.classes (λ n v f d. stayed v f d)))

  inside_after : (n : ℕ) → Why s.classes low s'.sites n → n < length s'.sites
  inside_after n (stayed v f d) = let l = extends_length s.sites s'.sites round_extends in let h = F.classes.within n v f in omega arith
  inside_after n (child_of m d i f g) = get_inside s'.sites n (child m d i) g

  pub round_fair : Fair s'
  round_fair = record {
    sites = grow_all_sound s.sites at (members s.classes low) c s'.sites F.sites parts.0;
    classes = fine_more s'.classes inside_after joined_after;
    ascending = rw parts.1 (give_rising (members s.classes low) c s.constraints F.ascending);
    grown = rw parts.1 (give_grown s'.sites (members s.classes low) c s.constraints member_grown (λ n d q. grown_more s.sites s'.sites n d round_extends (F.grown n d q)));
  }
    where
      member_grown : (n : ℕ) → Memᴰ n (members s.classes low) → Grown s'.sites n c
      member_grown n m =
          let q = of_members s.classes low n F.classes.rising m in
          let h = F.classes.within n low q in
          let l = extends_length s.sites s'.sites round_extends in
          record { inside = omega arith; children = λ i r. round_has n q i r }

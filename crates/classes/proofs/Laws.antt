-- The laws of 01's class calls, on what calls made.
use mathlib.Core.Path.{◌≡◌, refl, sym, ◌∙◌, ap, subst, subst⁻¹, fun_ext}
use mathlib.Core.List.Memᴰ
use mathlib.Core.List.{List, [], ◌∷◌, Memᴰ}
use mathlib.Core.Bool.{Bool, true, false, not, ◌&&◌, ◌||◌}
use Prim.Native.Nat.{ℕ, ◌^◌, ◌≤◌, ◌<◌}
use native.Mathlib.Omega.{arith}
use native.Mathlib.Nat.{le_trans}
use native.Mathlib.Decide.{ℕ_discrete, dec_lt}
use lib.Dec.{ltb, eqb}
use lib.ListN.{get_or-replicate}
use borrow.Author.Tests.{ltb-true, eqb-false, eq-eqb, ne_eqb, le-ltb}
use Rattle.std.specs.declared.option.Option.TheVariants.{None, Some}
use Rattle.paper.specs.Answered.{Maybe}
use Rattle.paper.specs.Words.{any, has, keep, below}
use Rattle.paper.specs.Numbers.{max_sites, Outcome, done, refused}
use Rattle.paper.specs.Classes.{Classes, no_classes, up, Trail, find_in, passed, flatten_in, is_at, Flattened, flattened, find, find_mut, enter, unite, merge, Removed, remove_at, remove_set_of}
use Rattle.paper.proofs.Joins.{Gen, base, self, back, via, gen_map, gen-same}
use Rattle.classes.specs.Answers.{rep, two_classes}
use Rattle.classes.specs.Well.{log_sites, Leads, WellMade, members, has_up, in_class, cnt, rep_of, dropped}
use Rattle.classes.specs.Equal as Q
use Rattle.classes.specs.Made as M
use Rattle.classes.proofs.Counting.{cnt_ext, cnt_le}
use Rattle.classes.proofs.Linked.{found_leads, links_log}
use Rattle.classes.proofs.Flattening.{flattened_kept, flattened_found}
use Rattle.classes.proofs.Shortening.{links_fewer, passed_one}
use Rattle.classes.proofs.Merging.{log_le, empty_well}
use Rattle.classes.proofs.Uniting.{unites, root_x, root_y, rep_outside, rep_lone, is_joined, joined_has}
use Rattle.classes.proofs.Removal.{takes_out}

and_true : (b : Bool) → b ≡ (b && true)
and_true true = refl
and_true false = refl

has_none : (z : ℕ) → has [] z ≡ false
unfolding has any
has_none z = refl

-- ---- what it means that a call was done

pub never : {A : Type 0} {B : Type 0} {e : _} {b : B} → ◌≡◌ {A = Outcome B} (refused e) (done b) → A
never e = absurd (let z : ◌≡◌ {A = ℕ} 0 1 = cc in omega arith)

pub same_done : {A : Type 0} {a b : A} → done a ≡ done b → a ≡ b
same_done e = cc

pub record Merges (c : Classes) (x y : ℕ) (d : Classes) : Type 0 where
  pub first : x < max_sites
  pub second : y < max_sites
  pub apart : x ≡ y → ⊥
  pub is : d ≡ unite c x y

pub merge_is : (c : Classes) (x y : ℕ) (d : Classes) → merge c x y ≡ done d → Merges c x y d
unfolding merge
merge_is c x y d e = go (ltb x max_sites) refl (ltb y max_sites) refl (eqb x y) refl
  where
    go : (a : Bool) → ltb x max_sites ≡ a → (b : Bool) → ltb y max_sites ≡ b → (s : Bool) → eqb x y ≡ s → Merges c x y d
    go true p true q false r = record {
      first = ltb-true x max_sites p;
      second = ltb-true y max_sites q;
      apart = eqb-false x y r;
      is = sym (same_done (simp (p, q, r) at e));
    }
    go true p true q true r = never (simp (p, q, r) at e)
    go true p false q s r = never (simp (p, q) at e)
    go false p b q s r = never (simp p at e)

pub find_is : (c : Classes) (x : ℕ) (t : Trail) → find c x ≡ done t → (x < max_sites) × (t ≡ find_in c.parents x)
unfolding find
find_is c x t e = go (ltb x max_sites) refl
  where
    go : (a : Bool) → ltb x max_sites ≡ a → (x < max_sites) × (t ≡ find_in c.parents x)
    go true p = (ltb-true x max_sites p, sym (same_done (simp p at e)))
    go false p = never (simp p at e)

pub find_mut_is : (c : Classes) (x : ℕ) (h : Flattened) → find_mut c x ≡ done h → (x < max_sites) × (h ≡ flattened c x)
unfolding find_mut
find_mut_is c x h e = go (ltb x max_sites) refl
  where
    go : (a : Bool) → ltb x max_sites ≡ a → (x < max_sites) × (h ≡ flattened c x)
    go true p = (ltb-true x max_sites p, sym (same_done (simp p at e)))
    go false p = never (simp p at e)

pub remove_is : (c : Classes) (x : ℕ) (q : Removed) → remove_set_of c x ≡ done q
    → (x < max_sites) × (q ≡ remove_at (flattened c x).after (flattened c x).found)
unfolding remove_set_of
remove_is c x q e = go (ltb x max_sites) refl
  where
    go : (a : Bool) → ltb x max_sites ≡ a → (x < max_sites) × (q ≡ remove_at (flattened c x).after (flattened c x).found)
    go true p = (ltb-true x max_sites p, sym (same_done (simp p at e)))
    go false p = never (simp p at e)

-- ---- finds

module _ (c : Classes) (W : WellMade c) (x : ℕ) where
  -- the links reported are the links of the chain to the root, and at most log2 of the class's members, rounded down: at most ten
  pub find_links : (t : Trail) (r : ℕ) → find c x ≡ done t → t.found ≡ Some r
      → Leads t.links c.parents x r × (2 ^ t.links ≤ members c.parents r) × (t.links ≤ log_sites)
  find_links t r e f =
      let q = (find_is c x t e).1 in
      let g : (find_in c.parents x).found ≡ Some r = sym (ap (λ (t : Trail). t.found) q) ∙ f in
      let l = found_leads c.parents c.ranks c.count W x r g in
      let o : t.links ≡ l.0 = ap (λ (t : Trail). t.links) q ∙ l.3 in
      let m : 2 ^ t.links ≤ members c.parents r = rw q (links_log c.parents c.ranks c.count W x r g) in
      (rw o l.1, m, log_le t.links (le_trans m (cnt_le (in_class c.parents r) max_sites)))

  flattened_keeps : WellMade (flattened c x).after × ((flattened c x).found ≡ rep_of c x) × ((z : ℕ) → rep_of (flattened c x).after z ≡ rep_of c z)
  unfolding flattened
  flattened_keeps =
      let K = flattened_kept c.parents c.ranks c.count W x in
      (K.well, flattened_found c.parents c.ranks c.count W x, K.same)

  -- an updating find answers as the plain one does, and changes no representative
  pub find_mut_keeps : (h : Flattened) → find_mut c x ≡ done h
      → WellMade h.after × (h.found ≡ rep_of c x) × ((z : ℕ) → rep_of h.after z ≡ rep_of c z)
  find_mut_keeps h e =
      subst⁻¹ (λ (h : Flattened). WellMade h.after × (h.found ≡ rep_of c x) × ((z : ℕ) → rep_of h.after z ≡ rep_of c z)) (find_mut_is c x h e).1 flattened_keeps

  -- 02 [2]: it makes no way longer, and a site that it passed has at most one link
  pub find_mut_links : (h : Flattened) → find_mut c x ≡ done h → (z : ℕ) → (find_in h.after.parents z).links ≤ (find_in c.parents z).links
  unfolding flattened flatten_in
  find_mut_links h e z =
      subst⁻¹ (λ (h : Flattened). (find_in h.after.parents z).links ≤ (find_in c.parents z).links) (find_mut_is c x h e).1
      (links_fewer c.parents c.ranks c.count W x z)

  pub find_mut_passed : (h : Flattened) (r : ℕ) → find_mut c x ≡ done h → rep_of c x ≡ Some r
      → (y : ℕ) → has (passed (find_in c.parents x).links c.parents x) y ≡ true → (find_in h.after.parents y).links ≤ 1
  unfolding flattened flatten_in
  find_mut_passed h r e f y o =
      subst⁻¹ (λ (h : Flattened). (find_in h.after.parents y).links ≤ 1) (find_mut_is c x h e).1
      (passed_one c.parents c.ranks c.count W x r f y o)

  has_same : (z : ℕ) → z < max_sites → has_up (flattened c x).after.parents z ≡ has_up c.parents z
  has_same z h =
      joined_has (flattened c x).after flattened_keeps.0 z h ∙ (ap is_joined (flattened_keeps.2 z) ∙ sym (joined_has c W z h))

-- ---- joins

not_same : (a b : ℕ) → not (eqb a b) ≡ false → a ≡ b
not_same a b e = go (ℕ_discrete a b)
  where
    go : Dec (a ≡ b) → a ≡ b
    go (yes q) = q
    go (no d) = let k = ap not (ne_eqb a b d) in let z : ◌≡◌ {A = ℕ} 0 1 = cc in absurd (omega arith)

not_other : (a b : ℕ) → not (eqb a b) ≡ true → a ≡ b → ⊥
not_other a b e q = let k = ap not (eq-eqb a b q) in let z : ◌≡◌ {A = ℕ} 0 1 = cc in omega arith

module _ (c : Classes) (W : WellMade c) (x y : ℕ) where
  -- a join joins exactly the two classes, and keeps the state well made
  pub unite_unites : x < max_sites → y < max_sites → Q.Unites c (unite c x y) x y (two_classes c x y)
  unfolding two_classes
  unite_unites hx hy =
      unites c W x y hx hy (two_classes c x y)
      (λ e. not_same (enter c x).root (enter (enter c x).after y).root e)
      (λ e. not_other (enter c x).root (enter (enter c x).after y).root e)

  pub merge_unites : (d : Classes) → merge c x y ≡ done d → Q.Unites c d x y (two_classes c x y)
  merge_unites d e =
      let m = merge_is c x y d e in
      subst⁻¹ (λ (d : Classes). Q.Unites c d x y (two_classes c x y)) m.is (unite_unites m.first m.second)

  -- what the join tells: whether the two had different representatives
  pub two_classes_is : x < max_sites → y < max_sites → two_classes c x y ≡ not (eqb (rep c.parents x) (rep c.parents y))
  unfolding two_classes
  two_classes_is hx hy = rw (root_x c W x y hx hy, root_y c W x y hx hy)

-- ---- removals

-- what a removal lists and leaves: of a class, exactly its members; of a site in no class, nothing
pub record Leaves (c : Classes) (q : Removed) : Type 0 where
  pub well : WellMade q.after
  pub none : q.members ≡ []
  pub found : (z : ℕ) → rep_of q.after z ≡ rep_of c z

module _ (c : Classes) (W : WellMade c) (x : ℕ) (q : Removed) (e : remove_set_of c x ≡ done q) where
  d : Classes
  d = (flattened c x).after

  D : WellMade d
  unfolding d
  D = (flattened_keeps c W x).0

  same : (z : ℕ) → rep_of d z ≡ rep_of c z
  unfolding d
  same = (flattened_keeps c W x).2

  by : (f : Maybe ℕ) → rep_of c x ≡ f → q ≡ remove_at d f
  unfolding d
  by f o = (remove_is c x q e).1 ∙ ap (remove_at (flattened c x).after) ((flattened_keeps c W x).1 ∙ o)

  same_list : (k r : ℕ) → Q.sites_below k d.parents r ≡ Q.sites_below k c.parents r
  unfolding Q.sites_below d
  same_list k r = ap (λ (f : ℕ → Bool). keep f (below k (λ z. z))) (fun_ext (λ z. ap (λ (f : Maybe ℕ). is_at f (Some r)) ((flattened_keeps c W x).2 z)))

  pub remove_takes : (r : ℕ) → rep_of c x ≡ Some r → Q.TakesOut c r q
  unfolding d
  remove_takes r o = subst⁻¹ (λ (q : Removed). Q.TakesOut c r q) (by (Some r) o) takes
    where
      T : Q.TakesOut d r (remove_at d (Some r))
      T = takes_out d D r

      takes : Q.TakesOut c r (remove_at d (Some r))
      takes = record {
        well = T.well;
        found = λ z. T.found z ∙ ap (dropped r) (same z);
        list = T.list ∙ same_list max_sites r;
        size = T.size ∙ cnt_ext (in_class d.parents r) (in_class c.parents r) max_sites (λ z l. ap (λ (f : Maybe ℕ). is_at f (Some r)) (same z));
        direct = T.direct;
        leaves = λ z h. T.leaves z h ∙ ap (λ (b : Bool). b && not (has (remove_at d (Some r)).members z)) (has_same c W x z h);
      }

  pub remove_leaves : rep_of c x ≡ None → Leaves c q
  remove_leaves o = subst⁻¹ (λ (q : Removed). Leaves c q) (by None o) (record { well = D; none = refl; found = same })

  -- in either case
  pub remove_well : WellMade q.after × ((z : ℕ) → z < max_sites → has_up q.after.parents z ≡ (has_up c.parents z && not (has q.members z)))
  remove_well = go (rep_of c x) refl
    where
      nothing : (L : Leaves c q) (z : ℕ) → z < max_sites → has_up q.after.parents z ≡ (has_up c.parents z && not (has q.members z))
      nothing L z h =
          joined_has q.after L.well z h
          ∙ (ap is_joined (L.found z)
          ∙ (sym (joined_has c W z h)
          ∙ (and_true (has_up c.parents z) ∙ sym (ap (λ (b : Bool). has_up c.parents z && not b) (ap (λ (l : List ℕ). has l z) L.none ∙ has_none z)))))

      go : (f : Maybe ℕ) → rep_of c x ≡ f
          → WellMade q.after × ((z : ℕ) → z < max_sites → has_up q.after.parents z ≡ (has_up c.parents z && not (has q.members z)))
      go (Some r) o = let T = remove_takes r o in (T.well, T.leaves)
      go None o = let L = remove_leaves o in (L.well, nothing L)

-- ---- what calls made

module _ where
  -- every state that calls made is well made, and its joined sites are those joined since each was last removed
  pub made_well : {c : Classes} {j : ℕ → Bool} → M.Made c j → WellMade c × ((z : ℕ) → z < max_sites → has_up c.parents z ≡ j z)
  made_well M.begun = (empty_well, λ z h. le-ltb (up no_classes.parents z) max_sites (omega (arith, get_or-replicate {A = ℕ} max_sites z max_sites 0 h)))
  made_well (M.joined {c = c} {d = d} x y m e) =
      let i = made_well m in
      let U = merge_unites c i.0 x y d e in
      (U.well, λ z h. U.entered z h ∙ ap (λ (b : Bool). b || (eqb z x || eqb z y)) (i.1 z h))
  made_well (M.sought {c = c} {h = h} {j = j} x m e) =
      let i = made_well m in
      let k = (find_mut_is c x h e).1 in
      subst⁻¹ (λ (h : Flattened). WellMade h.after × ((z : ℕ) → z < max_sites → has_up h.after.parents z ≡ j z)) k
      ((flattened_keeps c i.0 x).0, λ z l. has_same c i.0 x z l ∙ i.1 z l)
  made_well (M.taken {c = c} {q = q} x m e) =
      let i = made_well m in
      let t = remove_well c i.0 x q e in
      (t.0, λ z h. t.1 z h ∙ ap (λ (b : Bool). b && not (has q.members z)) (i.1 z h))

-- "The member count equals the sites joined since each was last removed."
pub made_count : {c : Classes} {j : ℕ → Bool} → M.Made c j → c.count ≡ cnt j max_sites
made_count {c} {j} m = let i = made_well m in i.0.tally ∙ cnt_ext (has_up c.parents) j max_sites i.1

-- ---- the least equivalence

abbrev Listed : List (ℕ × ℕ) → ℕ → ℕ → Type 0
Listed ps a b = Memᴰ (a, b) ps

-- one of the pairs, or of one class before
pub data Base (c : Classes) (ps : List (ℕ × ℕ)) : ℕ → ℕ → Type 0 where
  was : {u v : ℕ} → rep c.parents u ≡ rep c.parents v → Base c ps u v
  listed : {u v : ℕ} → Listed ps u v → Base c ps u v

-- in no classes every site stands for itself
pub no_rep : (z : ℕ) → rep no_classes.parents z ≡ z
no_rep z = go (dec_lt z max_sites)
  where
    go : Dec (z < max_sites) → rep no_classes.parents z ≡ z
    go (yes h) = rep_lone no_classes.parents z h (omega (arith, get_or-replicate {A = ℕ} max_sites z max_sites 0 h))
    go (no d) = rep_outside no_classes.parents z (omega arith)

-- two classes became one
only_gen : (c : Classes) (x y u v : ℕ) (ps : List (ℕ × ℕ)) → Q.Only c.parents x y u v → Gen (Base c ((x, y) ∷ ps)) u v
only_gen c x y u v ps (Q.before q) = base (was q)
only_gen c x y u v ps (Q.forth q r) = via (base (was q)) (via (base (listed (Memᴰ.head refl))) (base (was (sym r))))
only_gen c x y u v ps (Q.back q r) = via (base (was q)) (via (back (base (listed (Memᴰ.head refl)))) (base (was (sym r))))

-- after a run of joins two sites are in one class exactly where the least equivalence that holds the pairs and the classes before has them
pub record Least (c d : Classes) (ps : List (ℕ × ℕ)) : Type 0 where
  pub well : WellMade d
  pub only : (u v : ℕ) → rep d.parents u ≡ rep d.parents v → Gen (Base c ps) u v
  pub holds : (u v : ℕ) → Gen (Base c ps) u v → rep d.parents u ≡ rep d.parents v

no_joins : (c : Classes) → WellMade c → Least c c []
no_joins c W = record { well = W; only = λ u v q. base (was q); holds = λ u v g. gen-same (rep c.parents) (λ a b. none a b) g }
  where
    none : (a b : ℕ) → Base c [] a b → rep c.parents a ≡ rep c.parents b
    none a b (was q) = q
    none a b (listed l) = absurd (Memᴰ.not-nil l)

one_join : (c m d : Classes) (x y : ℕ) (two : Bool) (ps : List (ℕ × ℕ)) → Q.Unites c m x y two → Least m d ps → Least c d ((x, y) ∷ ps)
one_join c m d x y two ps U L = record { well = L.well; only = λ u v q. gen_map from (L.only u v q); holds = λ u v g. gen-same (rep d.parents) to g }
  where
    from : (a b : ℕ) → Base m ps a b → Gen (Base c ((x, y) ∷ ps)) a b
    from a b (was q) = only_gen c x y a b ps (U.only a b q)
    from a b (listed l) = base (listed (Memᴰ.tail l))

    to : (a b : ℕ) → Base c ((x, y) ∷ ps) a b → rep d.parents a ≡ rep d.parents b
    to a b (was q) = L.holds a b (base (was (U.grows a b q)))
    to a b (listed (Memᴰ.head e)) =
        let f : a ≡ x = ap (λ (p : ℕ × ℕ). p.0) e in
        let g : b ≡ y = ap (λ (p : ℕ × ℕ). p.1) e in
        L.holds a b (base (was (ap (rep m.parents) f ∙ (U.joins ∙ ap (rep m.parents) (sym g)))))
    to a b (listed (Memᴰ.tail l)) = L.holds a b (base (listed l))

pub merge_all_least : (ps : List (ℕ × ℕ)) (c d : Classes) → WellMade c → M.merge_all c ps ≡ done d → Least c d ps
unfolding M.merge_all
merge_all_least [] c d W e = subst (λ (d : Classes). Least c d []) (same_done e) (no_joins c W)
merge_all_least ((x, y) ∷ ps) c d W e = go (merge c x y) refl (λ m w f. merge_all_least ps m d w f)
  where
    go : (o : Outcome Classes) → merge c x y ≡ o → ((m : Classes) → WellMade m → M.merge_all m ps ≡ done d → Least m d ps) → Least c d ((x, y) ∷ ps)
    go (refused r) q ih = never (rw q at e)
    go (done m) q ih = let U = merge_unites c W x y m q in one_join c m d x y (two_classes c x y) ps U (ih m U.well (rw q at e))

-- from no classes: the least equivalence that holds the pairs
pub joins_least : (ps : List (ℕ × ℕ)) (d : Classes) → M.merge_all no_classes ps ≡ done d → (u v : ℕ)
    → (rep d.parents u ≡ rep d.parents v → Gen (Listed ps) u v) × (Gen (Listed ps) u v → rep d.parents u ≡ rep d.parents v)
joins_least ps d e u v =
    let L = merge_all_least ps no_classes d empty_well e in
    (λ q. gen_map pair (L.only u v q), λ g. L.holds u v (gen_map (λ a b l. base (listed l)) g))
  where
    pair : (a b : ℕ) → Base no_classes ps a b → Gen (Listed ps) a b
    pair a b (was q) = let f : a ≡ b = sym (no_rep a) ∙ (q ∙ no_rep b) in rw f self
    pair a b (listed l) = base l

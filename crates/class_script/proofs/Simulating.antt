-- 02 [2]: the same script with the Rust's halving and with our flattening gives the same answers, the links of `find` apart. For any two updating finds that
-- answer what the plain find answers and keep what is well made (`Fair`): the states have the same representatives, ranks and count all along (`Alike`).
use mathlib.Core.Path.{◌≡◌, refl, sym, ◌∙◌, ap, subst, subst⁻¹, fun_ext}
use mathlib.Core.Bool.{Bool, true, false, not}
use mathlib.Core.List.{List, [], ◌∷◌, ◌++◌, map}
use Prim.Native.Nat.{ℕ, zero, suc, ◌-◌, ◌≤◌, ◌<◌}
use native.Mathlib.Omega.{arith}
use native.Mathlib.Decide.{ℕ_discrete}
use lib.ListN.{length, set}
use lib.Dec.{ltb, leb, eqb}
use borrow.Author.Tests.{ltb-true, lt-ltb}
use Rattle.std.specs.declared.result.Result.TheVariants.{Err, Ok}
use Rattle.std.specs.declared.option.Option.TheVariants.{None, Some}
use Rattle.paper.specs.Answered.{Maybe}
use Rattle.paper.specs.declared.Refusal.TheVariants.{Unknown, Itself}
use Rattle.std.specs.Prelude.{if◌then◌else◌}
use Rattle.paper.specs.Words.{has, keep, below}
use Rattle.paper.specs.Numbers.{max_sites, Outcome, done, ◌>>=◌, demand}
use Rattle.paper.specs.Classes.{Classes, classes, no_classes, up, Trail, find_in, flatten_in, Flattened, flattened, find, find_mut, one_more, most_rank, most_count, Rooted, rooted, enter, under, raised, link, unite, merge, is_at, in_same_set, Swept, sweep, unjoin, Removed, removed, remove_at, remove_set_of, len, is_empty}
use Rattle.classes.specs.Called.{Looked}
use Rattle.classes.specs.Called.{Taken}
use Rattle.classes.specs.declared.Untaken.TheVariants as X
use Rattle.classes.specs.Answers.{looked, sought_by, two_classes, joined_by, same, over, taken_by, taken_if}
use Rattle.classes.specs.Well.{Well, WellMade, rank, in_class, rep_of, turned, dropped, joined_in}
use Rattle.classes.specs.Equal.{sites_below}
use Rattle.classes.proofs.Counting.{cnt_ext}
use Rattle.classes.proofs.Leading.{find_leads}
use Rattle.classes.proofs.Linked.{Case, outside, lone, led, case}
use Rattle.classes.proofs.Flattening.{Kept, kept, kept_by, flattened_kept, flattened_found}
use Rattle.classes.proofs.Entering.{enter_well, found_x, found_off}
use Rattle.classes.proofs.Merging.{link_turned, root_of, empty_well}
use Rattle.classes.proofs.Removing.{found_after, fewer, remove_well}
use Rattle.classes.proofs.Removal.{sites_more, sites_none, sites_has, sites_count, unjoin_length, unjoin_up}
use Rattle.class_script.specs.declared.Call.{Call}
use Rattle.class_script.specs.declared.Call.TheVariants as K
use Rattle.class_script.specs.declared.Reply.{Reply}
use Rattle.class_script.specs.declared.Reply.TheVariants as R
use Rattle.class_script.specs.Script.{stepped}
use Rattle.class_script.proofs.Halving.{halve_in, halve_keeps, halve_found}

abbrev pub Update : Type 0
Update = List ℕ → ℕ → List ℕ × Maybe ℕ

pub record Fair (u : Update) : Type 0 where
  pub keeps : (p R : List ℕ) (n : ℕ) → Well p R n → (x : ℕ) → Kept p (u p x).0 R n
  pub found : (p R : List ℕ) (n : ℕ) → Well p R n → (x : ℕ) → (u p x).1 ≡ (find_in p x).found

pub flattening : Fair flatten_in
flattening = record { keeps = flattened_kept; found = flattened_found }

pub halving : Fair halve_in
halving = record { keeps = halve_keeps; found = halve_found }

-- ---- the calls with the updating find u: paper's, but for that

abbrev after_by : Update → Classes → ℕ → Classes
after_by u c x = classes (u c.parents x).0 c.ranks c.count

abbrev enter_by : Update → Classes → ℕ → Rooted
enter_by u c x = rooted (after_by u c x) x (u c.parents x).1

abbrev unite_by : Update → Classes → ℕ → ℕ → Classes
unite_by u c x y = let s = enter_by u c x in let t = enter_by u s.after y in link t.after s.root t.root

abbrev two_by : Update → Classes → ℕ → ℕ → Bool
two_by u c x y = not (eqb (enter_by u c x).root (enter_by u (enter_by u c x).after y).root)

abbrev merge_by : Update → Classes → ℕ → ℕ → Outcome Classes
merge_by u c x y = do
  _ ← demand (ltb x max_sites) (Unknown x)
  _ ← demand (ltb y max_sites) (Unknown y)
  _ ← demand (not (eqb x y)) (Itself x)
  done (unite_by u c x y)

abbrev seek_by : Update → Classes → ℕ → Outcome Flattened
seek_by u c x = demand (ltb x max_sites) (Unknown x) >>= λ _. done (record { after = after_by u c x; found = (u c.parents x).1 })

unfoldable pub sweep_by : Update → ℕ → List ℕ → ℕ → Swept
sweep_by u zero p r = record { parents = p; members = [] }
sweep_by u (suc y) p r =
    let s = sweep_by u y p r in
    let h = u s.parents y in
    record { parents = h.0; members = if is_at h.1 (Some r) then s.members ++ (y ∷ []) else s.members }

abbrev remove_at_by : Update → Classes → Maybe ℕ → Removed
remove_at_by u c (Some r) = removed c (sweep_by u max_sites c.parents r)
remove_at_by u c None = record { after = c; members = [] }

abbrev remove_by : Update → Classes → ℕ → Outcome Removed
remove_by u c x = demand (ltb x max_sites) (Unknown x) >>= λ _. done (remove_at_by u (after_by u c x) (u c.parents x).1)

abbrev After : Type 0
After = Classes × List ℕ × Reply

abbrev taken_as : Classes × List ℕ × Taken → After
taken_as t = (t.0, t.1, R.Removed t.2)

abbrev pub stepped_by : Update → Classes → List ℕ → Call → After
stepped_by u c m (K.Merge x y) = let j = joined_by c (two_by u c x y) (merge_by u c x y) in (j.0, m, R.Merged j.1)
stepped_by u c m (K.Find x) = (c, m, R.Found (looked (find c x)))
stepped_by u c m (K.FindMut x) = let s = sought_by c (seek_by u c x) in (s.0, m, R.FoundMut s.1)
stepped_by u c m (K.SameSet x y) = (c, m, R.Compared (same (in_same_set c x y)))
stepped_by u c m (K.Remove x) = let t = taken_if (leb max_sites (length m)) c m (remove_by u c x) in (t.0, t.1, R.Removed t.2)
stepped_by u c m K.Len = (c, m, R.Length (len c))
stepped_by u c m K.Empty = (c, m, R.Emptiness (is_empty c))
stepped_by u c m K.Bad = (c, m, R.Bad)

-- with our find they are paper's
sweep_flat : (k : ℕ) (p : List ℕ) (r : ℕ) → sweep_by flatten_in k p r ≡ sweep k p r
unfolding sweep_by sweep
sweep_flat zero p r = refl
sweep_flat (suc k) p r = ap (λ (s : Swept). record {
  parents = (flatten_in s.parents k).0;
  members = if is_at (flatten_in s.parents k).1 (Some r) then s.members ++ (k ∷ []) else s.members;
}) (sweep_flat k p r)

remove_flat : (c : Classes) (f : Maybe ℕ) → remove_at_by flatten_in c f ≡ remove_at c f
remove_flat c (Some r) = ap (removed c) (sweep_flat max_sites c.parents r)
remove_flat c None = refl

pub stepped_flat : (c : Classes) (m : List ℕ) (k : Call) → stepped_by flatten_in c m k ≡ stepped c m k
unfolding merge unite enter flattened two_classes find_mut remove_set_of
stepped_flat c m (K.Merge x y) = refl
stepped_flat c m (K.Find x) = refl
stepped_flat c m (K.FindMut x) = refl
stepped_flat c m (K.SameSet x y) = refl
stepped_flat c m (K.Remove x) =
    ap (λ (q : Removed). taken_as (taken_if (leb max_sites (length m)) c m (demand (ltb x max_sites) (Unknown x) >>= λ _. done q)))
    (remove_flat (after_by flatten_in c x) (flatten_in c.parents x).1)
stepped_flat c m K.Len = refl
stepped_flat c m K.Empty = refl
stepped_flat c m K.Bad = refl

-- ---- answers but for the links

abbrev bare_looked : Looked → Looked
bare_looked (Ok t) = Ok (record { found = t.found; links = 0 })
bare_looked (Err e) = Err e

abbrev pub bare : Reply → Reply
bare (R.Found l) = R.Found (bare_looked l)
bare (R.Merged j) = R.Merged j
bare (R.FoundMut t) = R.FoundMut t
bare (R.Compared t) = R.Compared t
bare (R.Removed t) = R.Removed t
bare (R.Length n) = R.Length n
bare (R.Emptiness b) = R.Emptiness b
bare R.Bad = R.Bad

-- ---- two states that differ in their links alone

pub record Alike (c d : Classes) : Type 0 where
  pub left : WellMade c
  pub right : WellMade d
  pub ranks : c.ranks ≡ d.ranks
  pub count : c.count ≡ d.count
  pub reps : (z : ℕ) → rep_of c z ≡ rep_of d z

never : {A : Type 0} {r : ℕ} → None ≡ Some r → A
never e = absurd (let z : ◌≡◌ {A = ℕ} 0 1 = cc in omega arith)

no_up : (c : Classes) → WellMade c → (x : ℕ) → x < max_sites → rep_of c x ≡ None → max_sites ≤ up c.parents x
no_up c W x h e = go (case c.parents c.ranks c.count W x)
  where
    go : Case c.parents c.ranks x → max_sites ≤ up c.parents x
    go (outside o) = absurd (omega arith)
    go (lone l g) = g
    go (led n r t b k l j) = never (sym e ∙ ap (λ (t : Trail). t.found) (find_leads n c.parents x r (omega arith) t))

-- x's class, made where it has none: the root is x's, and no other find answers otherwise
module _ (c : Classes) (W : WellMade c) (x : ℕ) (hx : x < max_sites) where
  rooted_well : (f : Maybe ℕ) → rep_of c x ≡ f → WellMade (rooted c x f).after
  rooted_well (Some r) e = W
  rooted_well None e = enter_well c.parents c.ranks c.count W x hx (no_up c W x hx e)

  rooted_mine : (f : Maybe ℕ) → rep_of c x ≡ f → rep_of (rooted c x f).after x ≡ Some (rooted c x f).root
  rooted_mine (Some r) e = e
  rooted_mine None e = found_x c.parents c.ranks c.count W x hx (no_up c W x hx e)

  rooted_off : (f : Maybe ℕ) → rep_of c x ≡ f → (z : ℕ) → (z ≡ x → ⊥) → rep_of (rooted c x f).after z ≡ rep_of c z
  rooted_off (Some r) e z d = refl
  rooted_off None e z d = found_off c.parents c.ranks c.count W x hx (no_up c W x hx e) z d

  -- a root stays one
  rooted_stays : (f : Maybe ℕ) → rep_of c x ≡ f → (z r : ℕ) → rep_of c z ≡ Some r → rep_of (rooted c x f).after z ≡ Some r
  rooted_stays (Some s) e z r q = q
  rooted_stays None e z r q = rooted_off None e z (λ o. never (sym e ∙ (ap (rep_of c) (sym o) ∙ q))) ∙ q

root_same : (c d : Classes) (x : ℕ) (f : Maybe ℕ) → (rooted c x f).root ≡ (rooted d x f).root
root_same c d x (Some r) = refl
root_same c d x None = refl

ranks_same : (c d : Classes) (x : ℕ) (f : Maybe ℕ) → c.ranks ≡ d.ranks → (rooted c x f).after.ranks ≡ (rooted d x f).after.ranks
ranks_same c d x (Some r) e = e
ranks_same c d x None e = ap (λ (R : List ℕ). set R x 0) e

count_same : (c d : Classes) (x : ℕ) (f : Maybe ℕ) → c.count ≡ d.count → (rooted c x f).after.count ≡ (rooted d x f).after.count
count_same c d x (Some r) e = e
count_same c d x None e = ap (one_more most_count) e

rooted_alike : (c d : Classes) → Alike c d → (x : ℕ) → x < max_sites → (f : Maybe ℕ) → rep_of c x ≡ f → Alike (rooted c x f).after (rooted d x f).after
rooted_alike c d A x h f e = record {
  left = rooted_well c A.left x h f e;
  right = rooted_well d A.right x h f g;
  ranks = ranks_same c d x f A.ranks;
  count = count_same c d x f A.count;
  reps = λ z. go z (ℕ_discrete z x);
}
  where
    g : rep_of d x ≡ f
    g = sym (A.reps x) ∙ e

    at_x : rep_of (rooted c x f).after x ≡ rep_of (rooted d x f).after x
    at_x = rooted_mine c A.left x h f e ∙ (ap Some (root_same c d x f) ∙ sym (rooted_mine d A.right x h f g))

    go : (z : ℕ) → Dec (z ≡ x) → rep_of (rooted c x f).after z ≡ rep_of (rooted d x f).after z
    go z (yes o) = subst⁻¹ (λ (y : ℕ). rep_of (rooted c x f).after y ≡ rep_of (rooted d x f).after y) o at_x
    go z (no o) = rooted_off c A.left x h f e z o ∙ (A.reps z ∙ sym (rooted_off d A.right x h f g z o))

-- ---- a join

link_ranks : (c d : Classes) (a b : ℕ) → c.ranks ≡ d.ranks → (link c a b).ranks ≡ (link d a b).ranks
unfolding link
link_ranks c d a b e = by c ∙ (ap go e ∙ sym (by d))
  where
    go : List ℕ → List ℕ
    go R =
        if eqb a b then R else
        (if ltb (rank R a) (rank R b) then R else
        (if eqb (rank R a) (rank R b) then set R a (one_more most_rank (rank R a)) else R))

    pick : (c : Classes) (s t w : Bool)
        → (if s then c else (if t then under c a b else (if w then raised (under c b a) a else under c b a))).ranks
        ≡ (if s then c.ranks else (if t then c.ranks else (if w then set c.ranks a (one_more most_rank (rank c.ranks a)) else c.ranks)))
    pick c true t w = refl
    pick c false true w = refl
    pick c false false true = refl
    pick c false false false = refl

    by : (c : Classes) → (if eqb a b then c else
        (if ltb (rank c.ranks a) (rank c.ranks b) then under c a b else
        (if eqb (rank c.ranks a) (rank c.ranks b) then raised (under c b a) a else under c b a))).ranks ≡ go c.ranks
    by c = pick c (eqb a b) (ltb (rank c.ranks a) (rank c.ranks b)) (eqb (rank c.ranks a) (rank c.ranks b))

link_count : (c : Classes) (a b : ℕ) → (link c a b).count ≡ c.count
unfolding link
link_count c a b = pick (eqb a b) (ltb (rank c.ranks a) (rank c.ranks b)) (eqb (rank c.ranks a) (rank c.ranks b))
  where
    pick : (s t w : Bool) → (if s then c else (if t then under c a b else (if w then raised (under c b a) a else under c b a))).count ≡ c.count
    pick true t w = refl
    pick false true w = refl
    pick false false true = refl
    pick false false false = refl

abbrev turn_by : List ℕ → ℕ → ℕ → Maybe ℕ → Maybe ℕ
turn_by R a b f = turned (if ltb (rank R a) (rank R b) then b else a) (if ltb (rank R a) (rank R b) then a else b) f

link_alike : (c d : Classes) → Alike c d → (x y a b : ℕ) → rep_of c x ≡ Some a → rep_of c y ≡ Some b → Alike (link c a b) (link d a b)
link_alike c d A x y a b ea eb =
    let ra = root_of c A.left x a ea in
    let rb = root_of c A.left y b eb in
    let sa = root_of d A.right x a (sym (A.reps x) ∙ ea) in
    let sb = root_of d A.right y b (sym (A.reps y) ∙ eb) in
    let T = link_turned c A.left a b ra.0 ra.1 rb.0 rb.1 in
    let Q = link_turned d A.right a b sa.0 sa.1 sb.0 sb.1 in
    record {
      left = T.well;
      right = Q.well;
      ranks = link_ranks c d a b A.ranks;
      count = link_count c a b ∙ (A.count ∙ sym (link_count d a b));
      reps = λ z. T.found z ∙ (ap (λ (R : List ℕ). turn_by R a b (rep_of c z)) A.ranks ∙ (ap (turn_by d.ranks a b) (A.reps z) ∙ sym (Q.found z)));
    }

module _ (u v : Update) (U : Fair u) (G : Fair v) where
  update_alike : (c d : Classes) → Alike c d → (x : ℕ) → Alike (after_by u c x) (after_by v d x)
  update_alike c d A x =
      let J = U.keeps c.parents c.ranks c.count A.left x in
      let L = G.keeps d.parents d.ranks d.count A.right x in
      record {
        left = J.well;
        right = L.well;
        ranks = A.ranks;
        count = A.count;
        reps = λ z. J.same z ∙ (A.reps z ∙ sym (L.same z));
      }

  -- what both find
  found_u : (c d : Classes) → Alike c d → (x : ℕ) → (u c.parents x).1 ≡ rep_of c x
  found_u c d A x = U.found c.parents c.ranks c.count A.left x

  found_v : (c d : Classes) → Alike c d → (x : ℕ) → (v d.parents x).1 ≡ rep_of c x
  found_v c d A x = G.found d.parents d.ranks d.count A.right x ∙ sym (A.reps x)

  same_rep : (c d : Classes) → Alike c d → (x z : ℕ) → rep_of (after_by u c x) z ≡ rep_of c z
  same_rep c d A x z = (U.keeps c.parents c.ranks c.count A.left x).same z

  record Both (c d : Classes) (x : ℕ) : Type 0 where
    alike : Alike (enter_by u c x).after (enter_by v d x).after
    root : (enter_by u c x).root ≡ (enter_by v d x).root
    mine : rep_of (enter_by u c x).after x ≡ Some (enter_by u c x).root
    stays : (z r : ℕ) → rep_of c z ≡ Some r → rep_of (enter_by u c x).after z ≡ Some r

  enter_both : (c d : Classes) → Alike c d → (x : ℕ) → x < max_sites → Both c d x
  enter_both c d A x h = record {
    alike = subst⁻¹ (λ (f : Maybe ℕ). Alike (rooted (after_by u c x) x f).after (enter_by v d x).after) eu
        (subst⁻¹ (λ (f : Maybe ℕ). Alike (rooted (after_by u c x) x (rep_of c x)).after (rooted (after_by v d x) x f).after) ev
        (rooted_alike (after_by u c x) (after_by v d x) B x h (rep_of c x) (same_rep c d A x x)));
    root = ap (λ (f : Maybe ℕ). (rooted (after_by u c x) x f).root) eu
        ∙ (root_same (after_by u c x) (after_by v d x) x (rep_of c x) ∙ sym (ap (λ (f : Maybe ℕ). (rooted (after_by v d x) x f).root) ev));
    mine = subst⁻¹ (λ (f : Maybe ℕ). rep_of (rooted (after_by u c x) x f).after x ≡ Some (rooted (after_by u c x) x f).root) eu
        (rooted_mine (after_by u c x) B.left x h (rep_of c x) (same_rep c d A x x));
    stays = λ z r q. subst⁻¹ (λ (f : Maybe ℕ). rep_of (rooted (after_by u c x) x f).after z ≡ Some r) eu
        (rooted_stays (after_by u c x) B.left x h (rep_of c x) (same_rep c d A x x) z r (same_rep c d A x z ∙ q));
  }
    where
      eu : (u c.parents x).1 ≡ rep_of c x
      eu = found_u c d A x

      ev : (v d.parents x).1 ≡ rep_of c x
      ev = found_v c d A x

      B : Alike (after_by u c x) (after_by v d x)
      B = update_alike c d A x

  -- ---- a removal

  sweep_kept_by : (w : Update) → Fair w → (k : ℕ) (p R : List ℕ) (n r : ℕ) → Well p R n → Kept p (sweep_by w k p r).parents R n
  unfolding sweep_by
  sweep_kept_by w F zero p R n r W = kept p R n W
  sweep_kept_by w F (suc k) p R n r W =
      let J = sweep_kept_by w F k p R n r W in
      kept_by p (sweep_by w k p r).parents _ R n J (F.keeps (sweep_by w k p r).parents R n J.well k)

  sweep_lists_by : (w : Update) → Fair w → (k : ℕ) (p R : List ℕ) (n r : ℕ) → Well p R n → (sweep_by w k p r).members ≡ sites_below k p r
  unfolding sweep_by
  sweep_lists_by w F zero p R n r W = sym (sites_none p r)
  sweep_lists_by w F (suc k) p R n r W =
      let J = sweep_kept_by w F k p R n r W in
      let e : (w (sweep_by w k p r).parents k).1 ≡ (find_in p k).found = F.found (sweep_by w k p r).parents R n J.well k ∙ J.same k in
      rw (e, sweep_lists_by w F k p R n r W) (sym (sites_more k p r))

  module _ (w : Update) (F : Fair w) (c : Classes) (W : WellMade c) (r : ℕ) where
    s : Swept
    s = sweep_by w max_sites c.parents r

    J : Kept c.parents s.parents c.ranks c.count
    unfolding s
    J = sweep_kept_by w F max_sites c.parents c.ranks c.count r W

    M : s.members ≡ sites_below max_sites c.parents r
    unfolding s
    M = sweep_lists_by w F max_sites c.parents c.ranks c.count r W

    q : List ℕ
    q = unjoin s.parents s.members

    lq : length q ≡ length s.parents
    unfolding q
    lq = unjoin_length s.members s.parents

    uq : (z : ℕ) → z < max_sites → up q z ≡ (if in_class s.parents r z then max_sites else up s.parents z)
    unfolding q
    uq z h =
        unjoin_up s.members s.parents z (omega (arith, J.well.len))
        ∙ ap (λ (b : Bool). if b then max_sites else up s.parents z) mine
      where
        mine : has s.members z ≡ in_class s.parents r z
        mine = rw M (sites_has max_sites c.parents r z ∙ (rw (lt-ltb z max_sites h) (ap (λ (f : Maybe ℕ). is_at f (Some r)) (sym (J.same z)))))

    count : c.count - length s.members ≡ joined_in q
    count =
        let l = ap length M ∙ sites_count max_sites c.parents r in
        let a = cnt_ext (in_class s.parents r) (in_class c.parents r) max_sites (λ z l. ap (λ (f : Maybe ℕ). is_at f (Some r)) (J.same z)) in
        omega (arith, l, a, fewer s.parents c.ranks c.count J.well r q lq uq, J.well.tally)

    taken_well : WellMade (removed c (sweep_by w max_sites c.parents r)).after
    unfolding s q
    taken_well = subst⁻¹ (λ (n : ℕ). Well q c.ranks n) count (remove_well s.parents c.ranks c.count J.well r q lq uq)

    taken_rep : (z : ℕ) → rep_of (removed c (sweep_by w max_sites c.parents r)).after z ≡ dropped r (rep_of c z)
    unfolding s q
    taken_rep z = found_after s.parents c.ranks c.count J.well r q lq uq z ∙ ap (dropped r) (J.same z)

    taken_list : (removed c (sweep_by w max_sites c.parents r)).members ≡ sites_below max_sites c.parents r
    unfolding s
    taken_list = M

  sites_same : (c d : Classes) → Alike c d → (r : ℕ) → sites_below max_sites c.parents r ≡ sites_below max_sites d.parents r
  unfolding sites_below
  sites_same c d A r = ap (λ (f : ℕ → Bool). keep f (below max_sites (λ z. z))) (fun_ext (λ z. ap (λ (f : Maybe ℕ). is_at f (Some r)) (A.reps z)))

  -- ---- a call

  record Agree (a b : After) : Type 0 where
    alike : Alike a.0 b.0
    list : a.1 ≡ b.1
    told : bare a.2 ≡ bare b.2

  module _ (c d : Classes) (A : Alike c d) (m : List ℕ) where
    unchanged : (k : Reply) → Agree (c, m, k) (d, m, k)
    unchanged k = record { alike = A; list = refl; told = refl }

    module _ (x y : ℕ) (hx : x < max_sites) (hy : y < max_sites) where
      B : Both c d x
      B = enter_both c d A x hx

      D : Both (enter_by u c x).after (enter_by v d x).after y
      D = enter_both (enter_by u c x).after (enter_by v d x).after B.alike y hy

      unite_alike : Alike (unite_by u c x y) (unite_by v d x y)
      unite_alike =
          let s = enter_by u c x in
          let t = enter_by u s.after y in
          let s' = enter_by v d x in
          let t' = enter_by v s'.after y in
          let l = link_alike t.after t'.after D.alike x y s.root t.root (D.stays x s.root B.mine) D.mine in
          subst (λ (k : ℕ). Alike (unite_by u c x y) (link t'.after s'.root k)) D.root
          (subst (λ (k : ℕ). Alike (unite_by u c x y) (link t'.after k t.root)) B.root l)

      two_same : two_by u c x y ≡ two_by v d x y
      two_same =
          ap (λ (k : ℕ). not (eqb k (enter_by u (enter_by u c x).after y).root)) B.root
          ∙ ap (λ (k : ℕ). not (eqb (enter_by v d x).root k)) D.root

    agree_merge : (x y : ℕ) → Agree (stepped_by u c m (K.Merge x y)) (stepped_by v d m (K.Merge x y))
    agree_merge x y = go (ltb x max_sites) refl (ltb y max_sites) refl (eqb x y) refl
      where
        go : (a : Bool) → ltb x max_sites ≡ a → (b : Bool) → ltb y max_sites ≡ b → (s : Bool) → eqb x y ≡ s
            → Agree (stepped_by u c m (K.Merge x y)) (stepped_by v d m (K.Merge x y))
        go true p true q false r =
            let hx = ltb-true x max_sites p in
            let hy = ltb-true y max_sites q in
            simp (p, q, r) (record { alike = unite_alike x y hx hy; list = refl; told = ap (λ (b : Bool). R.Merged (Ok b)) (two_same x y hx hy) })
        go true p true q true r = simp (p, q, r) (unchanged (R.Merged (Err (Itself x))))
        go true p false q s r = simp (p, q) (unchanged (R.Merged (Err (Unknown y))))
        go false p b q s r = simp p (unchanged (R.Merged (Err (Unknown x))))

    agree_find : (x : ℕ) → Agree (stepped_by u c m (K.Find x)) (stepped_by v d m (K.Find x))
    unfolding find
    agree_find x = record { alike = A; list = refl; told = go (ltb x max_sites) refl }
      where
        go : (a : Bool) → ltb x max_sites ≡ a → bare (R.Found (looked (find c x))) ≡ bare (R.Found (looked (find d x)))
        go true p = simp p (ap (λ (f : Maybe ℕ). R.Found (Ok (record { found = f; links = 0 }))) (A.reps x))
        go false p = simp p

    agree_find_mut : (x : ℕ) → Agree (stepped_by u c m (K.FindMut x)) (stepped_by v d m (K.FindMut x))
    agree_find_mut x = go (ltb x max_sites) refl
      where
        go : (a : Bool) → ltb x max_sites ≡ a → Agree (stepped_by u c m (K.FindMut x)) (stepped_by v d m (K.FindMut x))
        go true p = simp p (record {
          alike = update_alike c d A x;
          list = refl;
          told = ap (λ (f : Maybe ℕ). R.FoundMut (Ok f)) (found_u c d A x ∙ sym (found_v c d A x));
        })
        go false p = simp p (unchanged (R.FoundMut (Err (Unknown x))))

    agree_same : (x y : ℕ) → Agree (stepped_by u c m (K.SameSet x y)) (stepped_by v d m (K.SameSet x y))
    unfolding in_same_set
    agree_same x y = record { alike = A; list = refl; told = ap (λ (f : Maybe ℕ). R.Compared (same (of f (rep_of c y)))) (A.reps x) ∙ ap (λ (f : Maybe ℕ). R.Compared (same (of (rep_of d x) f))) (A.reps y) }
      where
        of : Maybe ℕ → Maybe ℕ → Outcome Bool
        of f g = do
          _ ← demand (ltb x max_sites) (Unknown x)
          _ ← demand (ltb y max_sites) (Unknown y)
          done (is_at f g)

    agree_removed : (x : ℕ) (f : Maybe ℕ)
        → Agree (taken_as (taken_by c m (done (remove_at_by u (after_by u c x) f)))) (taken_as (taken_by d m (done (remove_at_by v (after_by v d x) f))))
    agree_removed x None = record { alike = update_alike c d A x; list = refl; told = refl }
    agree_removed x (Some r) =
        let I = update_alike c d A x in
        let a = after_by u c x in
        let b = after_by v d x in
        let e : (removed a (sweep_by u max_sites a.parents r)).members ≡ (removed b (sweep_by v max_sites b.parents r)).members =
        taken_list u U a I.left r ∙ (sites_same a b I r ∙ sym (taken_list v G b I.right r)) in
        record {
          alike = record {
            left = taken_well u U a I.left r;
            right = taken_well v G b I.right r;
            ranks = I.ranks;
            count = ap (λ (l : List ℕ). c.count - length l) e ∙ ap (λ (n : ℕ). n - length (sweep_by v max_sites b.parents r).members) A.count;
            reps = λ z. taken_rep u U a I.left r z ∙ (ap (dropped r) (I.reps z) ∙ sym (taken_rep v G b I.right r z));
          };
          list = ap (over m) e;
          told = ap (λ (l : List ℕ). R.Removed (Ok (length l))) e;
        }

    agree_remove : (x : ℕ) → Agree (stepped_by u c m (K.Remove x)) (stepped_by v d m (K.Remove x))
    agree_remove x = go (leb max_sites (length m)) (ltb x max_sites) refl
      where
        go : (b a : Bool) → ltb x max_sites ≡ a → Agree (taken_as (taken_if b c m (remove_by u c x))) (taken_as (taken_if b d m (remove_by v d x)))
        go true true p = simp p
            (subst⁻¹ (λ (f : Maybe ℕ). Agree (taken_as (taken_by c m (done (remove_at_by u (after_by u c x) f)))) (taken_as (taken_by d m (done (remove_at_by v (after_by v d x) (v d.parents x).1)))))
            (found_u c d A x)
            (subst⁻¹ (λ (f : Maybe ℕ). Agree (taken_as (taken_by c m (done (remove_at_by u (after_by u c x) (rep_of c x))))) (taken_as (taken_by d m (done (remove_at_by v (after_by v d x) f)))))
            (found_v c d A x) (agree_removed x (rep_of c x))))
        go true false p = simp p (unchanged (R.Removed (Err (X.Refused (Unknown x)))))
        go false a p = unchanged (R.Removed (Err X.Short))

    agree : (k : Call) → Agree (stepped_by u c m k) (stepped_by v d m k)
    unfolding is_empty
    agree (K.Merge x y) = agree_merge x y
    agree (K.Find x) = agree_find x
    agree (K.FindMut x) = agree_find_mut x
    agree (K.SameSet x y) = agree_same x y
    agree (K.Remove x) = agree_remove x
    agree K.Len = record { alike = A; list = refl; told = ap R.Length A.count }
    agree K.Empty = record { alike = A; list = refl; told = ap (λ (n : ℕ). R.Emptiness (eqb n 0)) A.count }
    agree K.Bad = unchanged R.Bad

-- ---- a script: after each call the lent list of members, and the answer

unfoldable pub script_by : Update → Classes → List ℕ → List Call → List (List ℕ × Reply)
script_by u c m [] = []
script_by u c m (k ∷ ks) = let s = stepped_by u c m k in (s.1, s.2) ∷ script_by u s.0 s.1 ks

unfoldable pub script : Classes → List ℕ → List Call → List (List ℕ × Reply)
script c m [] = []
script c m (k ∷ ks) = let s = stepped c m k in (s.1, s.2) ∷ script s.0 s.1 ks

abbrev pub bare_answer : List ℕ × Reply → List ℕ × Reply
bare_answer a = (a.0, bare a.1)

script_flat : (ks : List Call) (c : Classes) (m : List ℕ) → script_by flatten_in c m ks ≡ script c m ks
unfolding script_by script
script_flat [] c m = refl
script_flat (k ∷ ks) c m =
    ap (λ (s : After). (s.1, s.2) ∷ script_by flatten_in s.0 s.1 ks) (stepped_flat c m k)
    ∙ ap (λ (l : List (List ℕ × Reply)). ((stepped c m k).1, (stepped c m k).2) ∷ l) (script_flat ks (stepped c m k).0 (stepped c m k).1)

same_script : (u v : Update) → Fair u → Fair v → (ks : List Call) (c d : Classes) → Alike c d → (m : List ℕ)
    → map bare_answer (script_by u c m ks) ≡ map bare_answer (script_by v d m ks)
unfolding script_by
same_script u v U G [] c d A m = refl
same_script u v U G (k ∷ ks) c d A m =
    let g = agree u v U G c d A m k in
    let a = stepped_by u c m k in
    let b = stepped_by v d m k in
    let rest = same_script u v U G ks a.0 b.0 g.alike a.1 in
    ap (λ (l : List ℕ). (l, bare a.2) ∷ map bare_answer (script_by u a.0 a.1 ks)) g.list
    ∙ (ap (λ (t : Reply). (b.1, t) ∷ map bare_answer (script_by u a.0 a.1 ks)) g.told
    ∙ ap (λ (l : List (List ℕ × Reply)). (b.1, bare b.2) ∷ l) (rest ∙ ap (λ (l : List ℕ). map bare_answer (script_by v b.0 l ks)) g.list))

-- THE LAW: a script from no classes is answered as it would be with halving, the links of its finds apart
pub same_answers : (m : List ℕ) (ks : List Call) → map bare_answer (script no_classes m ks) ≡ map bare_answer (script_by halve_in no_classes m ks)
same_answers m ks =
    sym (ap (map bare_answer) (script_flat ks no_classes m))
    ∙ same_script flatten_in halve_in flattening halving ks no_classes no_classes
    (record { left = empty_well; right = empty_well; ranks = refl; count = refl; reps = λ z. refl }) m

-- "Repeat until no class has a constrained member": the rounds end, whatever the classes are, and `most_rounds` turns are never used up.
-- A site costs one for each joined site from it up its sources, and as much as it ever can while it is not there yet. A round makes the members
-- of a class lone, and joins only children of theirs: what a child's cost gains by itself it loses by its source, and the members lose one each.
-- So the cost `falls` with every round, which `keeps` the state fair; it is `bounded`; hence `until`, and `enough`.
use mathlib.Core.Path.{◌≡◌, refl, sym, ap, ◌∙◌}
use mathlib.Core.Bool.{Bool, true, false}
use mathlib.Core.Option.{Option, none, some}
use mathlib.Core.List.{List, [], ◌∷◌, Memᴰ}
use Prim.Native.Nat.{ℕ, zero, suc, ◌+◌, ◌*◌, ◌≤◌, ◌<◌}
use native.Mathlib.Nat.{not-suc-le-zero}
use native.Mathlib.Omega.{arith}
use native.Mathlib.Decide.{ℕ_discrete, dec_le}
use lib.ListN.{length}
use lib.Dec.{eqb, ltb}
use borrow.Author.Tests.{eq-eqb, ne_eqb, lt-ltb, le-ltb}
use Rattle.paper.specs.declared.Constraint.{Constraint}
use Rattle.paper.specs.declared.Constraint.TheVariants.{Variant, Struct, ConstBool, ConstInt, ConstPrim, Some}
use Rattle.paper.specs.declared.Item.TheVariants.{Is, Equal}
use Rattle.std.specs.Prelude.{if◌then◌else◌}
use Rattle.paper.specs.Words.{look}
use Rattle.paper.specs.Numbers.{max_sites, most_rounds, Outcome, done, refused, ◌>>=◌}
use Rattle.paper.specs.Sites.{Site, Sites, Sound, const_bool, const_int, const_prim, argument, extractor, constructor, iterator, make_variant, match_variant, make_struct, extract_struct, make_some, match_some, match_tuple, sources, parent, child, site_at, Extends}
use Rattle.paper.specs.Loading.{Loading, Labels, Solving, load_items, take_class, round, rounds, started, all_loading, no_items}
use Rattle.paper.proofs.Labels.{never}
use Rattle.paper.proofs.Outcomes.{done_once, bind_done}
use Rattle.paper.proofs.Adding.{inside_has, has_site_at, extends_length, extends_site_at}
use Rattle.paper.proofs.Fair.{Fair, Why, stayed, child_of, joined_after, round_extends, round_fair}
use Rattle.paper.proofs.Taking.{taken, none_left}

-- ---- sums

unfoldable pub sum : ℕ → (ℕ → ℕ) → ℕ
sum zero f = 0
sum (suc n) f = sum n f + f n

sum_le : (n : ℕ) (f g : ℕ → ℕ) → ((k : ℕ) → f k ≤ g k) → sum n f ≤ sum n g
unfolding sum
sum_le zero f g h = omega arith
sum_le (suc n) f g h = let a = h n in let b = sum_le n f g h in omega arith

sum_less : (n x : ℕ) (f g : ℕ → ℕ) → ((k : ℕ) → f k ≤ g k) → x < n → f x < g x → sum n f < sum n g
unfolding sum
sum_less zero x f g h l s = absurd (not-suc-le-zero l)
sum_less (suc n) x f g h l s = go (λ q. sum_less n x f g h q s) (ℕ_discrete x n)
  where
    go : (x < n → sum n f < sum n g) → Dec (x ≡ n) → sum n f + f n < sum n g + g n
    go r (yes e) = let a : f n < g n = rw e at s in let b = sum_le n f g h in omega arith
    go r (no e) = let a = h n in let b = r (omega arith) in omega arith

sum_most : (n c : ℕ) (f : ℕ → ℕ) → ((k : ℕ) → f k ≤ c) → sum n f ≤ n * c
unfolding sum
sum_most zero c f h = omega arith
sum_most (suc n) c f h = let a = h n in let b = sum_most n c f h in let z : suc n * c ≡ c + n * c = omega arith in omega arith

-- ---- the cost

abbrev pub over : (ℕ → ℕ) → Option ℕ → ℕ
over f none = 0
over f (some m) = f m

-- the sum of f over the sites from n up its sources, k sites at most
unfoldable pub climb : Sites → (ℕ → ℕ) → ℕ → ℕ → ℕ
climb t f zero n = 0
climb t f (suc k) n = f n + over (climb t f k) (parent (site_at t n))

-- one for a joined site
unfoldable pub joined : Labels → ℕ → ℕ
joined k n = over (λ v. 1) (look k n)

unfoldable pub cost_at : Solving → ℕ → ℕ
cost_at s n = if ltb n (length s.sites) then climb s.sites (joined s.classes) max_sites n else max_sites

unfoldable pub cost : Solving → ℕ
cost s = sum max_sites (cost_at s)

joined_le : (k : Labels) (n : ℕ) → joined k n ≤ 1
unfolding joined
joined_le k n = go (look k n)
  where
    go : (o : Option ℕ) → over (λ v. 1) o ≤ 1
    go none = omega arith
    go (some v) = omega arith

climb_le : (t : Sites) (f : ℕ → ℕ) (k : ℕ) → ((n : ℕ) → f n ≤ 1) → (n : ℕ) → climb t f k n ≤ k
unfolding climb
climb_le t f zero h n = omega arith
climb_le t f (suc k) h n = go (λ m. climb_le t f k h m) (parent (site_at t n))
  where
    go : ((m : ℕ) → climb t f k m ≤ k) → (o : Option ℕ) → f n + over (climb t f k) o ≤ suc k
    go r none = let a = h n in omega arith
    go r (some m) = let a = h n in let b = r m in omega arith

cost_at_most : (s : Solving) (n : ℕ) → cost_at s n ≤ max_sites
unfolding cost_at
cost_at_most s n = go (ltb n (length s.sites))
  where
    go : (b : Bool) → (if b then climb s.sites (joined s.classes) max_sites n else max_sites) ≤ max_sites
    go true = climb_le s.sites (joined s.classes) max_sites (joined_le s.classes) n
    go false = omega arith

pub bounded : (s : Solving) → cost s ≤ max_sites * max_sites
unfolding cost
bounded s = sum_most max_sites max_sites (cost_at s) (cost_at_most s)

-- ---- sources

parent_source : (s : Site) (m : ℕ) → parent s ≡ some m → Memᴰ m (sources s)
unfolding parent sources
parent_source (const_bool t v) m e = absurd (never e)
parent_source (const_int t h l) m e = absurd (never e)
parent_source (const_prim v) m e = absurd (never e)
parent_source (argument i) m e = absurd (never e)
parent_source (extractor t s) m e = absurd (never e)
parent_source (constructor t n l) m e = absurd (never e)
parent_source (iterator s) m e = absurd (never e)
parent_source (make_variant t v l) m e = absurd (never e)
parent_source (match_variant s v f) m e = let q : m ≡ s = cc in Memᴰ.head q
parent_source (make_struct t l) m e = absurd (never e)
parent_source (extract_struct s f) m e = let q : m ≡ s = cc in Memᴰ.head q
parent_source (make_some s) m e = absurd (never e)
parent_source (match_some s) m e = let q : m ≡ s = cc in Memᴰ.head q
parent_source (match_tuple s f) m e = absurd (never e)

child_parent : (m : ℕ) (c : Constraint) (i : ℕ) → parent (child m c i) ≡ some m
unfolding child parent
child_parent m (Variant t v n) i = refl
child_parent m (Struct t n) i = refl
child_parent m (ConstBool t v) i = refl
child_parent m (ConstInt t h l) i = refl
child_parent m (ConstPrim v) i = refl
child_parent m Some i = refl

parent_lower : (t : Sites) → Sound t → (n m : ℕ) → n < length t → parent (site_at t n) ≡ some m → m < n
parent_lower t S n m h e = S.lower n (site_at t n) (inside_has t n h) m (parent_source (site_at t n) m e)

-- from f to f' the sites lose `mem`, and gain no more than their source loses: then so do the sums
climb_falls : (t u : Sites) → Sound t → Extends t u → (f f' mem : ℕ → ℕ) → ((n : ℕ) → n < length t → f' n + mem n ≤ f n + over mem (parent (site_at t n))) →
    (k n : ℕ) → n < k → n < length t → climb u f' k n + mem n ≤ climb t f k n
unfolding climb
climb_falls t u S x f f' mem h zero n l i = absurd (not-suc-le-zero l)
climb_falls t u S x f f' mem h (suc k) n l i = rw (extends_site_at t u x n i) (go (λ m a b. climb_falls t u S x f f' mem h k m a b) (parent (site_at t n)) refl)
  where
    go : ((m : ℕ) → m < k → m < length t → climb u f' k m + mem m ≤ climb t f k m) → (o : Option ℕ) → parent (site_at t n) ≡ o → f' n + over (climb u f' k) o + mem n ≤ f n + over (climb t f k) o
    go r none e = let a = h n i in let z = ap (over mem) e in omega arith
    go r (some m) e = let a = h n i in let z = ap (over mem) e in let l' = parent_lower t S n m i e in let b = r m (omega arith) (omega arith) in omega arith

-- ---- a round

-- one for a member of the class
abbrev member : Labels → ℕ → ℕ → ℕ
member k low n = over (λ v. if eqb v low then 1 else 0) (look k n)

module _ (s : Solving) (F : Fair s) (at low : ℕ) (c : Constraint) (s' : Solving) (own : look s.classes low ≡ some low) (e : round s at low c ≡ done s') where
  more : Extends s.sites s'.sites
  more = round_extends s F at low c s' own e

  is_member : (n : ℕ) → look s.classes n ≡ some low → member s.classes low n ≡ 1
  is_member n q = rw (q, eq-eqb low low refl)

  member_le : (n : ℕ) → member s.classes low n ≤ joined s.classes n
  unfolding joined
  member_le n = go (look s.classes n)
    where
      go : (o : Option ℕ) → over (λ v. if eqb v low then 1 else 0) o ≤ over (λ v. 1) o
      go none = omega arith
      go (some v) = bit (eqb v low)
        where
          bit : (b : Bool) → (if b then 1 else 0) ≤ 1
          bit true = omega arith
          bit false = omega arith

  step : (n : ℕ) → n < length s.sites → joined s'.classes n + member s.classes low n ≤ joined s.classes n + over (member s.classes low) (parent (site_at s.sites n))
  unfolding joined
  step n l = go (look s'.classes n) refl
    where
      from : Why s.classes low s'.sites n → 1 + member s.classes low n ≤ joined s.classes n + over (member s.classes low) (parent (site_at s.sites n))
      from (stayed v q d) = rw (q, ne_eqb v low d) (omega arith)
      from (child_of m d i q r) =
          let p : parent (site_at s.sites n) ≡ some m = ap parent (sym (extends_site_at s.sites s'.sites more n l) ∙ has_site_at s'.sites n (child m d i) r) ∙ child_parent m d i in
          let a = member_le n in
          let b = ap (over (member s.classes low)) p in
          let w = is_member m q in
          omega arith

      go : (o : Option ℕ) → look s'.classes n ≡ o → over (λ v. 1) o + member s.classes low n ≤ joined s.classes n + over (member s.classes low) (parent (site_at s.sites n))
      go none q = let a = member_le n in omega arith
      go (some v) q = from ((joined_after s F at low c s' own e).within n v q)

  old_cost : (n : ℕ) → n < length s.sites → cost_at s' n + member s.classes low n ≤ cost_at s n
  unfolding cost_at
  old_cost n l =
      let i = F.sites.fits in
      let o = extends_length s.sites s'.sites more in
      rw (lt-ltb n (length s.sites) l, lt-ltb n (length s'.sites) (omega arith)) (climb_falls s.sites s'.sites F.sites more (joined s.classes) (joined s'.classes) (member s.classes low) step max_sites n (omega arith) l)

  new_cost : (n : ℕ) → length s.sites ≤ n → cost_at s n ≡ max_sites
  unfolding cost_at
  new_cost n l = rw (le-ltb n (length s.sites) l)

  each_cost : (n : ℕ) → cost_at s' n ≤ cost_at s n
  each_cost n = go (dec_le (length s.sites) n)
    where
      go : Dec (length s.sites ≤ n) → cost_at s' n ≤ cost_at s n
      go (yes h) = let a = cost_at_most s' n in let b = new_cost n h in omega arith
      go (no h) = let a = old_cost n (omega arith) in omega arith

  class_falls : cost s' < cost s
  unfolding cost
  class_falls =
      let l = F.classes.within low low own in
      let i = F.sites.fits in
      let a = old_cost low l in
      let b = is_member low own in
      sum_less max_sites low (cost_at s') (cost_at s) each_cost (omega arith) (omega arith)

pub falls : (s : Solving) → Fair s → (at low : ℕ) (c : Constraint) (s' : Solving) → take_class s.classes s.constraints s.classes ≡ some (low, c) → round s at low c ≡ done s' → cost s' < cost s
falls s F at low c s' q e = class_falls s F at low c s' (taken s F low c q).own e

pub keeps : (s : Solving) → Fair s → (at low : ℕ) (c : Constraint) (s' : Solving) → take_class s.classes s.constraints s.classes ≡ some (low, c) → round s at low c ≡ done s' → Fair s'
keeps s F at low c s' q e = round_fair s F at low c s' (taken s F low c q).own e

-- ---- the rounds

abbrev Rests : Solving → Type 0
Rests s = take_class s.classes s.constraints s.classes ≡ none

-- a turn, the class being taken
abbrev then_on : ℕ → ℕ → Solving → Option (ℕ × Constraint) → Outcome Solving
then_on n at s o = elim o [ none ↦ done s | some p ↦ round s at p.0 p.1 >>= rounds n at ]

ends_in : (n : ℕ) (s : Solving) → Fair s → cost s < n → (at : ℕ) (r : Solving) → rounds n at s ≡ done r → Fair r × Rests r
unfolding rounds
ends_in zero s F h at r e = absurd (not-suc-le-zero h)
ends_in (suc n) s F h at r e = go (take_class s.classes s.constraints s.classes) refl (λ u G l q. ends_in n u G l at r q) e
  where
    go : (o : Option (ℕ × Constraint)) → take_class s.classes s.constraints s.classes ≡ o → ((u : Solving) → Fair u → cost u < n → rounds n at u ≡ done r → Fair r × Rests r) →
        then_on n at s o ≡ done r → Fair r × Rests r
    go none q f d = let z = done_once d in rw (← z) (F, q)
    go (some (low, c)) q f d =
        let x = bind_done (round s at low c) (rounds n at) r d in
        let l = falls s F at low c x.0 q x.1 in
        f x.0 (keeps s F at low c x.0 q x.1) (omega arith) x.2

turns_agree : (n m : ℕ) (s : Solving) → Fair s → cost s < n → cost s < m → (at : ℕ) → rounds n at s ≡ rounds m at s
unfolding rounds
turns_agree zero m s F h k at = absurd (not-suc-le-zero h)
turns_agree (suc n) zero s F h k at = absurd (not-suc-le-zero k)
turns_agree (suc n) (suc m) s F h k at = go (take_class s.classes s.constraints s.classes) refl (λ u G a b. turns_agree n m u G a b at)
  where
    after : (low : ℕ) (c : Constraint) → take_class s.classes s.constraints s.classes ≡ some (low, c) → ((u : Solving) → Fair u → cost u < n → cost u < m → rounds n at u ≡ rounds m at u) →
        (o : Outcome Solving) → round s at low c ≡ o → (o >>= rounds n at) ≡ (o >>= rounds m at)
    after low c q f (refused r) e = refl
    after low c q f (done u) e = let l = falls s F at low c u q e in f u (keeps s F at low c u q e) (omega arith) (omega arith)

    go : (o : Option (ℕ × Constraint)) → take_class s.classes s.constraints s.classes ≡ o → ((u : Solving) → Fair u → cost u < n → cost u < m → rounds n at u ≡ rounds m at u) →
        then_on n at s o ≡ then_on m at s o
    go none q f = refl
    go (some (low, c)) q f = after low c q f (round s at low c) refl

below_most : (s : Solving) → cost s < most_rounds
unfolding most_rounds
below_most s = let a = bounded s in omega arith

-- when the rounds stop, no class is left to take; and that says: no class has a constrained member
pub until : (s : Solving) → Fair s → (at : ℕ) (r : Solving) → rounds most_rounds at s ≡ done r → take_class r.classes r.constraints r.classes ≡ none
until s F at r e = (ends_in most_rounds s F (below_most s) at r e).1

pub rounds_fair : (s : Solving) → Fair s → (at : ℕ) (r : Solving) → rounds most_rounds at s ≡ done r → Fair r
rounds_fair s F at r e = (ends_in most_rounds s F (below_most s) at r e).0

pub unconstrained : (s : Solving) → Fair s → (at : ℕ) (r : Solving) → rounds most_rounds at s ≡ done r → (n v : ℕ) → look r.classes n ≡ some v → look r.constraints n ≡ none
unconstrained s F at r e = (none_left r (rounds_fair s F at r e)).0 (until s F at r e)

-- more turns never change the answer
pub enough : (s : Solving) → Fair s → (at n : ℕ) → most_rounds ≤ n → rounds n at s ≡ rounds most_rounds at s
enough s F at n h = turns_agree n most_rounds s F (let a = below_most s in omega arith) (below_most s) at

-- ---- why the lowest member taken tells nothing: it may fall

-- the lowest members that the first rounds take
abbrev lows : ℕ → Solving → List ℕ
lows zero s = []
lows (suc n) s = elim (take_class s.classes s.constraints s.classes) [ none ↦ [] | some p ↦ p.0 ∷ elim (round s 0 p.0 p.1) [ refused r ↦ [] | done u ↦ lows n u ] ]

-- 1 and 2 are structures of one field, with children 3 and 4; 3 is 5; 0 = 4; 1 = 2
abbrev falling : Outcome Loading
falling = load_items (no_items (argument 0 ∷ argument 1 ∷ argument 2 ∷ [])) 0 (Is 1 (Struct 0 1) ∷ Is 2 (Struct 0 1) ∷ Is 3 (ConstInt 0 0 5) ∷ Equal 0 4 ∷ Equal 1 2 ∷ [])

pub lowest_falls : (falling >>= λ l. done (lows 3 (started l))) ≡ done (1 ∷ 0 ∷ [])
unfolding all_loading
lowest_falls = refl

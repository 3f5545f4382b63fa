-- What the comparison of two kept rules of a set means: the proofs of Overlaps.antt.
use Rattle.std.specs.Prelude.{◌≡◌, Bool, true, false, not, ◌&&◌, ◌↔◌, ◌⊎◌, length, leb, ltb}
use Rattle.std.proofs.Math.Path.{refl, sym, ap}
use Rattle.std.proofs.Common.{◌∙◌, leb-true, leb-false, ltb-true}
use Rattle.std.proofs.Math.Option.{Option, none, some}
use Rattle.std.proofs.Math.Logic.{inl, inr}
use mathlib.Core.List.Memᴰ
use mathlib.Core.List.{List, [], ◌∷◌, ◌++◌, Memᴰ}
use Prim.Native.Nat.{ℕ, ◌+◌, ◌≤◌, ◌<◌}
use native.Mathlib.Omega.{arith}
use Rattle.paper.specs.declared.Constraint.{Constraint}
use Rattle.paper.specs.declared.Overlap.{Overlap}
use Rattle.paper.specs.declared.Overlap.TheVariants.{No, Yes, Subset}
use Rattle.std.specs.Prelude.{if◌then◌else◌}
use Rattle.paper.specs.Words.{look, every}
use Rattle.paper.specs.Sites.{Sites, same_constraint, child_count, child_number, Sound, Extends}
use Rattle.paper.specs.Inputs.{Given, Input, Meets, Agree, MatchesKept, shape}
use Rattle.paper.specs.Loading.{Set, Kept, Labels, Constraints, Made, begun, site_added, rule_loaded, lowest, empty_set, with_sites}
use Rattle.paper.specs.Rules.{other_there, same_there, differ, within, no_equals, compare_with, may_overlap, total, rank, is_subset_told, masks}
use Rattle.paper.proofs.Laws.{same_constraint_true}
use Rattle.paper.proofs.Labels.{never}
use Rattle.paper.proofs.Adding.{add_extends}
use Rattle.paper.proofs.Tables.{look_in, in_look}
use Rattle.paper.proofs.Making.{made_sound}
use Rattle.paper.proofs.Lists.{and_both}
use Rattle.meaning.specs.Values.{proj_at}
use Rattle.meaning.specs.Kinds.{child_of, kind_in, Held, input_is}
use Rattle.meaning.specs.Model.{Rooted, Solved, model_exists, forced_shape, forced_equal}
use Rattle.meaning.specs.Whole.{rooted_stays}
use Rattle.meaning.specs.Places.{places_of, child_kind}
use Rattle.meaning.specs.Grow.{full_grows}
use Rattle.meaning.specs.Lists.{of_any, in_any}
use Rattle.meaning.specs.Items.{same_constraint_refl}
use Rattle.meaning.specs.Joining.{label_of}
use Rattle.meaning.specs.Demand3.{HoldsEqual}
use Rattle.meaning.specs.Answers as A
use Rattle.meaning.specs.Answers.{Stands, form, fulfils_kept, last_kept}

-- ---- the kept rules of a made set are solved forms

stands_on : (t u : Sites) (k : Kept) → Extends t u → Stands t k → Stands u k
stands_on t u k x W =
    record { rising = W.rising; well = W.well; full = full_grows t u (look k.constraints) (lowest k.equals) x W.full; free = W.free }

pub made_stands : {g : Set} → Made g → (k : Kept) → Memᴰ k g.kept → Stands g.sites k
unfolding empty_set with_sites
made_stands (begun term flags) k m = elim m [ ]
made_stands (site_added {g = g} at s a M e) k m = stands_on g.sites a.sites k (add_extends g.sites at s a e) (made_stands M k m)
made_stands (rule_loaded {g = g} {h = h} r M e) k m = go (last_kept g r h e) (λ j q. made_stands M j q)
  where
    go : (j : Kept) × (h.kept ≡ g.kept ++ (j ∷ [])) × (j.place ≡ r.place) × (j.priority ≡ r.priority) →
        ((j : Kept) → Memᴰ j g.kept → Stands g.sites j) → Stands h.sites k
    go (j, last, p, q) before = pick (Memᴰ.append_cases g.kept (rw last at m))
      where
        pick : Memᴰ k g.kept ⊎ Memᴰ k (j ∷ []) → Stands h.sites k
        pick (inl z) = let w = A.grown g r (made_sound M) h j e last in stands_on g.sites h.sites k (λ i s f. w.1 i s (w.0 i s f)) (before k z)
        pick (inr z) = let y = Memᴰ.eq_of_singleton z in rw y (A.new_stands g r (made_sound M) h j e last)

-- ---- what a kept rule forces, in its set however that grew

module _ (t : Sites) (S : Sound t) (k : Kept) (W : Stands t k) where
  abbrev con : ℕ → Option Constraint
  con = look k.constraints

  abbrev rep : ℕ → ℕ
  rep = lowest k.equals

  pub stands_matched : (at : Given) × Input t at × MatchesKept at k
  stands_matched = let m = model_exists (kind_in t) (length t) con (child_number t) rep (places_of t S) (form t k W) in
      (m.0, (input_is t m.0).1 m.1, (fulfils_kept k W.well m.0).1 m.2)

  pub stands_shape : (n : ℕ) (c : Constraint) → (look k.constraints n ≡ some c) ↔ ((at : Given) → Input t at → MatchesKept at k → Meets at n c)
  stands_shape n c = (
    λ e at I M. M.meets n c e,
    λ h. forced_shape (kind_in t) (length t) con (child_number t) rep (places_of t S) (form t k W) n c
        (λ at I F. h at ((input_is t at).1 I) ((fulfils_kept k W.well at).1 F)),
  )

  pub stands_equal : (a b : ℕ) → (a ≡ b → ⊥) → look k.constraints a ≡ none → look k.constraints b ≡ none →
      HoldsEqual k a b ↔ ((at : Given) → Input t at → MatchesKept at k → Agree at a b)
  stands_equal a b d p q = (
    λ e at I M. M.agrees a b e.0 e.1 e.2,
    λ h. held (forced_equal (kind_in t) (length t) con (child_number t) rep
        (places_of t S) (form t k W) a b d p q (λ at I F. h at ((input_is t at).1 I) ((fulfils_kept k W.well at).1 F))),
  )
    where
      held : Held rep a b → HoldsEqual k a b
      held e =
          (rep a, label_of k.equals W.well a b e.same d, label_of k.equals W.well b a (sym e.same) (λ z. d (sym z)) ∙ ap some (sym e.same))

-- ---- the tests, as facts

every_is : {A : Type 0} (p : A → Bool) (xs : List A) → every p xs ≡ true → (x : A) → Memᴰ x xs → p x ≡ true
unfolding every
every_is {A = A} p [] e x x4 = elim x4 [ ]
every_is p (y ∷ xs) e x (Memᴰ.head q) = rw q (and_both (p y) (every p xs) e).0
every_is p (y ∷ xs) e x (Memᴰ.tail m) = every_is p xs (and_both (p y) (every p xs) e).1 x m

is_every : {A : Type 0} (p : A → Bool) (xs : List A) → ((x : A) → Memᴰ x xs → p x ≡ true) → every p xs ≡ true
unfolding every
is_every p [] f = refl
is_every p (y ∷ xs) f = rw (f y (Memᴰ.head refl)) (is_every p xs (λ x m. f x (Memᴰ.tail m)))

other_is : (o : Option Constraint) (c : Constraint) → other_there o c ≡ true → (d : Constraint) × (o ≡ some d) × (c ≡ d → ⊥)
other_is none c e = let z : ◌≡◌ {A = ℕ} 0 1 = cc in absurd (omega arith)
other_is (some d) c e = (
  d,
  refl,
  λ q. let s : same_constraint c d ≡ true = rw (← q) (same_constraint_refl c) in let y : not true ≡ true = rw s at e in
      let z : ◌≡◌ {A = ℕ} 0 1 = cc in omega arith,
)

same_is : (o : Option Constraint) (c : Constraint) → same_there o c ≡ true → o ≡ some c
same_is none c e = let z : ◌≡◌ {A = ℕ} 0 1 = cc in absurd (omega arith)
same_is (some d) c e = ap some (sym (same_constraint_true c d e))

-- two constraint tables that differ nowhere
differs_not : (small large : Constraints) → differ small large ≡ false → (n : ℕ) (c d : Constraint) → look small n ≡ some c → look large n ≡ some d → c ≡ d
unfolding differ
differs_not small large e n c d p q = go (same_constraint c d) refl
  where
    go : (b : Bool) → same_constraint c d ≡ b → c ≡ d
    go true s = same_constraint_true c d s
    go false s =
        let w : other_there (look large n) c ≡ true = rw (q, s) refl in
        let a = in_any (λ (x : ℕ × Constraint). other_there (look large x.0) x.1) small (n, c) (look_in small n c p) w in
        let z : ◌≡◌ {A = ℕ} 0 1 = cc in
        absurd (omega arith)

pub no_labels : (k : Labels) → no_equals k ≡ true → (n v : ℕ) → look k n ≡ some v → ⊥
unfolding look
no_labels [] e n v q = never q
no_labels (p ∷ ps) e n v q = let z : ◌≡◌ {A = ℕ} 0 1 = cc in omega arith

-- the three answers
data Compared (small large : Kept) : Overlap → Type 0 where
  no_is : differ small.constraints large.constraints ≡ true → Compared small large No
  yes_is : differ small.constraints large.constraints ≡ false →
      (no_equals small.equals ≡ true → no_equals large.equals ≡ true → within small.constraints large.constraints ≡ true → ⊥) →
      Compared small large Yes
  subset_is : differ small.constraints large.constraints ≡ false → no_equals small.equals ≡ true → no_equals large.equals ≡ true →
      within small.constraints large.constraints ≡ true → Compared small large Subset

compared : (small large : Kept) → Compared small large (compare_with small large)
unfolding compare_with
compared small large = go (differ small.constraints large.constraints) refl (no_equals small.equals) refl (no_equals large.equals) refl
    (within small.constraints large.constraints) refl
  where
    apart : {x : Bool} → x ≡ false → x ≡ true → ⊥
    apart p q = let z : ◌≡◌ {A = ℕ} 0 1 = cc in omega arith

    go : (a : Bool) → differ small.constraints large.constraints ≡ a → (b : Bool) → no_equals small.equals ≡ b → (c : Bool) →
        no_equals large.equals ≡ c → (d : Bool) → within small.constraints large.constraints ≡ d →
        Compared small large (if a then No else (if b && (c && d) then Subset else Yes))
    go true p b q c r d s = no_is p
    go false p true q true r true s = subset_is p q r s
    go false p true q true r false s = yes_is p (λ x y z. apart s z)
    go false p true q false r d s = yes_is p (λ x y z. apart r y)
    go false p false q c r d s = yes_is p (λ x y z. apart q x)

-- ---- No

compare_no : (t : Sites) (a b : Kept) → Stands t a → compare_with a b ≡ No → (at : Given) → MatchesKept at a → MatchesKept at b → ⊥
compare_no t a b W e at M N = go (compared a b) e
  where
    go : {o : Overlap} → Compared a b o → o ≡ No → ⊥
    go (yes_is p f) q = let z : ◌≡◌ {A = ℕ} 0 1 = cc in omega arith
    go (subset_is p b c d) q = let z : ◌≡◌ {A = ℕ} 0 1 = cc in omega arith
    go (no_is p) q = clash (of_any (λ (x : ℕ × Constraint). other_there (look b.constraints x.0) x.1) a.constraints (unfold differ in p))
      where
        clash : (x : ℕ × Constraint) × Memᴰ x a.constraints × (other_there (look b.constraints x.0) x.1 ≡ true) → ⊥
        clash ((n, c), m, o) =
            let r = other_is (look b.constraints n) c o in
            let x = M.meets n c (in_look 0 a.constraints (n, c) W.rising m) in
            let y = N.meets n r.0 r.1 in
            let xt = x.there in
            let yt = y.there in
            let v : x.value ≡ y.value = cc in
            let s : some c ≡ some r.0 = sym x.shaped ∙ (ap shape v ∙ y.shaped) in
            r.2 (let w : c ≡ r.0 = cc in w)

pub overlap_no : (t : Sites) (a b : Kept) → Stands t a → Stands t b → may_overlap a b ≡ No → (at : Given) → MatchesKept at a → MatchesKept at b → ⊥
unfolding may_overlap
overlap_no t a b W X e at M N = go (leb (length a.constraints) (length b.constraints)) e
  where
    go : (s : Bool) → (if s then compare_with a b else compare_with b a) ≡ No → ⊥
    go true q = compare_no t a b W q at M N
    go false q = compare_no t b a X q at N M

-- ---- both constraint tables at once: where they differ nowhere, and no equalities are left, some input matches both

abbrev either : Option Constraint → Option Constraint → Option Constraint
either none o = o
either (some c) o = some c

module _ (t : Sites) (S : Sound t) (a b : Kept) (W : Stands t a) (X : Stands t b)
    (fine : (n : ℕ) (c d : Constraint) → look a.constraints n ≡ some c → look b.constraints n ≡ some d → c ≡ d)
    (none-a : no_equals a.equals ≡ true) (none-b : no_equals b.equals ≡ true) where
  both : ℕ → Option Constraint
  both n = either (look a.constraints n) (look b.constraints n)

  from_a : (n : ℕ) (c : Constraint) → look a.constraints n ≡ some c → both n ≡ some c
  unfolding both
  from_a n c e = rw e

  from_b : (n : ℕ) (c : Constraint) → look b.constraints n ≡ some c → both n ≡ some c
  unfolding both
  from_b n c e = go (look a.constraints n) refl
    where
      go : (o : Option Constraint) → look a.constraints n ≡ o → either o (look b.constraints n) ≡ some c
      go none q = e
      go (some d) q = ap some (fine n d c q e)

  of_both : (n : ℕ) (c : Constraint) → both n ≡ some c → (look a.constraints n ≡ some c) ⊎ (look b.constraints n ≡ some c)
  unfolding both
  of_both n c e = go (look a.constraints n) refl e
    where
      go : (o : Option Constraint) → look a.constraints n ≡ o → either o (look b.constraints n) ≡ some c →
          (look a.constraints n ≡ some c) ⊎ (look b.constraints n ≡ some c)
      go none q f = inr f
      go (some d) q f = inl (q ∙ f)

  both_form : Solved (kind_in t) both (child_number t) (λ n. n)
  both_form = record {
    kids = λ n c i e h. kids n c i h (of_both n c e);
    rooted = λ n c e. rooted n c (of_both n c e);
    joined_rooted = λ x y e d. absurd (d e);
    joined_free = λ x y e d. absurd (d e);
  }
    where
      kids : (n : ℕ) (c : Constraint) (i : ℕ) → i < child_count c → (look a.constraints n ≡ some c) ⊎ (look b.constraints n ≡ some c) →
          kind_in t (child_number t n c i) ≡ child_of n (proj_at c i)
      kids n c i h (inl e) = child_kind t n c i (W.full.has n c i e h)
      kids n c i h (inr e) = child_kind t n c i (X.full.has n c i e h)

      rooted : (n : ℕ) (c : Constraint) → (look a.constraints n ≡ some c) ⊎ (look b.constraints n ≡ some c) → Rooted (kind_in t) both n
      rooted n c (inl e) = rooted_stays (kind_in t) (look a.constraints) both from_a n (W.full.rooted n c e)
      rooted n c (inr e) = rooted_stays (kind_in t) (look b.constraints) both from_b n (X.full.rooted n c e)

  pub common : (at : Given) × Input t at × MatchesKept at a × MatchesKept at b
  common =
      let m = model_exists (kind_in t) (length t) both (child_number t) (λ n. n) (places_of t S) both_form in (
        m.0,
        (input_is t m.0).1 m.1,
        record { meets = λ n c e. m.2.meets n c (from_a n c e); agrees = λ x y low p q. absurd (no_labels a.equals none-a x low p) },
        record { meets = λ n c e. m.2.meets n c (from_b n c e); agrees = λ x y low p q. absurd (no_labels b.equals none-b x low p) },
      )

abbrev pub Common : Sites → Kept → Kept → Type 0
Common t a b = (at : Given) × Input t at × MatchesKept at a × MatchesKept at b

compare_either : (t : Sites) → Sound t → (a b : Kept) → Stands t a → Stands t b → no_equals a.equals ≡ true → no_equals b.equals ≡ true →
    (compare_with a b ≡ No) ⊎ Common t a b
compare_either t S a b W X na nb = go (compared a b)
  where
    go : {o : Overlap} → Compared a b o → (o ≡ No) ⊎ Common t a b
    go (no_is p) = inl refl
    go (yes_is p f) = inr (common t S a b W X (differs_not a.constraints b.constraints p) na nb)
    go (subset_is p q r s) = inr (common t S a b W X (differs_not a.constraints b.constraints p) na nb)

-- the answer is No, or some input matches both
pub overlap_either : (t : Sites) → Sound t → (a b : Kept) → Stands t a → Stands t b → no_equals a.equals ≡ true → no_equals b.equals ≡ true →
    (may_overlap a b ≡ No) ⊎ Common t a b
unfolding may_overlap
overlap_either t S a b W X na nb = go (leb (length a.constraints) (length b.constraints))
  where
    flip : (compare_with b a ≡ No) ⊎ Common t b a → (compare_with b a ≡ No) ⊎ Common t a b
    flip (inl e) = inl e
    flip (inr c) = inr (c.0, c.1, c.3, c.2)

    go : (s : Bool) → ((if s then compare_with a b else compare_with b a) ≡ No) ⊎ Common t a b
    go true = compare_either t S a b W X na nb
    go false = flip (compare_either t S b a X W nb na)

-- ---- Subset

pub compare_subset : (small large : Kept) → compare_with small large ≡ Subset → (at : Given) → MatchesKept at large → MatchesKept at small
compare_subset small large e at M = go (compared small large) e
  where
    go : {o : Overlap} → Compared small large o → o ≡ Subset → MatchesKept at small
    go (no_is p) q = let z : ◌≡◌ {A = ℕ} 0 1 = cc in absurd (omega arith)
    go (yes_is p f) q = let z : ◌≡◌ {A = ℕ} 0 1 = cc in absurd (omega arith)
    go (subset_is p ns nl w) q = record {
      meets = λ n c f. M.meets n c (same_is (look large.constraints n) c (every_is
          (λ (x : ℕ × Constraint). same_there (look large.constraints x.0) x.1) small.constraints (unfold within in w) (n, c)
          (look_in small.constraints n c f)));
      agrees = λ x y low p q. absurd (no_labels small.equals ns x low p);
    }

pub subset_compare : (t : Sites) → Sound t → (small large : Kept) → Stands t small → Stands t large → no_equals small.equals ≡ true →
    no_equals large.equals ≡ true → ((at : Given) → Input t at → MatchesKept at large → MatchesKept at small) → compare_with small large ≡ Subset
unfolding within differ
subset_compare t S small large W X ns nl h = go (compared small large)
  where
    forced : (n : ℕ) (c : Constraint) → look small.constraints n ≡ some c → look large.constraints n ≡ some c
    forced n c e = (stands_shape t S large X n c).1 (λ at I M. (h at I M).meets n c e)

    one : (x : ℕ × Constraint) → Memᴰ x small.constraints → same_there (look large.constraints x.0) x.1 ≡ true
    one (n, c) m = let e = forced n c (in_look 0 small.constraints (n, c) W.rising m) in rw e (same_constraint_refl c)

    clash : (x : ℕ × Constraint) × Memᴰ x small.constraints × (other_there (look large.constraints x.0) x.1 ≡ true) → ⊥
    clash ((n, c), m, o) =
        let r = other_is (look large.constraints n) c o in
        let e = forced n c (in_look 0 small.constraints (n, c) W.rising m) in
        let q : some c ≡ some r.0 = sym e ∙ r.1 in
        r.2 (let w : c ≡ r.0 = cc in w)

    go : {o : Overlap} → Compared small large o → o ≡ Subset
    go (subset_is p q r s) = refl
    go (no_is p) = absurd (clash (of_any (λ (x : ℕ × Constraint). other_there (look large.constraints x.0) x.1) small.constraints p))
    go (yes_is p f) = absurd (f ns nl (is_every (λ (x : ℕ × Constraint). same_there (look large.constraints x.0) x.1) small.constraints one))

-- ---- masks

pub masks_covers : (a b : Kept) → masks a b ≡ true → (rank b.priority < rank a.priority) × ((at : Given) → MatchesKept at b → MatchesKept at a)
unfolding masks may_overlap
masks_covers a b e =
    let x = and_both (ltb (rank b.priority) (rank a.priority)) (is_subset_told (may_overlap a b) && leb (total a) (total b)) e in
    let y = and_both (is_subset_told (may_overlap a b)) (leb (total a) (total b)) x.1 in (
      ltb-true (rank b.priority) (rank a.priority) x.0,
      λ at M. covers (leb (length a.constraints) (length b.constraints)) refl y.0 (leb-true (total a) (total b) y.1) at M,
    )
  where
    is_subset : (o : Overlap) → is_subset_told o ≡ true → o ≡ Subset
    is_subset No q = let z : ◌≡◌ {A = ℕ} 0 1 = cc in absurd (omega arith)
    is_subset Yes q = let z : ◌≡◌ {A = ℕ} 0 1 = cc in absurd (omega arith)
    is_subset Subset q = refl

    plain : (k : Labels) → no_equals k ≡ true → length k ≡ 0
    plain [] q = refl
    plain (p ∷ ps) q = let z : ◌≡◌ {A = ℕ} 0 1 = cc in absurd (omega arith)

    longer : {o : Overlap} → Compared b a o → o ≡ Subset → total a ≤ total b → length b.constraints < length a.constraints → ⊥
    longer (no_is p) q h l = let z : ◌≡◌ {A = ℕ} 0 1 = cc in omega arith
    longer (yes_is p f) q h l = let z : ◌≡◌ {A = ℕ} 0 1 = cc in omega arith
    longer (subset_is p nb na w) q h l = let u = plain b.equals nb in let v = plain a.equals na in
        let i : length a.constraints + length a.equals ≤ length b.constraints + length b.equals = unfold total in h in omega arith

    covers : (s : Bool) → leb (length a.constraints) (length b.constraints) ≡ s → is_subset_told (if s then compare_with a b else compare_with b a) ≡ true →
        total a ≤ total b → (at : Given) → MatchesKept at b → MatchesKept at a
    covers true p q h at M = compare_subset a b (is_subset (compare_with a b) q) at M
    covers false p q h at M =
        absurd (longer (compared b a) (is_subset (compare_with b a) q) h (leb-false (length a.constraints) (length b.constraints) p))

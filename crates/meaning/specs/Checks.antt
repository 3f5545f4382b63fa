-- The class check of paper, both ways: what 4 and 6 refuse no input matches, and what they let pass some input matches.
use Rattle.std.proofs.Math.Path.{◌≡◌, refl, sym, ap}
use Rattle.std.proofs.Common.{ap₂, ◌∙◌, not-suc-le-zero, length-append}
use Rattle.std.proofs.Math.Option.{Option, none, some}
use Rattle.std.specs.Prelude.{Bool, ◌↔◌, ◌⊎◌, length}
use Rattle.std.proofs.Math.Bool.{true, false, not}
use Rattle.std.proofs.Math.Logic.{inl, inr}
use mathlib.Core.List.{List, [], ◌∷◌, ◌++◌, map, Memᴰ}
use Prim.Native.Nat.{ℕ, zero, suc, ◌+◌, ◌≤◌, ◌<◌}
use native.Mathlib.Omega.{arith}
use Rattle.std.proofs.Math.Decide.{ℕ_discrete}
use Rattle.std.proofs.Math.Dec.{eqb}
use borrow.Author.Tests.{eqb-true, eqb-false}
use Rattle.paper.specs.declared.Constraint.{Constraint}
use Rattle.paper.specs.declared.Item.{Item}
use Rattle.std.specs.Prelude.{if◌then◌else◌}
use Rattle.paper.specs.Words.{look, below, zip, joined, pairs, keep, Edges, Walk, one, more, returns}
use Rattle.paper.specs.Sites.{same_constraint, child_count, child_number}
use Rattle.paper.specs.Inputs.{Value, Given, shape, and_then}
use Rattle.paper.specs.Loading.{Loading, Labels, Constraints, Holder, holder, holders, lowest, join_all, Together, written_so, itself, back, through, like, alike, turn, pass, same_classes, close, closure, closure_of, first_holder, differs, conflict, steps, endless}
use Rattle.paper.proofs.Laws.{same_constraint_true}
use Rattle.paper.proofs.Closure.{of_below, in_below, closure_is}
use Rattle.paper.proofs.Walks.{returns_is}
use Rattle.meaning.specs.Values.{proj_at, field, size, field_in, field_size}
use Rattle.meaning.specs.Kinds.{kind_in, Reads, Fulfils}
use Rattle.meaning.specs.Model.{Rooted}
use Rattle.meaning.specs.Round.{Grown}
use Rattle.meaning.specs.Generic.{Ordered, free_value, matches}
use Rattle.meaning.specs.Eval.{value_of}
use Rattle.paper.proofs.Tables.{in_look, look_in, in_keep, of_keep, lowest_own}
use Rattle.meaning.specs.Places.{child_kind, places_of}
use Rattle.meaning.specs.Lists.{least_none, least_some, first_some, first_none}
use Rattle.meaning.specs.Joining.{Well, none_well, all_well}
use Rattle.meaning.specs.Items.{Part, same_constraint_refl}

-- the size of a value, or of none
abbrev weight : Option Value → ℕ
weight none = 0
weight (some x) = size x

-- ---- lists of like-numbered things

below_length : {A : Type 0} (n : ℕ) (f : ℕ → A) → length (below n f) ≡ n
unfolding below
below_length zero f = refl
below_length (suc n) f = let h = below_length n f in simp length-append (omega arith)

zip_snoc : (xs ys : List ℕ) (x y : ℕ) → length xs ≡ length ys → zip (xs ++ (x ∷ [])) (ys ++ (y ∷ [])) ≡ zip xs ys ++ ((x, y) ∷ [])
unfolding zip
zip_snoc [] [] x y e = refl
zip_snoc [] (b ∷ ys) x y e = absurd (omega arith)
zip_snoc (a ∷ xs) [] x y e = absurd (omega arith)
zip_snoc (a ∷ xs) (b ∷ ys) x y e = ap (λ r. (a, b) ∷ r) (zip_snoc xs ys x y (omega arith))

zip_below : (n : ℕ) (f g : ℕ → ℕ) → zip (below n f) (below n g) ≡ below n (λ i. (f i, g i))
unfolding below
zip_below zero f g = unfold zip in refl
zip_below (suc n) f g =
    zip_snoc (below n f) (below n g) (f n) (g n) (below_length n f ∙ sym (below_length n g)) ∙ ap (λ r. r ++ ((f n, g n) ∷ [])) (zip_below n f g)

pub of_joined : {A : Type 0} (xss : List (List A)) (x : A) → Memᴰ x (joined xss) → (xs : List A) × Memᴰ xs xss × Memᴰ x xs
unfolding joined
of_joined [] x m = elim m [ ]
of_joined (ys ∷ xss) x m = go (mathlib.Core.List.Memᴰ.append_cases ys m) (λ q. of_joined xss x q)
  where
    go : Memᴰ x ys ⊎ Memᴰ x (joined xss) → (Memᴰ x (joined xss) → (xs : List _) × Memᴰ xs xss × Memᴰ x xs) →
        (xs : List _) × Memᴰ xs (ys ∷ xss) × Memᴰ x xs
    go (inl q) r = (ys, mathlib.Core.List.Memᴰ.head refl, q)
    go (inr q) r = let w = r q in (w.0, mathlib.Core.List.Memᴰ.tail w.1, w.2)

pub in_joined : {A : Type 0} (xss : List (List A)) (xs : List A) (x : A) → Memᴰ xs xss → Memᴰ x xs → Memᴰ x (joined xss)
unfolding joined
in_joined {A = A} [] xs x x4 m = elim x4 [ ]
in_joined (ys ∷ xss) xs x (mathlib.Core.List.Memᴰ.head e) m = mathlib.Core.List.Memᴰ.append_left (joined xss) (rw e at m)
in_joined (ys ∷ xss) xs x (mathlib.Core.List.Memᴰ.tail k) m = mathlib.Core.List.Memᴰ.append_right ys (in_joined xss xs x k m)

-- ---- how many numbers below n pass a test

abbrev bit : Bool → ℕ
bit true = 1
bit false = 0

abbrev tally : ℕ → (ℕ → Bool) → ℕ
tally zero f = 0
tally (suc n) f = bit (f n) + tally n f

bit_le : (a b : Bool) → (a ≡ true → b ≡ true) → bit a ≤ bit b
bit_le true b h = rw (h refl) (omega arith)
bit_le false b h = omega arith

tally_le : (n : ℕ) (f g : ℕ → Bool) → ((k : ℕ) → f k ≡ true → g k ≡ true) → tally n f ≤ tally n g
tally_le zero f g h = omega arith
tally_le (suc n) f g h = let a = bit_le (f n) (g n) (h n) in let b = tally_le n f g h in omega arith

tally_less : (n x : ℕ) (f g : ℕ → Bool) → ((k : ℕ) → f k ≡ true → g k ≡ true) → x < n → f x ≡ false → g x ≡ true → tally n f < tally n g
tally_less zero x f g h l p q = absurd (not-suc-le-zero l)
tally_less (suc n) x f g h l p q = go (λ k. tally_less n x f g h k p q) (ℕ_discrete n x)
  where
    go : (x < n → tally n f < tally n g) → Dec (n ≡ x) → tally (suc n) f < tally (suc n) g
    go rest (yes e) =
        let a = ap bit (ap f e ∙ p) in
        let b = ap bit (ap g e ∙ q) in
        let r = tally_le n f g h in
        omega arith
    go rest (no e) = let a = bit_le (f n) (g n) (h n) in let r = rest (omega arith) in omega arith

-- ---- the computed labels are well made

turn_well : (k : Labels) (p : Holder × Holder) → Well k → Well (turn k p)
unfolding turn
turn_well k p W = go (alike k p.0 p.1)
  where
    go : (b : Bool) → Well (if b then join_all k (zip p.0.kids p.1.kids) else k)
    go true = all_well (zip p.0.kids p.1.kids) k W
    go false = W

pass_well : (ps : List (Holder × Holder)) (k : Labels) → Well k → Well (pass k ps)
unfolding pass
pass_well [] k W = W
pass_well (p ∷ ps) k W = pass_well ps (turn k p) (turn_well k p W)

close_well : (n : ℕ) (hs : List Holder) (k : Labels) → Well k → Well (close n hs k)
unfolding close
close_well zero hs k W = W
close_well (suc n) hs k W = go (same_classes (pass k (pairs hs)) k) (close_well n hs (pass k (pairs hs)) (pass_well (pairs hs) k W))
  where
    go : (b : Bool) → Well (close n hs (pass k (pairs hs))) → Well (elim b as (λ _. Labels) [ true ↦ k | false ↦ close n hs (pass k (pairs hs)) ])
    go true r = W
    go false r = r

pub closure_well : (l : Loading) → Well (closure l)
unfolding closure closure_of
closure_well l = close_well (suc (length l.sites)) (holders l) (join_all [] l.equalities) (all_well l.equalities [] none_well)

-- ---- the holders

module _ (items : List Item) (l : Loading) (P : Part items l) where
  abbrev con : ℕ → Option Constraint
  con = look l.constraints

  abbrev kid : ℕ → Constraint → ℕ → ℕ
  kid = child_number l.sites

  abbrev hs : List Holder
  hs = holders l

  pub record HeldBy (h : Holder) : Type 0 where
    pub has : con h.site ≡ some h.shape
    pub kids_are : h.kids ≡ below (child_count h.shape) (kid h.site h.shape)

  of_holders : (h : Holder) → Memᴰ h hs → HeldBy h
  unfolding holders holder
  of_holders h m =
      let r = mathlib.Core.List.Memᴰ.of_map (holder l.sites) l.constraints m in
      let e : holder l.sites r.0 ≡ h = r.2 in
      rw (← e) (record { has = in_look 0 l.constraints r.0 P.rising r.1; kids_are = refl })

  in_holders : (n : ℕ) (c : Constraint) → con n ≡ some c → Memᴰ (holder l.sites (n, c)) hs
  unfolding holders
  in_holders n c e = mathlib.Core.List.Memᴰ.map (holder l.sites) (look_in l.constraints n c e)

  -- like-numbered children of two holders under one constraint
  of_kids : (h g : Holder) → Memᴰ h hs → Memᴰ g hs → h.shape ≡ g.shape → (p : ℕ × ℕ) → Memᴰ p (zip h.kids g.kids) →
      (i : ℕ) × (i < child_count h.shape) × (p ≡ (kid h.site h.shape i, kid g.site h.shape i))
  of_kids h g m n e p q =
      let H = of_holders h m in
      let G = of_holders g n in
      let c = h.shape in
      let z : zip h.kids g.kids ≡ below (child_count c) (λ i. (kid h.site c i, kid g.site c i)) =
      ap₂ zip H.kids_are (G.kids_are ∙ ap (λ (d : Constraint). below (child_count d) (kid g.site d)) (sym e))
      ∙ zip_below (child_count c) (kid h.site c) (kid g.site c) in
      of_below (child_count c) (λ i. (kid h.site c i, kid g.site c i)) p (rw z at q)

  in_kids : (a b : ℕ) (c : Constraint) (i : ℕ) → i < child_count c →
      Memᴰ (kid a c i, kid b c i) (zip (holder l.sites (a, c)).kids (holder l.sites (b, c)).kids)
  unfolding holder
  in_kids a b c i h = rw (zip_below (child_count c) (kid a c) (kid b c)) (in_below (child_count c) (λ j. (kid a c j, kid b c j)) i h)

  -- ---- the classes

  -- without a site there is no item
  no_constraints : length l.sites ≡ 0 → (cs : Constraints) → l.constraints ≡ cs → cs ≡ []
  no_constraints z [] e = refl
  no_constraints z ((n, c) ∷ cs) e =
      let q : con n ≡ some c = in_look 0 l.constraints (n, c) P.rising (rw e (mathlib.Core.List.Memᴰ.head refl)) in
      let h = P.known n (P.named_con n c q) in
      absurd (omega arith)

  no_equalities : length l.sites ≡ 0 → (es : List (ℕ × ℕ)) → l.equalities ≡ es → es ≡ []
  no_equalities z [] e = refl
  no_equalities z ((a, b) ∷ es) e =
      let q : Memᴰ (a, b) l.equalities = rw e (mathlib.Core.List.Memᴰ.head refl) in
      let h = P.known a (P.named_eq a b q).0 in
      absurd (omega arith)

  empty_closure : length l.sites ≡ 0 → closure l ≡ []
  unfolding closure closure_of holders close pass pairs same_classes join_all
  empty_closure z = let a = no_constraints z l.constraints refl in let b = no_equalities z l.equalities refl in rw (a, b) refl

  pub closes : (x y : ℕ) → (lowest (closure l) x ≡ lowest (closure l) y) ↔ Together l.equalities (holders l) x y
  closes x y = go (length l.sites) refl
    where
      none_together : length l.sites ≡ 0 → {x y : ℕ} → Together l.equalities (holders l) x y → x ≡ y
      none_together z (written_so {a = a} {b = b} m) =
          let q = no_equalities z l.equalities refl in let w : Memᴰ {A = ℕ × ℕ} (a, b) [] = rw q at m in elim w [ ]
      none_together z itself = refl
      none_together z (back g) = sym (none_together z g)
      none_together z (through g h) = none_together z g ∙ none_together z h
      none_together z (like h g m n f t w) =
          let k = of_holders h m in let u = P.known h.site (P.named_con h.site h.shape k.has) in absurd (omega arith)

      own : length l.sites ≡ 0 → (n : ℕ) → lowest (closure l) n ≡ n
      own z n = lowest_own (closure l) n (unfold look in (rw (empty_closure z)))

      go : (k : ℕ) → length l.sites ≡ k → (lowest (closure l) x ≡ lowest (closure l) y) ↔ Together l.equalities (holders l) x y
      go zero z = (λ e. let q : x ≡ y = sym (own z x) ∙ (e ∙ own z y) in rw q itself, λ t. ap (lowest (closure l)) (none_together z t))
      go (suc k) z = closure_is l (omega arith) x y

  abbrev rep : ℕ → ℕ
  rep = lowest (closure l)

  rep_rep : (n : ℕ) → rep (rep n) ≡ rep n
  rep_rep n = (closure_well l).sound.function.idem n

  abbrev Wrote : ℕ → ℕ → Type 0
  Wrote a b = Memᴰ (a, b) l.equalities

  grown : Grown (kind_in l.sites) con kid
  grown = record { kids = λ n c i e h. child_kind l.sites n c i (P.has n c i e h) }

  -- a step from class to class: by a child of a constrained member
  record Edge (a b : ℕ) : Type 0 where
    member : ℕ
    shape : Constraint
    place : ℕ
    has : con member ≡ some shape
    inside : place < child_count shape
    from : a ≡ rep member
    to : b ≡ rep (kid member shape place)

  of_steps : (a b : ℕ) → Memᴰ (a, b) (steps (closure l) hs) → Edge a b
  unfolding steps
  of_steps a b m = go (of_joined (map (λ (h : Holder). map (λ c. (rep h.site, rep c)) h.kids) hs) (a, b) m)
    where
      last : (h : Holder) → HeldBy h → (v : ℕ) → Memᴰ v h.kids → ◌≡◌ {A = ℕ × ℕ} (rep h.site, rep v) (a, b) → Edge a b
      last h H v k e =
          let w : Memᴰ v (below (child_count h.shape) (kid h.site h.shape)) = rw H.kids_are at k in
          let u = of_below (child_count h.shape) (kid h.site h.shape) v w in
          record {
            member = h.site;
            shape = h.shape;
            place = u.0;
            has = H.has;
            inside = u.1;
            from = sym (ap (λ (x : ℕ × ℕ). x.0) e);
            to = sym (ap (λ (x : ℕ × ℕ). x.1) e) ∙ ap rep u.2;
          }

      next : (xs : Edges) → Memᴰ (a, b) xs → (h : Holder) → Memᴰ h hs → map (λ c. (rep h.site, rep c)) h.kids ≡ xs → Edge a b
      next xs q h n e =
          let q' : Memᴰ {A = ℕ × ℕ} (a, b) (map (λ c. (rep h.site, rep c)) h.kids) = rw e q in
          let v = mathlib.Core.List.Memᴰ.of_map (λ c. (rep h.site, rep c)) h.kids q' in
          last h (of_holders h n) v.0 v.1 v.2

      go : (xs : Edges) × Memᴰ xs (map (λ (h : Holder). map (λ c. (rep h.site, rep c)) h.kids) hs) × Memᴰ (a, b) xs → Edge a b
      go (xs, p, q) = let r = mathlib.Core.List.Memᴰ.of_map (λ (h : Holder). map (λ c. (rep h.site, rep c)) h.kids) hs p in next xs q r.0 r.1 r.2

  -- ---- soundness: in a matching input a class has one value, and a child's is smaller

  module _ (at : Given) (R : Reads (kind_in l.sites) at) (M : Fulfils at con Wrote) where
    kid_at : (n : ℕ) (c : Constraint) (i : ℕ) → con n ≡ some c → i < child_count c → at (kid n c i) ≡ and_then (at n) (field (proj_at c i))
    kid_at n c i e h = R.child_has (kid n c i) n (proj_at c i) (grown.kids n c i e h)

    together_same : {a b : ℕ} → Together l.equalities (holders l) a b → at a ≡ at b
    together_same (written_so {a = a} {b = b} m) = let g = M.agrees a b m in g.one ∙ sym g.other
    together_same itself = refl
    together_same (back t) = sym (together_same t)
    together_same (through t u) = together_same t ∙ together_same u
    together_same (like {a = a} {b = b} h g m n f t w) =
        let r = of_kids h g m n f (a, b) w in
        let c = h.shape in
        let i = r.0 in
        let ea : a ≡ kid h.site c i = ap (λ (x : ℕ × ℕ). x.0) r.2 in
        let eb : b ≡ kid g.site c i = ap (λ (x : ℕ × ℕ). x.1) r.2 in
        let ka = kid_at h.site c i (of_holders h m).has r.1 in
        let kb = kid_at g.site c i ((of_holders g n).has ∙ ap some (sym f)) r.1 in
        ap at ea ∙ (ka ∙ (ap (λ o. and_then o (field (proj_at c i))) (together_same t) ∙ (sym kb ∙ sym (ap at eb))))

    class_same : (a b : ℕ) → rep a ≡ rep b → at a ≡ at b
    class_same a b e = together_same ((closes a b).0 e)

    rep_same : (n : ℕ) → at (rep n) ≡ at n
    rep_same n = class_same (rep n) n (rep_rep n)

    one_shape : (h g : Holder) → Memᴰ h hs → Memᴰ g hs → rep h.site ≡ rep g.site → h.shape ≡ g.shape
    one_shape h g m n e =
        let x = M.meets h.site h.shape (of_holders h m).has in
        let y = M.meets g.site g.shape (of_holders g n).has in
        let q = class_same h.site g.site e in
        let xt = x.there in
        let yt = y.there in
        let v : x.value ≡ y.value = cc in
        let s : some h.shape ≡ some g.shape = sym x.shaped ∙ (ap shape v ∙ y.shaped) in
        cc

    pub no_conflict : (h : Holder) → conflict (closure l) (holders l) ≡ some h → ⊥
    unfolding conflict first_holder
    no_conflict h e =
        let r = first_some (λ h. differs h (first_holder (closure l) hs (rep h.site))) hs h e in
        go r.0 (first_holder (closure l) hs (rep h.site)) refl r.1
      where
        go : Memᴰ h hs → (o : Option Holder) → first_holder (closure l) hs (rep h.site) ≡ o → differs h o ≡ true → ⊥
        go m none q d = let z : ◌≡◌ {A = ℕ} 0 1 = cc in omega arith
        go m (some g) q d =
            let w = first_some (λ (g : Holder). eqb (rep g.site) (rep h.site)) hs g q in
            let v = one_shape h g m w.0 (sym (eqb-true (rep g.site) (rep h.site) w.1)) in
            let s : same_constraint h.shape g.shape ≡ true = rw (← v) (same_constraint_refl h.shape) in
            let z : not true ≡ true = rw s at d in
            let y : ◌≡◌ {A = ℕ} 0 1 = cc in
            omega arith

    edge_less : (a b : ℕ) → Memᴰ (a, b) (steps (closure l) hs) → weight (at b) < weight (at a)
    edge_less a b m =
        let E = of_steps a b m in
        let n = E.member in
        let c = E.shape in
        let i = E.place in
        let x = M.meets n c E.has in
        let y = field_in c x.value i x.shaped E.inside in
        let less = field_size (proj_at c i) x.value y.0 y.1 in
        let pa : at a ≡ some x.value = ap at E.from ∙ (rep_same n ∙ x.there) in
        let pb : at b ≡ some y.0 = ap at E.to ∙ (rep_same (kid n c i) ∙ (kid_at n c i E.has E.inside ∙ (rw x.there y.1))) in
        rw (pa, pb) less

    walk_less : {a b : ℕ} → Walk (steps (closure l) hs) a b → weight (at b) < weight (at a)
    walk_less {a} {b} (one m) = edge_less a b m
    walk_less {a} {b} (more {b = x} m w) = let h = edge_less a x m in let k = walk_less w in omega arith

    pub no_endless : (n : ℕ) → endless (steps (closure l) (holders l)) ≡ some n → ⊥
    unfolding endless
    no_endless n e =
        let es = steps (closure l) hs in
        let m = least_some (keep (returns es) (map (λ (x : ℕ × ℕ). x.0) es)) n e in
        let r = of_keep (returns es) (map (λ (x : ℕ × ℕ). x.0) es) n m in
        let h = walk_less ((returns_is es n).0 r.1) in
        omega arith

  -- ---- completeness: without a conflict and without a walk that returns, the classes have an order, and so a matching input

  abbrev es : Edges
  es = steps (closure l) (holders l)

  module _ (not_4 : conflict (closure l) (holders l) ≡ none) (not_6 : endless (steps (closure l) (holders l)) ≡ none)
      (rooted : (n : ℕ) → Memᴰ n l.named → Rooted (kind_in l.sites) (look l.constraints) n) where
    -- the lowest constrained member of a class
    boss : ℕ → ℕ
    boss r = elim (first_holder (closure l) hs r) [ none ↦ r | some g ↦ g.site ]

    boss_of : (n : ℕ) (c : Constraint) → con n ≡ some c → con (boss (rep n)) ≡ some c
    unfolding boss conflict first_holder holder
    boss_of n c e = go (first_holder (closure l) hs (rep n)) refl
        (first_none (λ h. differs h (first_holder (closure l) hs (rep h.site))) hs not_4 (holder l.sites (n, c)) (in_holders n c e))
      where
        go : (o : Option Holder) → first_holder (closure l) hs (rep n) ≡ o →
            differs (holder l.sites (n, c)) (first_holder (closure l) hs (rep (holder l.sites (n, c)).site)) ≡ false →
            con (elim o [ none ↦ rep n | some g ↦ g.site ]) ≡ some c
        go none q d =
            let w = first_none (λ (g : Holder). eqb (rep g.site) (rep n)) hs q (holder l.sites (n, c)) (in_holders n c e) in
            absurd (eqb-false (rep n) (rep n) w refl)
        go (some g) q d =
            let w = first_some (λ (g : Holder). eqb (rep g.site) (rep n)) hs g q in
            let d' : differs (holder l.sites (n, c)) (some g) ≡ false = rw q at d in
            let s : c ≡ g.shape = alike_is (same_constraint c g.shape) refl d' in
            (of_holders g w.0).has ∙ ap some (sym s)
          where
            alike_is : (b : Bool) → same_constraint c g.shape ≡ b → not b ≡ false → c ≡ g.shape
            alike_is true p r = same_constraint_true c g.shape p
            alike_is false p r = let z : ◌≡◌ {A = ℕ} 0 1 = cc in absurd (omega arith)

    boss_in : (n : ℕ) → rep (boss (rep n)) ≡ rep n
    unfolding boss first_holder
    boss_in n = go (first_holder (closure l) hs (rep n)) refl
      where
        go : (o : Option Holder) → first_holder (closure l) hs (rep n) ≡ o → rep (elim o [ none ↦ rep n | some g ↦ g.site ]) ≡ rep n
        go none q = rep_rep n
        go (some g) q = eqb-true (rep g.site) (rep n) (first_some (λ (g : Holder). eqb (rep g.site) (rep n)) hs g q).1

    no_return : (a : ℕ) → Walk es a a → ⊥
    unfolding endless
    no_return a w = least_none (keep (returns es) (map (λ (x : ℕ × ℕ). x.0) es)) a not_6
        (in_keep (returns es) (map (λ (x : ℕ × ℕ). x.0) es) a (start w) ((returns_is es a).1 w))
      where
        start : {b : ℕ} → Walk es a b → Memᴰ a (map (λ (x : ℕ × ℕ). x.0) es)
        start (one m) = mathlib.Core.List.Memᴰ.map (λ (x : ℕ × ℕ). x.0) m
        start (more m w) = mathlib.Core.List.Memᴰ.map (λ (x : ℕ × ℕ). x.0) m

    -- b is a, or is reached from a: with an edge from b to a, a walk returns to a
    reach : ℕ → ℕ → Bool
    reach a b = returns ((b, a) ∷ es) a

    reach_walk : (a b : ℕ) → reach a b ≡ true → (a ≡ b) ⊎ Walk es a b
    unfolding reach
    reach_walk a b e = finish (split ((returns_is ((b, a) ∷ es) a).0 e))
      where
        split : {x y : ℕ} → Walk ((b, a) ∷ es) x y → Walk es x y ⊎ ((x ≡ b) ⊎ Walk es x b)
        split (one (mathlib.Core.List.Memᴰ.head q)) = inr (inl (ap (λ (z : ℕ × ℕ). z.0) q))
        split (one (mathlib.Core.List.Memᴰ.tail m)) = inl (one m)
        split (more (mathlib.Core.List.Memᴰ.head q) w) = inr (inl (ap (λ (z : ℕ × ℕ). z.0) q))
        split (more {a = x} {b = z} {d = y} (mathlib.Core.List.Memᴰ.tail m) w) = then_on (split w)
          where
            then_on : Walk es z y ⊎ ((z ≡ b) ⊎ Walk es z b) → Walk es x y ⊎ ((x ≡ b) ⊎ Walk es x b)
            then_on (inl v) = inl (more m v)
            then_on (inr (inl q)) = let v : Memᴰ {A = ℕ × ℕ} (x, b) es = rw (← q) m in inr (inr (one v))
            then_on (inr (inr v)) = inr (inr (more m v))

        finish : Walk es a a ⊎ ((a ≡ b) ⊎ Walk es a b) → (a ≡ b) ⊎ Walk es a b
        finish (inl w) = absurd (no_return a w)
        finish (inr w) = w

    longer : {a b : ℕ} {e : ℕ × ℕ} → Walk es a b → Walk (e ∷ es) a b
    longer (one m) = one (mathlib.Core.List.Memᴰ.tail m)
    longer (more m w) = more (mathlib.Core.List.Memᴰ.tail m) (longer w)

    ends : {a b d : ℕ} → Walk ((b, d) ∷ es) a b → Walk ((b, d) ∷ es) a d
    ends {a} {b} {d} w = go w
      where
        go : {x : ℕ} → Walk ((b, d) ∷ es) x b → Walk ((b, d) ∷ es) x d
        go (one m) = more m (one (mathlib.Core.List.Memᴰ.head refl))
        go (more m v) = more m (go v)

    walk_reach : (a b : ℕ) → Walk es a b → reach a b ≡ true
    unfolding reach
    walk_reach a b w = (returns_is ((b, a) ∷ es) a).1 (ends (longer w))

    reach_self : (a : ℕ) → reach a a ≡ true
    unfolding reach
    reach_self a = (returns_is ((a, a) ∷ es) a).1 (one (mathlib.Core.List.Memᴰ.head refl))

    height : ℕ → ℕ
    height r = tally (length l.sites) (λ b. reach r (rep b))

    step : (n : ℕ) (c : Constraint) (i : ℕ) → con n ≡ some c → i < child_count c → Memᴰ (rep n, rep (kid n c i)) es
    unfolding steps holder
    step n c i e h =
        in_joined (map (λ (h : Holder). map (λ c. (rep h.site, rep c)) h.kids) hs) (map (λ d. (rep n, rep d)) (holder l.sites (n, c)).kids)
        (rep n, rep (kid n c i))
        (mathlib.Core.List.Memᴰ.map (λ (h : Holder). map (λ c. (rep h.site, rep c)) h.kids) (in_holders n c e))
        (mathlib.Core.List.Memᴰ.map (λ d. (rep n, rep d)) (in_below (child_count c) (kid n c) i h))

    falls : (n : ℕ) (c : Constraint) (i : ℕ) → con n ≡ some c → i < child_count c → height (rep (kid n c i)) < height (rep n)
    unfolding height
    falls n c i e h =
        let y = rep n in
        let x = rep (kid n c i) in
        let edge = step n c i e h in
        let inside = P.known n (P.named_con n c e) in
        let low = (closure_well l).sound.function.low n in
        tally_less (length l.sites) y (λ b. reach x (rep b)) (λ b. reach y (rep b))
        (λ b r. on (rep b) (reach_walk x (rep b) r))
        (omega arith)
        (ap (reach x) (rep_rep n) ∙ not_true (reach x y) (λ r. circle (reach_walk x y r)))
        (ap (reach y) (rep_rep n) ∙ reach_self y)
      where
        on : (d : ℕ) → (rep (kid n c i) ≡ d) ⊎ Walk es (rep (kid n c i)) d → reach (rep n) d ≡ true
        on d (inl q) = walk_reach (rep n) d (one (rw (← q) (step n c i e h)))
        on d (inr w) = walk_reach (rep n) d (more (step n c i e h) w)

        circle : (rep (kid n c i) ≡ rep n) ⊎ Walk es (rep (kid n c i)) (rep n) → ⊥
        circle (inl q) = no_return (rep n) (one (rw q at (step n c i e h)))
        circle (inr w) = no_return (rep n) (more (step n c i e h) w)

        not_true : (b : Bool) → (b ≡ true → ⊥) → b ≡ false
        not_true true f = absurd (f refl)
        not_true false f = refl

    ordered : Ordered (kind_in l.sites) con kid rep boss height
    ordered = record {
      kids = grown.kids;
      rooted = λ n c e. rooted n (P.named_con n c e);
      uniform = boss_of;
      boss_in = λ n c e. boss_in n;
      joins = λ n m c i q e f h. (closes (kid n c i) (kid m c i)).1 (like (holder l.sites (n, c)) (holder l.sites (m, c)) (in_holders n c e)
          (in_holders m c f) (unfold holder in refl) (unfold holder in (closes n m).0 q) (in_kids n m c i h));
      falls = falls;
    }

    -- the values of the free sites
    pub values : ℕ → Value
    values = free_value con kid rep boss height 0

    pub passed_matched : Fulfils (value_of (kind_in l.sites) values) (look l.constraints) (λ a b. Memᴰ (a, b) l.equalities)
    unfolding values
    passed_matched = matches (kind_in l.sites) (length l.sites) con kid rep boss height (places_of l.sites P.sound) ordered 0 Wrote
        (λ a b m. ((closes a b).1 (written_so m), rooted a (P.named_eq a b m).0, rooted b (P.named_eq a b m).1))

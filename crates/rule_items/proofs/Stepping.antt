-- The answers to one item, in the order in which they are asked for.
use mathlib.Core.Path.{◌≡◌, sym, ◌∙◌, ap}
use mathlib.Core.Bool.{Bool, true, false}
use mathlib.Core.Option.{none, some}
use mathlib.Core.List.{List, [], ◌∷◌, ◌++◌, Memᴰ}
use Prim.Native.Nat.{ℕ, suc, ◌+◌, ◌*◌, ◌/◌, ◌≤◌, ◌<◌}
use native.Mathlib.Omega.{arith}
use native.Mathlib.Decide.{ℕ_discrete}
use lib.ListN.{length, get_or, take, set, length-set, length-append}
use lib.Seq.{length-take-le, get_or-take, get_or-set_same, get_or-set_other}
use borrow.Author.Tests.{lt-ltb, le-ltb, le-leb, lt-leb}
use Rattle.std.specs.declared.result.Result.TheVariants.{Err, Ok}
use Rattle.std.specs.declared.option.Option.TheVariants as option
use Rattle.paper.specs.declared.Constraint.{Constraint}
use Rattle.paper.specs.declared.Constraint.TheVariants.{Variant, Struct, ConstBool, ConstInt, ConstPrim, Some}
use Rattle.paper.specs.Answered.{Maybe}
use Rattle.paper.specs.declared.Item.{Item}
use Rattle.paper.specs.declared.Item.TheVariants.{Is, Equal}
use Rattle.paper.specs.declared.Refusal.TheVariants.{Unknown, Unreachable, TooManyFields}
use Rattle.paper.specs.Words.{below, look}
use Rattle.paper.specs.Numbers.{max_fields, max_items}
use Rattle.paper.specs.Sites.{fields, same_constraint, child_count, known}
use Rattle.paper.specs.Loading.{Loading, constrain, load_item}
use Rattle.rule_rows.specs.Holding.{shape_in, eqs_in, eq_at}
use Rattle.rule_lists.specs.Entries.{entries, found_as}
use Rattle.rule_lists.proofs.Placing.{below_alike}
use Rattle.rule_hanging.proofs.Showing.{look_shown, with}
use Rattle.rule_items.specs.Way.{Way, Space, Turn}
use Rattle.rule_items.specs.declared.Progress.{Progress}
use Rattle.rule_hanging.proofs.Names.{found_nothing, found_there}
use Rattle.rule_items.proofs.Taking.{way_size, way_again}

pub few_children : (c : Constraint) → fields c ≤ max_fields → child_count c ≤ max_fields
few_children (Variant t v n) h = h
few_children (Struct t n) h = h
few_children (ConstBool t v) h = omega arith
few_children (ConstInt t x y) h = omega arith
few_children (ConstPrim v) h = omega arith
few_children Some h = omega arith

module _ (m : List ℕ) (n : ℕ) (tail : List ℕ) (t : ℕ) (sites rows words kids : List ℕ) (held : ℕ) (eqs : List ℕ) (equal i : ℕ) (l : Loading) (W : Way m n tail t sites rows words kids held eqs equal i l) where
  size : length l.sites ≡ n + t
  size = way_size m n tail t sites rows words kids held eqs equal i l W

  -- ---- a constraint

  module _ (s : ℕ) (c : Constraint) (r : Progress) where
    pub is_unknown : n + t ≤ s → r.answer ≡ Err (Unknown s) → (tail' sites' rows' words' kids' : List ℕ) → Turn m n tail' sites' rows' words' kids' eqs r i (load_item l i (Is s c))
    unfolding load_item known
    is_unknown h e tail' sites' rows' words' kids' = let z = size in rw (le-ltb s (length l.sites) (omega arith)) e

    module _ (h : s < n + t) where
      pub is_wide : (q : ℕ) → q ≡ fields c → max_fields < q → r.answer ≡ Err (TooManyFields q i) → (tail' sites' rows' words' kids' : List ℕ) → Turn m n tail' sites' rows' words' kids' eqs r i (load_item l i (Is s c))
      unfolding load_item known
      is_wide q f g e tail' sites' rows' words' kids' = let z = size in rw (lt-ltb s (length l.sites) (omega arith), ← f, lt-leb q max_fields g) e

      module _ (few : fields c ≤ max_fields) where
        load_is : load_item l i (Is s c) ≡ constrain l i s c (look l.constraints s)
        unfolding load_item known
        load_is = let z = size in rw (lt-ltb s (length l.sites) (omega arith), le-leb (fields c) max_fields few)

        looked : look l.constraints s ≡ with (shape_in words) (look (entries sites rows held) s)
        looked = ap (λ x. look x s) (sym W.shown.constraints_are) ∙ look_shown sites rows words held s

        pub is_new : (f : Maybe ℕ) → f ≡ found_as (look (entries sites rows held) s) → f ≡ option.None → (tail' sites' rows' words' kids' : List ℕ) → Turn m n tail' sites' rows' words' kids' eqs r i (constrain l i s c none) → Turn m n tail' sites' rows' words' kids' eqs r i (load_item l i (Is s c))
        is_new f p q tail' sites' rows' words' kids' T =
            let e : load_item l i (Is s c) ≡ constrain l i s c none = load_is ∙ ap (constrain l i s c) (looked ∙ ap (with (shape_in words)) (found_nothing (look (entries sites rows held) s) f p q)) in
            rw e T

        there : (f : Maybe ℕ) (row : ℕ) → f ≡ found_as (look (entries sites rows held) s) → f ≡ option.Some row → load_item l i (Is s c) ≡ constrain l i s c (some (shape_in words row))
        there f row p q = load_is ∙ ap (constrain l i s c) (looked ∙ ap (with (shape_in words)) (found_there (look (entries sites rows held) s) f row p q))

        pub is_same : (f : Maybe ℕ) (row : ℕ) (b : Bool) → f ≡ found_as (look (entries sites rows held) s) → f ≡ option.Some row → b ≡ same_constraint c (shape_in words row) → b ≡ true → i < max_items → r.answer ≡ Ok tt → r.tail ≡ t → r.held ≡ held → r.equal ≡ equal → Turn m n tail sites rows words kids eqs r i (load_item l i (Is s c))
        is_same f row b p q x y k e1 e2 e3 e4 =
            let z = size in
            let u : same_constraint c (shape_in words row) ≡ true = sym x ∙ y in
            rw (there f row p q, u) (e1, rw (e2, e3, e4) (way_again m n tail t sites rows words kids held eqs equal i l W k s (omega arith)))

        pub is_other : (f : Maybe ℕ) (row : ℕ) (b : Bool) → f ≡ found_as (look (entries sites rows held) s) → f ≡ option.Some row → b ≡ same_constraint c (shape_in words row) → b ≡ false → r.answer ≡ Err (Unreachable s s) → Turn m n tail sites rows words kids eqs r i (load_item l i (Is s c))
        is_other f row b p q x y e = let u : same_constraint c (shape_in words row) ≡ false = sym x ∙ y in rw (there f row p q, u) e

  -- ---- an equality

  module _ (a b : ℕ) (r : Progress) where
    pub equal_first : n + t ≤ a → r.answer ≡ Err (Unknown a) → (eqs' : List ℕ) → Turn m n tail sites rows words kids eqs' r i (load_item l i (Equal a b))
    unfolding load_item known
    equal_first h e eqs' = let z = size in rw (le-ltb a (length l.sites) (omega arith)) e

    module _ (ha : a < n + t) where
      pub equal_second : n + t ≤ b → r.answer ≡ Err (Unknown b) → (eqs' : List ℕ) → Turn m n tail sites rows words kids eqs' r i (load_item l i (Equal a b))
      unfolding load_item known
      equal_second h e eqs' = let z = size in rw (lt-ltb a (length l.sites) (omega arith), le-ltb b (length l.sites) (omega arith)) e

      module _ (hb : b < n + t) (S : Space equal i eqs) where
        abbrev eqs2 : List ℕ
        eqs2 = set (set eqs equal a) (equal + 1) b

        long2 : length eqs2 ≡ length eqs
        long2 = length-set (set eqs equal a) (equal + 1) b ∙ length-set eqs equal a

        old_at : (k : ℕ) → k < equal → get_or eqs2 k 0 ≡ get_or eqs k 0
        old_at k h = get_or-set_other (set eqs equal a) (equal + 1) k b 0 (λ e. omega arith) ∙ get_or-set_other eqs equal k a 0 (λ e. omega arith)

        room2 : equal + 2 ≤ length eqs
        room2 = let x = S.item in let y = S.twice in let z = S.eqs_long in omega arith

        a_at : get_or eqs2 equal 0 ≡ a
        a_at = let x = room2 in get_or-set_other (set eqs equal a) (equal + 1) equal b 0 (λ e. omega arith) ∙ get_or-set_same eqs equal a 0 (omega arith)

        b_at : get_or eqs2 (equal + 1) 0 ≡ b
        b_at = let x = room2 in let y = length-set eqs equal a in get_or-set_same (set eqs equal a) (equal + 1) b 0 (omega arith)

        equalities2 : eqs_in (take (equal + 2) eqs2) ≡ l.equalities ++ ((a, b) ∷ [])
        unfolding eqs_in below
        equalities2 =
            let ev = W.shown.even in
            let x = room2 in
            let y = long2 in
            let k : length (take (equal + 2) eqs2) / 2 ≡ suc (length l.equalities) = let w = length-take-le (equal + 2) eqs2 (omega arith) in omega arith in
            let j : length (take equal eqs) / 2 ≡ length l.equalities = let w = length-take-le equal eqs (omega arith) in omega arith in
            let front : below (length l.equalities) (eq_at (take (equal + 2) eqs2)) ≡ below (length l.equalities) (eq_at (take equal eqs)) =
            below_alike (length l.equalities) (eq_at (take (equal + 2) eqs2)) (eq_at (take equal eqs)) (λ q h. same q h) in
            let back : below (length l.equalities) (eq_at (take equal eqs)) ≡ l.equalities = rw j at W.shown.equalities_are in
            rw k (ap (λ z. z ++ (eq_at (take (equal + 2) eqs2) (length l.equalities) ∷ [])) (front ∙ back) ∙ ap (λ z. l.equalities ++ (z ∷ [])) last)
          where
            at2 : (q : ℕ) → q < equal + 2 → get_or (take (equal + 2) eqs2) q 0 ≡ get_or eqs2 q 0
            at2 q h = get_or-take (equal + 2) eqs2 q 0 h

            same : (q : ℕ) → q < length l.equalities → ◌≡◌ {A = ℕ × ℕ} (get_or (take (equal + 2) eqs2) (2 * q) 0, get_or (take (equal + 2) eqs2) (2 * q + 1) 0) (get_or (take equal eqs) (2 * q) 0, get_or (take equal eqs) (2 * q + 1) 0)
            same q h =
                let ev = W.shown.even in
                let x = at2 (2 * q) (omega arith) ∙ old_at (2 * q) (omega arith) ∙ sym (get_or-take equal eqs (2 * q) 0 (omega arith)) in
                let y = at2 (2 * q + 1) (omega arith) ∙ old_at (2 * q + 1) (omega arith) ∙ sym (get_or-take equal eqs (2 * q + 1) 0 (omega arith)) in
                rw (x, y)

            last : ◌≡◌ {A = ℕ × ℕ} (get_or (take (equal + 2) eqs2) (2 * length l.equalities) 0, get_or (take (equal + 2) eqs2) (2 * length l.equalities + 1) 0) (a, b)
            last =
                let ev = W.shown.even in
                let x : get_or (take (equal + 2) eqs2) (2 * length l.equalities) 0 ≡ a = at2 (2 * length l.equalities) (omega arith) ∙ ap (λ q. get_or eqs2 q 0) (sym ev) ∙ a_at in
                let y : get_or (take (equal + 2) eqs2) (2 * length l.equalities + 1) 0 ≡ b = at2 (2 * length l.equalities + 1) (omega arith) ∙ ap (λ q. get_or eqs2 (q + 1) 0) (sym ev) ∙ b_at in
                rw (x, y)

        known2 : (k : ℕ) → k < equal + 2 → get_or eqs2 k 0 < length l.sites
        known2 k h = go (ℕ_discrete k equal) (ℕ_discrete k (equal + 1))
          where
            go : Dec (k ≡ equal) → Dec (k ≡ equal + 1) → get_or eqs2 k 0 < length l.sites
            go (yes e) d = let x = ap (λ q. get_or eqs2 q 0) e ∙ a_at in let z = size in omega arith
            go (no d) (yes e) = let x = ap (λ q. get_or eqs2 q 0) e ∙ b_at in let z = size in omega arith
            go (no d) (no e) = let x = old_at k (omega arith) in let y = W.shown.equal_known k (omega arith) in omega arith

        pub equal_both : r.answer ≡ Ok tt → r.tail ≡ t → r.held ≡ held → r.equal ≡ equal + 2 → Turn m n tail sites rows words kids eqs2 r i (load_item l i (Equal a b))
        unfolding load_item known
        equal_both e1 e2 e3 e4 =
            let z = size in
            let X = W.shown in
            let p = room2 in
            let q = long2 in
            let hf = W.few in
            let tw = W.twice in
            let sh = W.short in
            let ev = X.even in
            let la = length-append l.equalities ((a, b) ∷ []) in
            rw (lt-ltb a (length l.sites) (omega arith), lt-ltb b (length l.sites) (omega arith)) (
              e1,
              rw (e2, e3, e4) (record {
                shown = record {
                  sites_are = X.sites_are;
                  fits = X.fits;
                  constraints_are = X.constraints_are;
                  row = λ k g. let R = X.row k g in record { item = R.item; range = R.range; few = R.few; known = R.known; child = R.child; below = R.below };
                  equalities_are = equalities2;
                  even = omega arith;
                  equal_fits = omega arith;
                  equal_known = known2;
                };
                few = omega arith;
                twice = omega arith;
                short = omega arith;
                older = λ k g. let w = W.older k g in omega arith;
                numbered = W.numbered;
                named = λ x g. named x g;
              }),
            )
          where
            named : (x : ℕ) → Memᴰ x (a ∷ b ∷ l.named) → x < length l.sites
            named x (Memᴰ.head e) = let z = size in omega arith
            named x (Memᴰ.tail (Memᴰ.head e)) = let z = size in omega arith
            named x (Memᴰ.tail (Memᴰ.tail p)) = W.named x p

pub taken_as : (m : List ℕ) (n : ℕ) (tail sites rows words kids eqs : List ℕ) (r : Progress) (i j : ℕ) (l : Loading) (it x : Item) → it ≡ x → Turn m n tail sites rows words kids eqs r i (load_item l j x) → Turn m n tail sites rows words kids eqs r i (load_item l j it)
taken_as m n tail sites rows words kids eqs r i j l it x e T = rw e T

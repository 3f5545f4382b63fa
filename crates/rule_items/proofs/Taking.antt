-- One item: what the lists tell after it.
use mathlib.Core.Path.{◌≡◌, refl, sym, ◌∙◌, ap}
use mathlib.Core.Bool.{Bool, true, false}
use mathlib.Core.Option.{none, some}
use mathlib.Core.Logic.{◌⊎◌, inl, inr}
use mathlib.Core.List.{List, ◌∷◌, Memᴰ}
use Prim.Native.Nat.{ℕ, ◌+◌, ◌-◌, ◌*◌, ◌≤◌, ◌<◌}
use native.Mathlib.Omega.{arith}
use lib.ListN.{length, get_or, take, get_or-eq_default}
use lib.Dec.{ltb}
use borrow.Author.Tests.{lt-ltb, ltb-true, ltb-false}
use Rattle.std.specs.declared.result.Result.TheVariants.{Err, Ok}
use Rattle.paper.specs.declared.Constraint.{Constraint}
use Rattle.paper.specs.declared.Refusal.{Refusal}
use Rattle.std.specs.Prelude.{if◌then◌else◌}
use Rattle.paper.specs.Words.{or_else, below, put}
use Rattle.paper.specs.Numbers.{max_sites, max_fields, max_items, done, refused}
use Rattle.paper.specs.Sites.{Sites, child, child_count, children, child_number, number_of, add_all}
use Rattle.paper.specs.Loading.{Loading, constrain}
use Rattle.rule_words.specs.Packing.{InRange, head, second, third}
use Rattle.rule_children.specs.Tail.{children_as}
use Rattle.rule_children.specs.declared.Children.{Children}
use Rattle.rule_children.specs.Tail.{table, grown, holds}
use Rattle.rule_children.proofs.ScanLaws.{table_length, number_inside}
use Rattle.sites.specs.Slots.{length_below}
use Rattle.rule_children.proofs.AnswerLaws.{grown_adds}
use Rattle.rule_children.proofs.GrowLaws.{all_length}
use Rattle.rule_rows.specs.Holding.{shape_in, kid_in, eqs_in, Inside}
use Rattle.rule_rows.proofs.Agreeing.{get_or_below}
use Rattle.rule_lists.specs.Entries.{Puts}
use Rattle.rule_lists.proofs.Placing.{below_alike}
use Rattle.rule_hanging.specs.Seen.{shown}
use Rattle.rule_items.specs.Shown.{Row}
use Rattle.rule_hanging.proofs.Showing.{put_shown, puts_entry, puts_few, StandsAt}
use Rattle.rule_items.specs.Way.{Way, Room, Turn, Worded, Filled}
use Rattle.rule_items.specs.declared.Progress.{Progress}
use Rattle.rule_items.proofs.Rows.{worded_shape, worded_older}
use Rattle.rule_items.proofs.Numbering.{length_all, number_all, number_child, children_refused, children_to}

-- ---- what holds of a constrained site and its row

record GoodAs (i : ℕ) (u : Sites) (kids : List ℕ) (s row : ℕ) (c : Constraint) : Type 0 where
  older : row < i
  range : InRange c
  few : child_count c ≤ max_fields
  known : s < length u
  numbers : (f : ℕ) → f < child_count c → number_of u (child s c f) ≡ some (kid_in kids row f)

abbrev Good : ℕ → Sites → List ℕ → List ℕ → ℕ → ℕ → Type 0
Good i u words kids s row = GoodAs i u kids s row (shape_in words row)

module _ (m : List ℕ) (n : ℕ) (tail : List ℕ) (t : ℕ) (sites rows words kids : List ℕ) (held : ℕ) (eqs : List ℕ) (equal i : ℕ) (l : Loading) where
  row_from : i ≤ max_items → (k : ℕ) → Good i l.sites words kids (get_or sites k 0) (get_or rows k 0) → Row l sites rows words kids k
  unfolding child_number
  row_from h k G =
      let o = G.older in
      record {
        item = omega arith;
        range = G.range;
        few = G.few;
        known = G.known;
        child = λ f q. sym (ap (λ x. or_else x 0) (G.numbers f q));
        below = λ f q. number_inside l.sites (child (get_or sites k 0) (shape_in words (get_or rows k 0)) f) (kid_in kids (get_or rows k 0) f) (G.numbers f q);
      }

  way_made : i ≤ max_items → table m n tail t ≡ l.sites → n + t ≤ max_sites → shown sites rows words held ≡ l.constraints
      → ((k : ℕ) → k < held → Good i l.sites words kids (get_or sites k 0) (get_or rows k 0)) → eqs_in (take equal eqs) ≡ l.equalities → equal ≡ 2 * length l.equalities → equal ≤ length eqs
      → ((k : ℕ) → k < equal → get_or eqs k 0 < length l.sites) → held ≤ i → equal ≤ 2 * i → t ≤ max_fields * i → ((x : ℕ) → Memᴰ x l.named → x < length l.sites)
      → Way m n tail t sites rows words kids held eqs equal i l
  way_made h a b d g e f j k p q w r = record {
    shown = record { sites_are = a; fits = b; constraints_are = d; row = λ x y. row_from h x (g x y); equalities_are = e; even = f; equal_fits = j; equal_known = k };
    few = p;
    twice = q;
    short = w;
    older = λ x y. (g x y).older;
    numbered = λ x y. (g x y).numbers;
    named = r;
  }

  module _ (W : Way m n tail t sites rows words kids held eqs equal i l) where
    pub way_size : length l.sites ≡ n + t
    way_size = ap length (sym W.shown.sites_are) ∙ table_length m n tail t

    good_of : (k : ℕ) → k < held → Good i l.sites words kids (get_or sites k 0) (get_or rows k 0)
    good_of k h = let R = W.shown.row k h in record { older = W.older k h; range = R.range; few = R.few; known = R.known; numbers = W.numbered k h }

    -- the same constraint again
    pub way_again : i < max_items → (s : ℕ) → s < length l.sites → Way m n tail t sites rows words kids held eqs equal (i + 1) (record { sites = l.sites; constraints = l.constraints; equalities = l.equalities; named = s ∷ l.named })
    way_again h s q =
        let S = W.shown in
        let a = W.few in
        let b = W.twice in
        let d = W.short in
        record {
          shown = record { sites_are = S.sites_are; fits = S.fits; constraints_are = S.constraints_are; row = λ k p. let R = S.row k p in record { item = R.item; range = R.range; few = R.few; known = R.known; child = R.child; below = R.below }; equalities_are = S.equalities_are; even = S.even; equal_fits = S.equal_fits; equal_known = S.equal_known };
          few = omega arith;
          twice = omega arith;
          short = omega arith;
          older = λ k p. let z = W.older k p in omega arith;
          numbered = W.numbered;
          named = λ x p. go x p;
        }
      where
        go : (x : ℕ) → Memᴰ x (s ∷ l.named) → x < length l.sites
        go x (Memᴰ.head e) = rw e q
        go x (Memᴰ.tail p) = W.named x p

-- ---- a new constraint

module _ (m : List ℕ) (n : ℕ) (tail : List ℕ) (t : ℕ) (sites rows : List ℕ) (held : ℕ) (words kids : List ℕ) (equal i s : ℕ) (c : Constraint) (R : Room n t held i tail sites rows words kids) (few : child_count c ≤ max_fields) where
  adds : grown m n tail t i s c ≡ add_all (table m n tail t) i (children s c)
  adds = let a = R.fits in let b = R.short in let d = R.item in let e = R.tail_long in grown_adds m n tail t i s c (omega arith) (omega arith) few

  -- refused: a table that can't grow
  pub constrain_refused : (g : Children) (why : Refusal) (r : Progress) → g ≡ children_as s c (grown m n tail t i s c) → g.outcome ≡ Err why → r.answer ≡ Err why
      → (eqs : List ℕ) (l : Loading) → Way m n tail t sites rows words kids held eqs equal i l → (tail' sites' rows' words' kids' : List ℕ) → Turn m n tail' sites' rows' words' kids' eqs r i (constrain l i s c none)
  constrain_refused g why r eg eo ea eqs l W tail' sites' rows' words' kids' =
      let x : grown m n tail t i s c ≡ refused why = children_refused s c (grown m n tail t i s c) why (ap (λ y. y.outcome) (sym eg) ∙ eo) in
      let y : add_all l.sites i (children s c) ≡ refused why = ap (λ z. add_all z i (children s c)) (sym W.shown.sites_are) ∙ sym adds ∙ x in
      rw y ea

  module _ (g : Children) (total : ℕ) (eg : g ≡ children_as s c (grown m n tail t i s c)) (eo : g.outcome ≡ Ok total) where
    grew : (u : Sites) × (grown m n tail t i s c ≡ done u) × (total ≡ length u)
    grew = children_to s c (grown m n tail t i s c) total (ap (λ y. y.outcome) (sym eg) ∙ eo)

    abbrev u : Sites
    u = grew.0

    added : add_all (table m n tail t) i (children s c) ≡ done u
    added = sym adds ∙ grew.1

    lengths : (n + t ≤ length u) × (length u ≤ max_sites)
    lengths = let z = all_length (table m n tail t) s c i u added in let a = z.0 in let b = z.1 in let d = table_length m n tail t in let e = R.fits in (omega arith, omega arith)

    -- eight more at the most
    eight_more : length u ≤ n + t + max_fields
    unfolding children
    eight_more = let z = length_all (table m n tail t) i (children s c) u added in let y = length_below (child_count c) (child s c) in let d = table_length m n tail t in omega arith

    pub total_low : n ≤ total
    total_low = let z = lengths.0 in let e = grew.2 in omega arith

    numbers_are : g.numbers ≡ below max_fields (λ f. if ltb f (child_count c) then child_number u s c f else 0)
    numbers_are = ap (λ y. y.numbers) eg ∙ ap (λ o. (children_as s c o).numbers) grew.1

    number_is : (f : ℕ) → f < child_count c → get_or g.numbers f 0 ≡ child_number u s c f
    number_is f h = ap (λ y. get_or y f 0) numbers_are ∙ get_or_below max_fields (λ j. if ltb j (child_count c) then child_number u s c j else 0) f 0 (omega arith) ∙ rw (lt-ltb f (child_count c) h)

    number_small : (f : ℕ) → get_or g.numbers f 0 < max_sites
    number_small f = go (ltb f max_fields) refl (ltb f (child_count c)) refl
      where
        go : (a : Bool) → ltb f max_fields ≡ a → (b : Bool) → ltb f (child_count c) ≡ b → get_or g.numbers f 0 < max_sites
        go a p true q =
            let h = ltb-true f (child_count c) q in
            let x = number_inside u (child s c f) (child_number u s c f) (number_child (table m n tail t) i s c u added f h) in
            let y = lengths.1 in
            let z = number_is f h in
            omega arith
        go true p false q =
            let z : get_or g.numbers f 0 ≡ 0 = ap (λ y. get_or y f 0) numbers_are ∙ get_or_below max_fields (λ j. if ltb j (child_count c) then child_number u s c j else 0) f 0 (ltb-true f max_fields p) ∙ rw q in
            omega arith
        go false p false q =
            let d = length_below max_fields (λ j. if ltb j (child_count c) then child_number u s c j else 0) in
            let e = ltb-false f max_fields p in
            let z : get_or g.numbers f 0 ≡ 0 = ap (λ y. get_or y f 0) numbers_are ∙ get_or-eq_default (below max_fields (λ j. if ltb j (child_count c) then child_number u s c j else 0)) 0 (omega arith) in
            omega arith

    -- no number of the children's list is too high
    pub kids_inside : (kids' : List ℕ) → Filled kids i g.numbers max_fields kids' → Inside kids → Inside kids'
    kids_inside kids' F I k = go (F.any k)
      where
        go : (get_or kids' k 0 ≡ get_or kids k 0) ⊎ ((j : ℕ) × (get_or kids' k 0 ≡ get_or g.numbers j 0)) → get_or kids' k 0 < max_sites
        go (inl e) = let z = I k in omega arith
        go (inr e) = let z = number_small e.0 in let y = e.1 in omega arith

    module _ (a b d : ℕ) (ea : a ≡ head c) (eb : b ≡ second c) (ed : d ≡ third c) (rng : InRange c) (words' kids' : List ℕ) (X : Worded words i a b d words') (F : Filled kids i g.numbers max_fields kids') (known : s < n + t) where
      shape_new : shape_in words' i ≡ c
      shape_new = worded_shape words i c a b d words' rng ea eb ed X

      good_new : Good (i + 1) u words' kids' s i
      unfolding kid_in
      good_new = rw shape_new (record {
        older = omega arith;
        range = rng;
        few = few;
        known = let z = lengths.0 in omega arith;
        numbers = λ f h. number_child (table m n tail t) i s c u added f h ∙ ap some (sym (F.each f (omega arith) ∙ number_is f h));
      })

      good_old : (x row : ℕ) → Good i (table m n tail t) words kids x row → Good (i + 1) u words' kids' x row
      unfolding kid_in
      good_old x row G =
          let o = G.older in
          let e = worded_older words i a b d words' X row o in
          rw e (record {
            older = omega arith;
            range = G.range;
            few = G.few;
            known = let z = lengths.0 in let y = table_length m n tail t in let w = G.known in omega arith;
            numbers = λ f h. let w = G.few in number_all (table m n tail t) i (children s c) u added (child x (shape_in words row) f) (get_or kids (max_fields * row + f) 0) (G.numbers f h) ∙ ap some (sym (F.before (max_fields * row + f) (omega arith)));
          })

      old_shown : (eqs : List ℕ) (l : Loading) → Way m n tail t sites rows words kids held eqs equal i l → shown sites rows words' held ≡ shown sites rows words held
      unfolding shown
      old_shown eqs l W = below_alike held (λ k. (get_or sites k 0, shape_in words' (get_or rows k 0))) (λ k. (get_or sites k 0, shape_in words (get_or rows k 0))) (λ k h. rw (worded_older words i a b d words' X (get_or rows k 0) (W.older k h)))

      pub constrain_done : (sites' rows' : List ℕ) (more : ℕ) → Puts sites rows held s i sites' rows' more → (tail' : List ℕ) → holds m n tail' (grown m n tail t i s c) → (r : Progress) → r.answer ≡ Ok tt → r.tail ≡ total - n → r.held ≡ more → r.equal ≡ equal
          → (eqs : List ℕ) (l : Loading) → Way m n tail t sites rows words kids held eqs equal i l → Turn m n tail' sites' rows' words' kids' eqs r i (constrain l i s c none)
      constrain_done sites' rows' more P tail' H r q1 q2 q3 q4 eqs l W =
          let S = W.shown in
          let y : add_all l.sites i (children s c) ≡ done u = ap (λ z. add_all z i (children s c)) (sym S.sites_are) ∙ added in
          let H' : table m n tail' (length u - n) ≡ u = rw grew.1 at H in
          let v : r.tail ≡ length u - n = q2 ∙ ap (λ z. z - n) grew.2 in
          let item = R.item in
          let held_few = W.few in
          let eq-few = W.twice in
          let short = W.short in
          let eight = eight_more in
          let lo = lengths.0 in
          let hi = lengths.1 in
          let pf = puts_few sites rows held s i sites' rows' more P in
          let size = way_size m n tail t sites rows words kids held eqs equal i l W in
          rw y (
            q1,
            rw (v, q3, q4) (way_made m n tail' (length u - n) sites' rows' words' kids' more eqs equal (i + 1) (record { sites = u; constraints = put s c l.constraints; equalities = l.equalities; named = s ∷ l.named })
                (omega arith) H' (omega arith)
                (put_shown sites rows words' held s i sites' rows' more P ∙ ap (λ z. put s z (shown sites rows words' held)) shape_new ∙ ap (put s c) (old_shown eqs l W ∙ S.constraints_are))
                (λ k h. goods eqs l W k (puts_entry sites rows held s i sites' rows' more P k h))
                S.equalities_are S.even S.equal_fits
                (λ k h. let z = S.equal_known k h in omega arith)
                (omega arith) (omega arith) (omega arith) (λ x p. named eqs l W x p)),
          )
        where
          goods : (eqs : List ℕ) (l : Loading) → Way m n tail t sites rows words kids held eqs equal i l → (k : ℕ) → ((get_or sites' k 0 ≡ s) × (get_or rows' k 0 ≡ i)) ⊎ StandsAt sites rows held (get_or sites' k 0) (get_or rows' k 0) → Good (i + 1) u words' kids' (get_or sites' k 0) (get_or rows' k 0)
          goods eqs l W k (inl e) = rw (e.0, e.1) good_new
          goods eqs l W k (inr e) = rw (← e.site, ← e.its_row) (good_old (get_or sites e.at 0) (get_or rows e.at 0) (rw W.shown.sites_are (good_of m n tail t sites rows words kids held eqs equal i l W e.at e.among)))

          named : (eqs : List ℕ) (l : Loading) → Way m n tail t sites rows words kids held eqs equal i l → (x : ℕ) → Memᴰ x (s ∷ l.named) → x < length u
          named eqs l W x (Memᴰ.head e) = let z = lengths.0 in omega arith
          named eqs l W x (Memᴰ.tail p) = let z = lengths.0 in let y = W.named x p in let w = way_size m n tail t sites rows words kids held eqs equal i l W in omega arith

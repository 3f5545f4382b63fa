-- The loop over the items.
use mathlib.Core.Path.{◌≡◌, refl, sym, ◌∙◌, ap}
use mathlib.Core.Bool.{true}
use mathlib.Core.Option.{Option, none, some}
use mathlib.Core.List.{List, [], ◌∷◌, append-nil}
use Prim.Native.Nat.{ℕ, suc, ◌+◌, ◌*◌, ◌≤◌, ◌<◌, min}
use native.Mathlib.Omega.{arith}
use native.Mathlib.Numerals.{add-one}
use lib.ListN.{length, get_or, take, drop, drop_of_length-le}
use lib.Seq.{drop-cons, take_all}
use lib.Dec.{leb}
use borrow.Author.Tests.{leb-true}
use Rattle.std.specs.declared.result.Result.TheVariants.{Err, Ok}
use Rattle.paper.specs.declared.Constraint.{Constraint}
use Rattle.paper.specs.declared.Constraint.TheVariants.{Variant}
use Rattle.paper.specs.declared.Item.{Item}
use Rattle.paper.specs.declared.Item.TheVariants.{Is, Equal}
use Rattle.paper.specs.declared.Refusal.{Refusal}
use Rattle.paper.specs.declared.Refusal.TheVariants.{Unknown, Unreachable, TooManyFields}
use Rattle.paper.specs.Words.{below, look}
use Rattle.paper.specs.Numbers.{max_sites, max_fields, max_items, Outcome, done, refused, ◌>>=◌}
use Rattle.paper.proofs.Outcomes.{done_once, bind_done, demand_done}
use Rattle.paper.specs.Sites.{fields, known, same_constraint, children, add_all}
use Rattle.paper.specs.Loading.{Loading, constrain, load_item, load_items, no_items}
use Rattle.sites.specs.Slots.{sites_in}
use Rattle.rule_children.specs.Tail.{table}
use Rattle.rule_rows.specs.Holding.{eqs_in, Inside}
use Rattle.item_words.specs.Items.{item_at, items_in as held_items}
use Rattle.item_words.proofs.Laws.{items_length, items_read}
use Rattle.paper.proofs.Lists.{and_both}
use Rattle.rule_hanging.specs.Seen.{shown, names}
use Rattle.rule_items.specs.Shown.{roomy, AsLong}
use Rattle.rule_items.specs.Way.{Way, Room, Space, Turn, Walk}
use Rattle.rule_hanging.proofs.Names.{names_next}
use Rattle.rule_items.specs.declared.Progress.{Progress}

-- ---- the items of a rule

pub items_long : (ws : List ℕ) (n : ℕ) → n ≤ max_items → length (held_items ws (min n max_items)) ≡ n
items_long ws n h = let a = items_length ws (min n max_items) in omega arith

pub item_is : (ws : List ℕ) (n i : ℕ) (it : Item) → n ≤ max_items → i < n → it ≡ item_at ws i → get_or (held_items ws (min n max_items)) i (Is 0 (Variant 0 0 0)) ≡ it
item_is ws n i it h l e = items_read ws (min n max_items) i (Is 0 (Variant 0 0 0)) (omega arith) ∙ sym e

-- ---- names

item_named : (l : Loading) (i : ℕ) (it : Item) (l' : Loading) → load_item l i it ≡ done l' → l'.named ≡ names (it ∷ []) l.named
unfolding load_item known
item_named l i (Is s c) l' e =
    let x = demand_done (known l.sites s) (Unknown s) _ l' e in
    let y = demand_done (leb (fields c) max_fields) (TooManyFields (fields c) i) _ l' x.1 in
    go (look l.constraints s) y.1
  where
    go : (o : Option Constraint) → constrain l i s c o ≡ done l' → l'.named ≡ s ∷ l.named
    go none f = let x = bind_done (add_all l.sites i (children s c)) _ l' f in let q = done_once x.2 in rw (← q)
    go (some d) f = let x = demand_done (same_constraint c d) (Unreachable s s) _ l' f in let q = done_once x.1 in rw (← q)
item_named l i (Equal a b) l' e =
    let x = demand_done (known l.sites a) (Unknown a) _ l' e in
    let y = demand_done (known l.sites b) (Unknown b) _ l' x.1 in
    let q = done_once y.1 in
    rw (← q)

-- ---- room

pub record Long (tail sites rows words kids eqs : List ℕ) : Type 0 where
  pub tail_long : 8 * max_items ≤ length tail
  pub sites_long : max_items ≤ length sites
  pub rows_long : max_items ≤ length rows
  pub words_long : 3 * max_items ≤ length words
  pub kids_long : 8 * max_items ≤ length kids
  pub eqs_long : 2 * max_items ≤ length eqs

pub long_of : (tail sites rows words kids eqs : List ℕ) → roomy tail sites rows words kids eqs ≡ true → Long tail sites rows words kids eqs
unfolding roomy
long_of tail sites rows words kids eqs e =
    let a = and_both (leb (8 * max_items) (length tail)) _ e in
    let b = and_both (leb max_items (length sites)) _ a.1 in
    let d = and_both (leb max_items (length rows)) _ b.1 in
    let f = and_both (leb (3 * max_items) (length words)) _ d.1 in
    let g = and_both (leb (8 * max_items) (length kids)) _ f.1 in
    record {
      tail_long = leb-true (8 * max_items) (length tail) a.0;
      sites_long = leb-true max_items (length sites) b.0;
      rows_long = leb-true max_items (length rows) d.0;
      words_long = leb-true (3 * max_items) (length words) f.0;
      kids_long = leb-true (8 * max_items) (length kids) g.0;
      eqs_long = leb-true (2 * max_items) (length eqs) g.1;
    }

-- ---- the loop

pub record Walking (m : List ℕ) (n : ℕ) (items : List Item) (tail : List ℕ) (t : ℕ) (sites rows words kids : List ℕ) (held : ℕ) (eqs : List ℕ) (equal i : ℕ) : Type 0 where
  pub l : Loading
  pub way : Way m n tail t sites rows words kids held eqs equal i l
  pub left : load_items l i (drop i items) ≡ load_items (no_items (sites_in m n)) 0 items
  pub so_far : l.named ≡ names (take i items) []

pub walking_none : (m : List ℕ) (n : ℕ) (items : List Item) (tail sites rows words kids eqs : List ℕ) → n ≤ max_sites → Walking m n items tail 0 sites rows words kids 0 eqs 0 0
unfolding table shown below eqs_in
walking_none m n items tail sites rows words kids eqs h = record {
  l = no_items (sites_in m n);
  way = record {
    shown = record { sites_are = append-nil (sites_in m n); fits = omega arith; constraints_are = refl; row = λ k q. absurd (omega arith); equalities_are = refl; even = refl; equal_fits = omega arith; equal_known = λ k q. absurd (omega arith) };
    few = omega arith;
    twice = omega arith;
    short = omega arith;
    older = λ k q. absurd (omega arith);
    numbered = λ k q. absurd (omega arith);
    named = λ x q. elim q [ ];
  };
  left = refl;
  so_far = refl;
}

module _ (m : List ℕ) (n : ℕ) (items : List Item) (tail : List ℕ) (t : ℕ) (sites rows words kids : List ℕ) (held : ℕ) (eqs : List ℕ) (equal i : ℕ) (X : Walking m n items tail t sites rows words kids held eqs equal i) where
  pub room_of : Long tail sites rows words kids eqs → i < max_items → Room n t held i tail sites rows words kids × Space equal i eqs
  room_of L h = (
    record { item = h; few = X.way.few; fits = X.way.shown.fits; short = X.way.short; tail_long = L.tail_long; sites_long = L.sites_long; rows_long = L.rows_long; words_long = L.words_long; kids_long = L.kids_long },
    record { item = h; twice = X.way.twice; eqs_long = L.eqs_long },
  )

  -- all items are taken
  pub walking_done : (r : Progress) (count : ℕ) → length items ≤ i → i ≤ count → r.answer ≡ Ok tt → r.tail ≡ t → r.held ≡ held → r.equal ≡ equal
      → Walk m n tail sites rows words kids eqs r count items (load_items (no_items (sites_in m n)) 0 items)
  unfolding load_items
  walking_done r count h k e1 e2 e3 e4 =
      let W = X.way in
      let a = W.few in
      let b = W.twice in
      let f = W.short in
      let d : load_items (no_items (sites_in m n)) 0 items ≡ done X.l = sym X.left ∙ ap (load_items X.l i) (drop_of_length-le items h) in
      rw d (e1, (rw (e2, e3, e4) (record { shown = W.shown; few = omega arith; twice = omega arith; short = omega arith; older = λ x q. let z = W.older x q in omega arith; numbered = W.numbered; named = W.named }), X.so_far ∙ ap (λ x. names x []) (take_all i items h)))

  module _ (it : Item) (h : i < length items) (ei : get_or items i (Is 0 (Variant 0 0 0)) ≡ it) (tail' sites' rows' words' kids' eqs' : List ℕ) (r : Progress)
      (T : (l : Loading) → Way m n tail t sites rows words kids held eqs equal i l → Turn m n tail' sites' rows' words' kids' eqs' r i (load_item l i it)) where
    next : load_items (no_items (sites_in m n)) 0 items ≡ (load_item X.l i it >>= λ l'. load_items l' (suc i) (drop (suc i) items))
    unfolding load_items
    next = sym X.left ∙ ap (load_items X.l i) (drop-cons items i (Is 0 (Variant 0 0 0)) h) ∙ ap (λ x. load_item X.l i x >>= λ l'. load_items l' (suc i) (drop (suc i) items)) ei

    -- one is refused
    pub walking_stop : (why : Refusal) (count : ℕ) → r.answer ≡ Err why → Walk m n tail' sites' rows' words' kids' eqs' r count items (load_items (no_items (sites_in m n)) 0 items)
    walking_stop why count e = rw next (go (load_item X.l i it) (T X.l X.way))
      where
        go : (o : Outcome Loading) → Turn m n tail' sites' rows' words' kids' eqs' r i o → Walk m n tail' sites' rows' words' kids' eqs' r count items (o >>= λ l'. load_items l' (suc i) (drop (suc i) items))
        go (done l') q = let a = q.0 in let z : ◌≡◌ {A = ℕ} 0 1 = cc in absurd (omega arith)
        go (refused w) q = q

    pub walking_step : r.answer ≡ Ok tt → Walking m n items tail' r.tail sites' rows' words' kids' r.held eqs' r.equal (i + 1)
    walking_step e = go (load_item X.l i it) refl (T X.l X.way)
      where
        go : (o : Outcome Loading) → load_item X.l i it ≡ o → Turn m n tail' sites' rows' words' kids' eqs' r i o → Walking m n items tail' r.tail sites' rows' words' kids' r.held eqs' r.equal (i + 1)
        go (refused w) f q = let z : ◌≡◌ {A = ℕ} 0 1 = cc in absurd (omega arith)
        go (done l') f q = record {
          l = l';
          way = q.1;
          left = ap (λ k. load_items l' k (drop k items)) (add-one i) ∙ sym (next ∙ ap (λ o. o >>= λ y. load_items y (suc i) (drop (suc i) items)) f);
          so_far = item_named X.l i it l' f ∙ ap (names (it ∷ [])) X.so_far ∙ sym (names_next items i it h ei);
        }

-- ---- its invariant

pub record WalkTo (m : List ℕ) (n : ℕ) (tail₀ sites₀ rows₀ words₀ kids₀ eqs₀ : List ℕ) (ws : List ℕ) (count : ℕ) (tail sites rows words kids eqs : List ℕ) (t held equal i : ℕ) : Type 0 where
  pub within : i ≤ count
  pub walking : Walking m n (held_items ws (min count max_items)) tail t sites rows words kids held eqs equal i
  pub long : AsLong tail₀ sites₀ rows₀ words₀ kids₀ eqs₀ tail sites rows words kids eqs
  pub inside : Inside kids₀ → Inside kids

pub long_self : (tail sites rows words kids eqs : List ℕ) → AsLong tail sites rows words kids eqs tail sites rows words kids eqs
long_self tail sites rows words kids eqs = record { tail_long = refl; sites_long = refl; rows_long = refl; words_long = refl; kids_long = refl; eqs_long = refl }

pub long_still : (tail sites rows words kids eqs tail' sites' rows' words' kids' eqs' : List ℕ) → Long tail sites rows words kids eqs → AsLong tail sites rows words kids eqs tail' sites' rows' words' kids' eqs' → Long tail' sites' rows' words' kids' eqs'
long_still tail sites rows words kids eqs tail' sites' rows' words' kids' eqs' L A = record {
  tail_long = let a = A.tail_long in let b = L.tail_long in omega arith;
  sites_long = let a = A.sites_long in let b = L.sites_long in omega arith;
  rows_long = let a = A.rows_long in let b = L.rows_long in omega arith;
  words_long = let a = A.words_long in let b = L.words_long in omega arith;
  kids_long = let a = A.kids_long in let b = L.kids_long in omega arith;
  eqs_long = let a = A.eqs_long in let b = L.eqs_long in omega arith;
}

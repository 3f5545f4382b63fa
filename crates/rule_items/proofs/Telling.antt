-- The answer to a rule.
use mathlib.Core.Path.{◌≡◌, sym, ◌∙◌, ap, subst}
use mathlib.Core.Bool.{Bool, true, false}
use mathlib.Core.List.{List, []}
use Prim.Native.Nat.{ℕ, ◌≤◌, ◌<◌, ◌+◌, min}
use native.Mathlib.Omega.{arith}
use lib.ListN.{get_or}
use borrow.Author.Tests.{le-leb, lt-leb}
use Rattle.std.specs.declared.result.Result.TheVariants.{Err, Ok}
use Rattle.std.specs.declared.option.Option.TheVariants.{None, Some}
use Rattle.paper.specs.Answered.{Maybe}
use Rattle.paper.specs.declared.Refusal.{Refusal}
use Rattle.paper.specs.declared.Refusal.TheVariants.{TooManySites, TooManyItems, Hanging}
use Rattle.paper.specs.declared.Item.{Item}
use Rattle.paper.specs.Words.{keep, least}
use Rattle.paper.specs.Numbers.{max_sites, max_items, Outcome, done, refused, ◌>>=◌}
use Rattle.paper.specs.Loading.{Loading, load_items, hangs, hanging, no_hanging, no_items}
use Rattle.sites.specs.Slots.{sites_in}
use Rattle.rule_lists.specs.Entries.{found_as}
use Rattle.rule_items.specs.Shown.{Told, Rowed, items_in}
use Rattle.rule_hanging.specs.Seen.{names, Sees, Known}
use Rattle.rule_items.specs.Way.{Way, Walk}
use Rattle.rule_items.specs.declared.Progress.{Progress}
use Rattle.rule_hanging.proofs.Names.{found_nothing, found_there}
use Rattle.paper.specs.Sites.{argument, site_at}
use Rattle.rule_children.specs.Tail.{site_there}
use Rattle.rule_children.proofs.ScanLaws.{table_is}
use Rattle.rule_rows.proofs.Agreeing.{get_or_below}
use Rattle.rule_items.proofs.Taking.{way_size}
use Rattle.item_words.specs.Items.{items_in as held_items}

pub sees_of : (m : List ℕ) (n : ℕ) (tail : List ℕ) (t : ℕ) (sites rows words kids : List ℕ) (held : ℕ) (eqs : List ℕ) (equal i : ℕ) (l : Loading) → Way m n tail t sites rows words kids held eqs equal i l → Sees m n tail sites rows words held l
unfolding site_at
sees_of m n tail t sites rows words kids held eqs equal i l W =
    let S = W.shown in
    let z = way_size m n tail t sites rows words kids held eqs equal i l W in
    record {
      site = λ x h. ap (λ y. get_or y x (argument 0)) (sym S.sites_are ∙ table_is m n tail t) ∙ get_or_below (n + t) (site_there m n tail) x (argument 0) (omega arith);
      constraints_are = S.constraints_are;
      range = λ k h. (S.row k h).range;
      small = λ k h. let a = (S.row k h).known in let b = S.fits in omega arith;
    }

-- the answer of check 5 over `count` items, where there are at most max-items
pub few_items : (m : List ℕ) (n : ℕ) (tail sites rows words : List ℕ) (held : ℕ) (ws : List ℕ) (count : ℕ) (f : Maybe ℕ) → count ≤ max_items
    → ((l : Loading) → Sees m n tail sites rows words held l → Known l (names (held_items ws count) []) → f ≡ found_as (least (keep (hangs l) (names (held_items ws count) []))))
    → (l : Loading) → Sees m n tail sites rows words held l → Known l (names (held_items ws (min count max_items)) []) → f ≡ found_as (least (keep (hangs l) (names (held_items ws (min count max_items)) [])))
few_items m n tail sites rows words held ws count f h g l X =
    let e : count ≡ min count max_items = omega arith in
    subst (λ (k : ℕ). Known l (names (held_items ws k) []) → f ≡ found_as (least (keep (hangs l) (names (held_items ws k) [])))) e (g l X)

-- ---- the rows

pub rowed_refused : (rows : List ℕ) (count : ℕ) (r : Progress) (why : Refusal) → r.answer ≡ Err why → Rowed rows count r
rowed_refused rows count r why e = record { low = λ f. let z : ◌≡◌ {A = ℕ} 0 1 = cc in absurd (omega arith) }

pub rowed_walk : (m : List ℕ) (n : ℕ) (items : List Item) (tail sites rows words kids eqs : List ℕ) (r : Progress) (count : ℕ) → Walk m n tail sites rows words kids eqs r count items (load_items (no_items (sites_in m n)) 0 items) → Rowed rows count r
rowed_walk m n items tail sites rows words kids eqs r count = go (load_items (no_items (sites_in m n)) 0 items)
  where
    go : (o : Outcome Loading) → Walk m n tail sites rows words kids eqs r count items o → Rowed rows count r
    go (done l) w = record { low = λ f. w.1.0.older }
    go (refused why) w = rowed_refused rows count r why w

-- ---- the answer

module _ (room : Bool) (m : List ℕ) (n count : ℕ) (items : List Item) (tail sites rows words kids eqs : List ℕ) (r : Progress) where
  abbrev Tells : Type 0
  Tells = Told m n tail sites rows words kids eqs r (items_in room m n count items)

  pub told_sites : max_sites < n → r.answer ≡ Err (TooManySites n count) → Tells
  unfolding items_in
  told_sites h e = rw (lt-leb n max_sites h) e

  module _ (hn : n ≤ max_sites) where
    pub told_short : room ≡ false → r.answer ≡ Err (TooManyItems count) → Tells
    unfolding items_in
    told_short q e = rw (le-leb n max_sites hn, q) e

    module _ (hr : room ≡ true) where
      pub told_many : max_items < count → r.answer ≡ Err (TooManyItems count) → Tells
      unfolding items_in
      told_many h e = rw (le-leb n max_sites hn, hr, lt-leb count max_items h) e

      module _ (hc : count ≤ max_items) where
        abbrev Rest : Outcome Loading → Outcome Loading
        Rest o = o >>= λ l. no_hanging (hanging l) >>= λ _. done l

        in_order : items_in room m n count items ≡ Rest (load_items (no_items (sites_in m n)) 0 items)
        unfolding items_in
        in_order = rw (le-leb n max_sites hn, hr, le-leb count max_items hc)

        pub told_stop : (why : Refusal) → r.answer ≡ Err why → Walk m n tail sites rows words kids eqs r count items (load_items (no_items (sites_in m n)) 0 items) → Tells
        told_stop why e w = rw in_order (go (load_items (no_items (sites_in m n)) 0 items) w)
          where
            go : (o : Outcome Loading) → Walk m n tail sites rows words kids eqs r count items o → Told m n tail sites rows words kids eqs r (Rest o)
            go (done l) q = let a = q.0 in let z : ◌≡◌ {A = ℕ} 0 1 = cc in absurd (omega arith)
            go (refused x) q = q

        module _ (p : Progress) (w : Walk m n tail sites rows words kids eqs p count items (load_items (no_items (sites_in m n)) 0 items)) (fine : p.answer ≡ Ok tt) (f : Maybe ℕ)
            (g : (l : Loading) → Sees m n tail sites rows words p.held l → Known l (names items []) → f ≡ found_as (least (keep (hangs l) (names items [])))) where
          hanging_is : (l : Loading) → Way m n tail p.tail sites rows words kids p.held eqs p.equal count l → l.named ≡ names items [] → f ≡ found_as (hanging l)
          unfolding hanging
          hanging_is l W e = g l (sees_of m n tail p.tail sites rows words kids p.held eqs p.equal count l W) (λ x q. W.named x (rw e q)) ∙ ap (λ k. found_as (least (keep (hangs l) k))) (sym e)

          pub told_hanging : (s : ℕ) → f ≡ Some s → r.answer ≡ Err (Hanging s) → Tells
          told_hanging s q e = rw in_order (go (load_items (no_items (sites_in m n)) 0 items) w)
            where
              go : (o : Outcome Loading) → Walk m n tail sites rows words kids eqs p count items o → Told m n tail sites rows words kids eqs r (Rest o)
              go (done l) x = let h = found_there (hanging l) f s (hanging_is l x.1.0 x.1.1) q in rw h e
              go (refused y) x = let z : ◌≡◌ {A = ℕ} 0 1 = cc in absurd (omega arith)

          pub told_fine : f ≡ None → r ≡ p → Tells
          told_fine q e = rw (in_order, e) (go (load_items (no_items (sites_in m n)) 0 items) w)
            where
              go : (o : Outcome Loading) → Walk m n tail sites rows words kids eqs p count items o → Told m n tail sites rows words kids eqs p (Rest o)
              go (done l) x = let h = found_nothing (hanging l) f (hanging_is l x.1.0 x.1.1) q in rw h (fine, x.1.0.shown)
              go (refused y) x = let z : ◌≡◌ {A = ℕ} 0 1 = cc in absurd (omega arith)

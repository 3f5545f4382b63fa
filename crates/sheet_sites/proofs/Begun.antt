-- 01: what each return asks.
use mathlib.Core.Path.{◌≡◌, refl, sym, ap, ◌∙◌}
use mathlib.Core.Bool.{Bool, true, false, not}
use mathlib.Core.List.{List, []}
use Prim.Native.Nat.{ℕ, suc}
use native.Mathlib.Omega.{arith}
use lib.Dec.{ltb, leb}
use borrow.Author.Tests.{ltb-true, leb-true, not-true}
use Rattle.std.specs.declared.result.Result.TheVariants.{Err, Ok}
use Rattle.paper.specs.declared.Refusal.{Refusal}
use Rattle.paper.specs.declared.Refusal.TheVariants.{Layout, Repeated, TooManySets, TermTooHigh}
use Rattle.paper.specs.Words.{below}
use Rattle.paper.specs.Numbers.{max_sets, max_term, Outcome, done, refused, ◌>>=◌, demand}
use Rattle.paper.proofs.Outcomes.{demand_done}
use Rattle.paper.specs.Layout.{begin_set}
use Rattle.paper.specs.Loading.{empty_set}
use Rattle.paper.specs.Sheets as paper
use Rattle.paper.specs.Sheets.{stepped, at_sites, set_begun, act}
use Rattle.term_table.specs.Table.{has_term}
use Rattle.sites.specs.Slots.{sites_in}
use Rattle.sites.proofs.After.{sound_none}
use Rattle.rule_words.specs.Stored.{run, kept_first}
use Rattle.sheet_ended.specs.Sets.{verdict_as, may_begin}
use Rattle.paper.specs.Answered.{Verdict}
use Rattle.paper.proofs.Lists.{no_way}
use Rattle.sheet_ended.specs.Holds.{Holds, Endable}
use Rattle.sheet_ended.proofs.Holds.{used_is, begun_is}
use Rattle.sheet_reader.specs.State.{Lent, set_in, stands_in, Tells}
use Rattle.sheet_reader.specs.Answers.{Acts, Stops, went, act_event, is_outside}
use Rattle.sheet_reader.specs.declared.OpenSet.{OpenSet}
use Rattle.sheet_reader.specs.declared.Stands.{Stands}
use Rattle.sheet_reader.specs.declared.Stands.TheVariants.{Outside, Sites, Rules, Items}
use Rattle.sheet_reader.specs.declared.Reader.{Reader}
use Rattle.sheet_reader.specs.declared.Event.TheVariants as event
use Rattle.sheet_reader.specs.declared.Stepped.{Stepped}
use Rattle.sheet_reader.proofs.Acts.{stopped, goes_on}

not_begin : (p : paper.Ended) (at : ℕ) (k : Lent) (s : Stands) (t f : ℕ) → is_outside s ≡ false → act p at (stands_in k s) (begin_set t f) ≡ refused (Layout at)
unfolding act
not_begin p at k Outside t f e = no_way e
not_begin p at k (Sites s) t f e = refl
not_begin p at k (Rules s) t f e = refl
not_begin p at k (Items s r n) t f e = refl

out_is : (s : Stands) → is_outside s ≡ true → s ≡ Outside
out_is Outside e = refl
out_is (Sites s) e = no_way (sym e)
out_is (Rules s) e = no_way (sym e)
out_is (Items s r n) e = no_way (sym e)

begin_is : (p : paper.Ended) (at : ℕ) (k : Lent) (s : Stands) (t f : ℕ) → is_outside s ≡ true → act p at (stands_in k s) (begin_set t f) ≡ set_begun p at t f
unfolding act
begin_is p at k s t f e = let q = out_is s e in rw q

begun_refused : (o : Outcome (Unit {0})) (x : Refusal) → Err x ≡ verdict_as o → o ≡ refused x
begun_refused (done u) x e = let z : ◌≡◌ {A = ℕ} 0 1 = cc in absurd (omega arith)
begun_refused (refused y) x e = let z : x ≡ y = cc in ap refused (sym z)

begun_fine : (o : Outcome (Unit {0})) → (Ok tt) ≡ verdict_as o → o ≡ done tt
begun_fine (done u) e = refl
begun_fine (refused y) e = let z : ◌≡◌ {A = ℕ} 0 1 = cc in absurd (omega arith)

module _ (r : Reader) (t f : ℕ) (room room' : List ℕ) (at : ℕ) (a : Stepped) (b : Bool) (eb : b ≡ is_outside r.stands) where
  pub begin_not : b ≡ false → Stops r (Layout r.line) room room' at a → (k : Lent) (p : paper.Ended) → Tells r k p → Acts r k k room room' at p (begin_set t f) a
  begin_not e S k p T = stopped (Layout r.line) (not_begin p r.line k r.stands t f (sym eb ∙ e)) S

  module _ (yes : b ≡ true) (v : Verdict) (ev : v ≡ verdict_as (may_begin r.ended t r.line)) where
    pub begin_refused : (why : Refusal) → v ≡ Err why → Stops r why room room' at a → (k : Lent) (p : paper.Ended) → Tells r k p → Acts r k k room room' at p (begin_set t f) a
    begin_refused why e S k p T =
        let m = begun_refused (may_begin r.ended t r.line) why (sym e ∙ ev) in
        stopped why (begin_is p r.line k r.stands t f (sym eb ∙ yes) ∙ (begun_is r.ended k.table p T.holds r.line t f ∙ ap (λ o. o >>= λ _. done (stepped p (at_sites (empty_set t f)) [])) m)) S

    abbrev new : OpenSet
    new = record { term = t; flags = f; sites = 0; rules = 0 }

    new_empty : (k : Lent) → set_in k new ≡ empty_set t f
    unfolding empty_set sites_in kept_first run below
    new_empty k = refl

    new_fine : (k : Lent) (p : paper.Ended) → Holds r.ended k.table p → may_begin r.ended t r.line ≡ done tt → Endable p (set_in k new)
    unfolding may_begin kept_first run
    new_fine k p H m =
        let x = demand_done (not (has_term r.ended.used t)) (Repeated r.line) _ tt m in
        let y = demand_done (ltb r.ended.sets max_sets) (TooManySets (suc r.ended.sets)) _ tt x.1 in
        let z = demand_term (leb t max_term) (TermTooHigh t) y.1 in
        let l = ltb-true r.ended.sets max_sets y.0 in
        let s = H.sets in
        record {
          fresh = sym (used_is r.ended k.table p H t) ∙ not-true (has_term r.ended.used t) x.0;
          term = leb-true t max_term z;
          room = omega arith;
          rules = omega arith;
          sites = sound_none k.sites;
        }
      where
        demand_term : (b : Bool) (x : Refusal) → demand b x ≡ done tt → b ≡ true
        demand_term true x e = refl
        demand_term false x e = let z : ◌≡◌ {A = ℕ} 0 1 = cc in absurd (omega arith)

    pub begin_fine : v ≡ Ok tt → a ≡ went r (Sites new) event.Begun at → room' ≡ room → (k : Lent) (p : paper.Ended) → Tells r k p → Acts r k k room room' at p (begin_set t f) a
    begin_fine e i q k p T =
        let m = begun_fine (may_begin r.ended t r.line) (sym e ∙ ev) in
        let o : act p r.line (stands_in k r.stands) (begin_set t f) ≡ done (stepped p (at_sites (empty_set t f)) []) = begin_is p r.line k r.stands t f (sym eb ∙ yes) ∙ (begun_is r.ended k.table p T.holds r.line t f ∙ ap (λ o. o >>= λ _. done (stepped p (at_sites (empty_set t f)) [])) m) in
        let u : act_event (stands_in k r.stands) (begin_set t f) ≡ event.Begun = (let z = out_is r.stands (sym eb ∙ yes) in rw z) in
        rw q (goes_on r k k room at (Sites new) event.Begun a p (at_sites (empty_set t f)) o (sym u) i (ap at_sites (sym (new_empty k))) T.holds (new_fine k p T.holds m) T.roomy)

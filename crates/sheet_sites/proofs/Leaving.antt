-- 01 and 02: what each return leaves.
use mathlib.Core.Path.{◌≡◌, sym, ap, ◌∙◌}
use mathlib.Core.Bool.{Bool, true, false}
use mathlib.Core.List.{List}
use Prim.Native.Nat.{ℕ, ◌-◌}
use lib.ListN.{length, take, drop}
use lib.Dec.{eqb}
use borrow.Author.Tests.{eq-eqb, ne_eqb}
use Rattle.std.specs.declared.result.Result.TheVariants.{Err, Ok}
use Rattle.std.specs.declared.option.Option.TheVariants.{None, Some}
use Rattle.paper.specs.declared.Refusal.{Refusal}
use Rattle.paper.specs.declared.Refusal.TheVariants.{Layout, Repeated}
use Rattle.paper.specs.Answered.{Verdict}
use Rattle.paper.proofs.Lists.{rest_of}
use Rattle.sites.specs.Slots.{added_in, numbered_as, after_add}
use Rattle.paper.specs.Answered.{Answer}
use Rattle.sites.specs.declared.Numbered.{Numbered}
use Rattle.sites.specs.declared.Numbered.TheVariants as numbered
use Rattle.term_table.specs.Table.{Square}
use Rattle.sheet_ended.specs.Sets.{verdict_as, may_begin}
use Rattle.sheet_reader.specs.State.{Lent, lent}
use Rattle.sheet_reader.specs.Answers.{is_outside, site_set}
use Rattle.sheet_reader.specs.Leaves.{after, gone_on, stop_in}
use Rattle.sheet_reader.specs.declared.OpenSet.{OpenSet}
use Rattle.sheet_reader.specs.declared.Reader.{Reader}
use Rattle.sheet_reader.specs.declared.Event.TheVariants as event
use Rattle.sheet_reader.specs.declared.Stands.TheVariants.{Sites}
use Rattle.sheet_reader.specs.declared.Stepped.{Stepped}
use Rattle.paper.specs.Answered.{Maybe}
use Rattle.sheet_reader.proofs.Leaving.{if_yes, if_no}
use Rattle.sheet_sites.specs.Numbers.{next_of}
use Rattle.sheet_sites.specs.Leaves.{new_set, begin_judged, begin_in, one_site_more, site_numbered, site_where, site_in, site_line_in}

-- ---- 01
module _ (r : Reader) (t f : ℕ) (room room' : List ℕ) (at : ℕ) (a : Stepped) (b : Bool) (eb : b ≡ is_outside r.stands) where
  pub begins_not : b ≡ false → ((k : Lent) → after a k room' ≡ stop_in r k room at (Layout r.line)) → (k : Lent) → after a k room' ≡ begin_in r k room at t f
  unfolding begin_in
  begins_not e S k = S k ∙ if_no (is_outside r.stands) (begin_judged r k room at (new_set t f) (verdict_as (may_begin r.ended t r.line))) (stop_in r k room at (Layout r.line)) (sym eb ∙ e)

  module _ (yes : b ≡ true) (v : Verdict) (ev : v ≡ verdict_as (may_begin r.ended t r.line)) where
    begins : (k : Lent) → begin_judged r k room at (new_set t f) v ≡ begin_in r k room at t f
    unfolding begin_in
    begins k = ap (begin_judged r k room at (new_set t f)) ev ∙ if_yes (is_outside r.stands) (begin_judged r k room at (new_set t f) (verdict_as (may_begin r.ended t r.line))) (stop_in r k room at (Layout r.line)) (sym eb ∙ yes)

    pub begins_refused : (why : Refusal) → v ≡ Err why → ((k : Lent) → after a k room' ≡ stop_in r k room at why) → (k : Lent) → after a k room' ≡ begin_in r k room at t f
    begins_refused why e S k = S k ∙ (ap (begin_judged r k room at (new_set t f)) (sym e) ∙ begins k)

    pub begins_fine : v ≡ Ok tt → a ≡ gone_on r (Sites (new_set t f)) event.Begun at → room' ≡ room → (k : Lent) → after a k room' ≡ begin_in r k room at t f
    begins_fine e i q k = ap (λ x. after x k room') i ∙ (ap (after (gone_on r (Sites (new_set t f)) event.Begun at) k) q ∙ (ap (begin_judged r k room at (new_set t f)) (sym e) ∙ begins k))

-- ---- 02
module _ (r : Reader) (b : List ℕ) (room room' : List ℕ) (at : ℕ) (a : Stepped) (v : Maybe OpenSet) (ev : v ≡ site_set r.stands) (m : List ℕ) where
  pub sites_not : v ≡ None → ((k : Lent) → after a k room' ≡ stop_in r k room at (Layout r.line)) → (w i : List ℕ) (t : Square) → after a (lent m w i t) room' ≡ site_in r (lent m w i t) room at b
  unfolding site_in
  sites_not e S w i t = S (lent m w i t) ∙ ap (site_where r (lent m w i t) room at b) (sym e ∙ ev)

  module _ (g : OpenSet) (eg : v ≡ Some g) (u : Answer Numbered) (m' : List ℕ) (eu : u ≡ numbered_as g.sites (added_in m g.sites r.line b)) (em : m' ≡ after_add m g.sites (added_in m g.sites r.line b)) (w i : List ℕ) (t : Square) where
    numbers : site_numbered r (lent m' w i t) room at g u ≡ site_in r (lent m w i t) room at b
    unfolding site_in
    numbers =
        ap (λ x. site_numbered r (lent x w i t) room at g u) em
        ∙ (ap (site_numbered r (lent (after_add m g.sites (added_in m g.sites r.line b)) w i t) room at g) eu
        ∙ ap (site_where r (lent m w i t) room at b) (sym eg ∙ ev))

    pub sites_known : (j : ℕ) → u ≡ Ok (numbered.Known j) → ((k : Lent) → after a k room' ≡ stop_in r k room at (Repeated r.line)) → after a (lent m' w i t) room' ≡ site_in r (lent m w i t) room at b
    sites_known j e S = S (lent m' w i t) ∙ (ap (site_numbered r (lent m' w i t) room at g) (sym e) ∙ numbers)

    pub sites_refused : (why : Refusal) → u ≡ Err why → ((k : Lent) → after a k room' ≡ stop_in r k room at why) → after a (lent m' w i t) room' ≡ site_in r (lent m w i t) room at b
    sites_refused why e S = S (lent m' w i t) ∙ (ap (site_numbered r (lent m' w i t) room at g) (sym e) ∙ numbers)

    pub sites_fresh : (j n : ℕ) → u ≡ Ok (numbered.Fresh j) → n ≡ next_of g.sites → a ≡ gone_on r (Sites (record { term = g.term; flags = g.flags; sites = n; rules = g.rules })) event.Site at → room' ≡ room → after a (lent m' w i t) room' ≡ site_in r (lent m w i t) room at b
    sites_fresh j n e en ea er =
        let more : a ≡ gone_on r (Sites (one_site_more g)) event.Site at = ea ∙ ap (λ c. gone_on r (Sites (record { term = g.term; flags = g.flags; sites = c; rules = g.rules })) event.Site at) en in
        ap (λ x. after x (lent m' w i t) room') more
        ∙ (ap (after (gone_on r (Sites (one_site_more g)) event.Site at) (lent m' w i t)) er
        ∙ (ap (site_numbered r (lent m' w i t) room at g) (sym e) ∙ numbers))

-- ---- the body stands behind the frame's first byte
module _ (r : Reader) (bytes m room room' : List ℕ) (at : ℕ) (a : Stepped) where
  pub lines_none : length bytes ≡ 0 → ((k : Lent) → after a k room' ≡ stop_in r k room at (Layout r.line)) → (w i : List ℕ) (t : Square) → after a (lent m w i t) room' ≡ site_line_in r (lent m w i t) room at bytes
  unfolding site_line_in
  lines_none e S w i t = S (lent m w i t) ∙ if_yes (eqb (length bytes) 0) (stop_in r (lent m w i t) room at (Layout r.line)) (site_in r (lent m w i t) room at (drop 1 bytes)) (eq-eqb (length bytes) 0 e)

  pub lines_body : (length bytes ≡ 0 → ⊥) → (m' : List ℕ) → ((w i : List ℕ) (t : Square) → after a (lent m' w i t) room' ≡ site_in r (lent m w i t) room at (take (length bytes - 1) (drop 1 bytes))) → (w i : List ℕ) (t : Square) → after a (lent m' w i t) room' ≡ site_line_in r (lent m w i t) room at bytes
  unfolding site_line_in
  lines_body d m' S w i t =
      S w i t
      ∙ (ap (site_in r (lent m w i t) room at) (rest_of bytes 1)
      ∙ if_no (eqb (length bytes) 0) (stop_in r (lent m w i t) room at (Layout r.line)) (site_in r (lent m w i t) room at (drop 1 bytes)) (ne_eqb (length bytes) 0 d))

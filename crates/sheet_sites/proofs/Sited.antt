-- 02: what each return asks.
use mathlib.Core.Path.{◌≡◌, refl, sym, ap, ◌∙◌}
use mathlib.Core.Option.{some}
use mathlib.Core.List.{List, [], ◌∷◌}
use Prim.Native.Nat.{ℕ, ◌-◌}
use native.Mathlib.Omega.{arith}
use lib.ListN.{length, take, drop}
use borrow.Author.Tests.{lt-ltb}
use Rattle.std.specs.declared.result.Result.TheVariants.{Err, Ok}
use Rattle.std.specs.declared.option.Option.TheVariants.{None, Some}
use Rattle.paper.specs.declared.Refusal.{Refusal}
use Rattle.paper.specs.declared.Refusal.TheVariants.{Layout, Repeated}
use Rattle.paper.specs.Numbers.{refused}
use Rattle.paper.specs.Layout.{whole, site_read, a_site}
use Rattle.paper.specs.Sites.{Site, Sound}
use Rattle.paper.specs.Loading.{with_sites}
use Rattle.paper.specs.Sheets as paper
use Rattle.paper.specs.Sheets.{at_sites, site_read_in, act}
use Rattle.term_table.specs.Table.{Square}
use Rattle.sites.specs.Slots.{sites_in, added_in, numbered_as, after_add}
use Rattle.paper.specs.Answered.{Answer}
use Rattle.sites.specs.declared.Numbered.{Numbered}
use Rattle.sites.specs.declared.Numbered.TheVariants as numbered
use Rattle.sites.proofs.After.{after_add_is, after_add_sound}
use Rattle.sheet_ended.specs.Holds.{Endable}
use Rattle.sheet_reader.specs.State.{Lent, lent, set_in, stands_in, Tells}
use Rattle.sheet_reader.specs.Answers.{Acts, Stops, went, act_event, site_set}
use Rattle.sheet_sites.specs.Numbers.{next_of}
use Rattle.sheet_reader.specs.declared.OpenSet.{OpenSet}
use Rattle.sheet_reader.specs.declared.Stands.{Stands}
use Rattle.sheet_reader.specs.declared.Stands.TheVariants.{Outside, Sites, Rules, Items}
use Rattle.sheet_reader.specs.declared.Reader.{Reader}
use Rattle.sheet_reader.specs.declared.Event.TheVariants as event
use Rattle.sheet_reader.specs.declared.Stepped.{Stepped}
use Rattle.paper.specs.Answered.{Maybe}
use Rattle.sheet_sites.proofs.Added.{Way, way, known_way, refused_way, fresh_way}
use Rattle.sheet_reader.proofs.Acts.{stopped, goes_on}

where_not : {A : Type 0} {x : OpenSet} → Some x ≡ None → A
where_not e = let z : ◌≡◌ {A = ℕ} 0 1 = cc in absurd (omega arith)

site_out : (p : paper.Ended) (at : ℕ) (k : Lent) (s : Stands) (x : Site) → site_set s ≡ None → act p at (stands_in k s) (a_site x) ≡ refused (Layout at)
unfolding act
site_out p at k Outside x e = refl
site_out p at k (Sites s) x e = where_not e
site_out p at k (Rules s) x e = refl
site_out p at k (Items s r n) x e = refl

site_is : (s : Stands) (g : OpenSet) → site_set s ≡ Some g → s ≡ Sites g
site_is Outside g e = where_not (sym e)
site_is (Sites s) g e = let z : s ≡ g = cc in ap Sites z
site_is (Rules s) g e = where_not (sym e)
site_is (Items s r n) g e = where_not (sym e)

site_acts : (p : paper.Ended) (at : ℕ) (k : Lent) (g : OpenSet) (x : Site) → act p at (stands_in k (Sites g)) (a_site x) ≡ site_read_in p at (set_in k g) x
unfolding act
site_acts p at k g x = refl

module _ (r : Reader) (b : List ℕ) (room room' : List ℕ) (at : ℕ) (a : Stepped) (v : Maybe OpenSet) (ev : v ≡ site_set r.stands) (m : List ℕ) where
  pub site_not : v ≡ None → Stops r (Layout r.line) room room' at a → (w i : List ℕ) (t : Square) (p : paper.Ended) (x : Site) → whole (site_read b) ≡ some x → Tells r (lent m w i t) p → Acts r (lent m w i t) (lent m w i t) room room' at p (a_site x) a
  site_not e S w i t p x q T = stopped (Layout r.line) (site_out p r.line (lent m w i t) r.stands x (sym ev ∙ e)) S

  module _ (g : OpenSet) (eg : v ≡ Some g) (u : Answer Numbered) (m' : List ℕ) (eu : u ≡ numbered_as g.sites (added_in m g.sites r.line b)) (em : m' ≡ after_add m g.sites (added_in m g.sites r.line b)) where
    stands_is : r.stands ≡ Sites g
    stands_is = site_is r.stands g (sym ev ∙ eg)

    module _ (w i : List ℕ) (t : Square) (p : paper.Ended) (x : Site) (q : whole (site_read b) ≡ some x) (T : Tells r (lent m w i t) p) where
      abbrev k : Lent
      k = lent m w i t

      endable : Endable p (set_in k g)
      endable = let f = T.fine in rw stands_is at f

      acts : act p r.line (stands_in k r.stands) (a_site x) ≡ site_read_in p r.line (set_in k g) x
      acts = rw stands_is (site_acts p r.line k g x)

      the_way : Way m g.sites r.line b x p (set_in k g) (numbered_as g.sites (added_in m g.sites r.line b))
      the_way = way m g.sites r.line b x p (set_in k g) q refl endable.sites T.roomy.sites

      pub site_known : (j : ℕ) → u ≡ Ok (numbered.Known j) → Stops r (Repeated r.line) room room' at a → Acts r k (lent m' w i t) room room' at p (a_site x) a
      site_known j e S =
          let f = known_way m g.sites r.line b x p (set_in k g) _ j (sym eu ∙ e) the_way in
          let z : m' ≡ m = em ∙ f.0 in
          rw z (stopped (Repeated r.line) (acts ∙ f.1) S)

      pub site_refused : (why : Refusal) → u ≡ Err why → Stops r why room room' at a → Acts r k (lent m' w i t) room room' at p (a_site x) a
      site_refused why e S =
          let f = refused_way m g.sites r.line b x p (set_in k g) _ why (sym eu ∙ e) the_way in
          let z : m' ≡ m = em ∙ f.0 in
          rw z (stopped why (acts ∙ f.1) S)

      pub site_fresh : (j n : ℕ) → u ≡ Ok (numbered.Fresh j) → length m' ≡ length m → n ≡ next_of g.sites → a ≡ went r (Sites (record { term = g.term; flags = g.flags; sites = n; rules = g.rules })) event.Site at → room' ≡ room → Acts r k (lent m' w i t) room room' at p (a_site x) a
      unfolding with_sites
      site_fresh j n e l en ea er =
          let f = fresh_way m g.sites r.line b x p (set_in k g) _ j (sym eu ∙ e) the_way in
          let c = f.few in
          let y : n ≡ length f.added.sites = en ∙ (rw (lt-ltb g.sites 65535 (omega arith)) (sym f.long)) in
          let z : sites_in m' n ≡ f.added.sites = ap (λ x. sites_in x n) em ∙ (ap (λ o. sites_in (after_add m g.sites (added_in m g.sites r.line b)) o) y ∙ after_add_is m g.sites r.line b f.added f.is) in
          let s : Sound (sites_in m' n) = rw (em, y) (after_add_sound m g.sites r.line b f.added f.is endable.sites) in
          let d = endable in
          let h = T.roomy.sites in
          let ev : act_event (stands_in k r.stands) (a_site x) ≡ event.Site = rw stands_is refl in
          rw er
          (goes_on r k (lent m' w i t) room at (Sites (record { term = g.term; flags = g.flags; sites = n; rules = g.rules })) event.Site a p
          (at_sites (with_sites (set_in k g) f.added.sites)) (acts ∙ f.reads) (sym ev) ea (rw (← z) refl) T.holds
          (record { fresh = d.fresh; term = d.term; room = d.room; rules = d.rules; sites = s })
          (record { sites = omega arith; words = T.roomy.words; items = T.roomy.items }))

-- ---- a line of no bytes is no site
pub no_site : (r : Reader) (b m room room' : List ℕ) (at : ℕ) (a : Stepped) → length b ≡ 0 → (w i : List ℕ) (t : Square) (p : paper.Ended) (x : Site) → whole (site_read (take (length b - 1) (drop 1 b))) ≡ some x → Tells r (lent m w i t) p → Acts r (lent m w i t) (lent m w i t) room room' at p (a_site x) a
unfolding site_read
no_site r [] m room room' at a h w i t p x q T = let z : ◌≡◌ {A = ℕ} 0 1 = cc in absurd (omega arith)
no_site r (y ∷ b) m room room' at a h w i t p x q T = absurd (omega arith)

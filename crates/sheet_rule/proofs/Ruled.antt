-- A rule with all its items: what each return asks.
use mathlib.Core.Path.{◌≡◌, refl, ap, ◌∙◌}
use mathlib.Core.List.{List, [], ◌∷◌}
use Prim.Native.Nat.{ℕ, ◌+◌, ◌≤◌, ◌<◌, min}
use native.Mathlib.Omega.{arith}
use lib.ListN.{length}
use borrow.Author.Tests.{lt-ltb}
use Rattle.std.specs.declared.result.Result.TheVariants.{Err, Ok}
use Rattle.paper.specs.declared.Item.{Item}
use Rattle.paper.specs.declared.Refusal.{Refusal}
use Rattle.paper.specs.Numbers.{max_rules, max_items, done, refused}
use Rattle.paper.specs.Layout.{hex}
use Rattle.paper.specs.Loading.{Set, Written, written, load}
use Rattle.paper.specs.Sheets as paper
use Rattle.paper.specs.Sheets.{stepped, at_rules, refusal_found, rule_read}
use Rattle.term_table.specs.Table.{Square}
use Rattle.sheet_findings.specs.Written.{room_said, room_after}
use Rattle.paper.specs.Answered.{Maybe}
use Rattle.sites.specs.Slots.{sites_in}
use Rattle.rule_words.specs.Stored.{kept_first}
use Rattle.sheet_ended.specs.Sets.{to_or}
use Rattle.sheet_ended.proofs.Laws.{said_to, after_is}
use Rattle.sheet_reader.specs.State.{lent, set_in, rule_in, step_room}
use Rattle.sheet_reader.specs.Answers.{went, rule_event}
use Rattle.sheet_rule.specs.Rules.{Reads, next_rule_of}
use Rattle.sheet_reader.specs.declared.OpenSet.{OpenSet}
use Rattle.sheet_reader.specs.declared.Awaited.{Awaited}
use Rattle.sheet_reader.specs.declared.Stands.TheVariants.{Rules}
use Rattle.sheet_reader.specs.declared.Reader.{Reader}
use Rattle.sheet_reader.specs.declared.Event.TheVariants as event
use Rattle.sheet_reader.specs.declared.Stepped.{Stepped}
use Rattle.paper.specs.declared.Rule as declared
use Rattle.item_words.specs.Items as handed
use Rattle.item_words.proofs.Laws.{rule_written}
use Rattle.rule_load.specs.Whole.{loaded_as, load_in, sites_after, words_after}
use Rattle.paper.specs.Answered.{Answer}
use Rattle.sheet_reader.proofs.Standing.{length_kept}
use Rattle.sheet_rule.proofs.Loaded.{rule_refused, rule_kept}
use Rattle.rule_load.proofs.Ranging.{RuleFits, ItemFits}
use Rattle.item_words.specs.Items.{Ranged, items_in}
use Rattle.item_words.proofs.Laws.{items_ranged}
use Rattle.paper.specs.declared.Item.TheVariants.{Is, Equal}
use Rattle.sheet_reader.proofs.Acts.{goes_on, goes_with, refusal_long}

read_kept : (p : paper.Ended) (g : Set) (r : Written) (h : Set) → load g r ≡ done h → rule_read p g r ≡ done (stepped p (at_rules h) [])
unfolding rule_read
read_kept p g r h e = rw (e, rule_read)

read_refused : (p : paper.Ended) (g : Set) (r : Written) (x : Refusal) → load g r ≡ refused x → rule_read p g r ≡ done (stepped p (at_rules g) (refusal_found r.place x ∷ []))
unfolding rule_read
read_refused p g r x e = rw (e, rule_read)

event_kept : (g : Set) (r : Written) (h : Set) → load g r ≡ done h → event.Kept r.place r.priority ≡ rule_event g r
unfolding rule_event
event_kept g r h e = rw (e, rule_event)

event_refused : (g : Set) (r : Written) (x : Refusal) → load g r ≡ refused x → event.Refused r.place r.priority x ≡ rule_event g r
unfolding rule_event
event_refused g r x e = rw (e, rule_event)

module _ (r : Reader) (g : OpenSet) (rule : Awaited) (m ws it room : List ℕ) (at : ℕ) (a : Stepped) (w : declared.Rule) (v : Answer ℕ) (m' ws' : List ℕ)
    (er : w ≡ handed.rule_in it rule.place rule.priority rule.count) (ef : (rule.place < 4294967296) × (rule.priority < 18446744073709551616))
    (ev : v ≡ loaded_as (load_in m g.sites ws g.rules w)) (em : m' ≡ sites_after m g.sites (load_in m g.sites ws g.rules w)) (ew : ws' ≡ words_after ws g.rules (load_in m g.sites ws g.rules w)) where
  same_rule : (t : Square) → written w ≡ rule_in (lent m ws it t) rule rule.count
  same_rule t = ap written er ∙ rule_written it rule.place rule.priority rule.count

  item_fits : (i : Item) → Ranged i → ItemFits i
  item_fits (Is s c) r = r.1
  item_fits (Equal x y) r = tt

  place_is : w.place ≡ rule.place
  unfolding handed.rule_in
  place_is = ap (λ x. x.place) er

  priority_is : w.priority ≡ rule.priority
  unfolding handed.rule_in
  priority_is = ap (λ x. x.priority) er

  items_are : (written w).items ≡ items_in it (min rule.count max_items)
  items_are = ap (λ x. x.items) (same_rule [])

  fits : RuleFits w
  fits = record { place = rw place_is ef.0; priority = rw priority_is ef.1; items = λ i j. item_fits i (items_ranged it (min rule.count max_items) i (rw items_are at j)) }

  pub reads_refused : (why : Refusal) (room' : List ℕ) (o : Maybe ℕ) (to : ℕ) → v ≡ Err why → at + step_room ≤ length room → o ≡ room_said room at (hex (refusal_found rule.place why)) → room' ≡ room_after room at (hex (refusal_found rule.place why)) → to ≡ to_or o at → a ≡ went r (Rules g) (event.Refused rule.place rule.priority why) to → (t : Square) (p : paper.Ended) → Reads r (lent m ws it t) (lent m' ws' it t) room room' at p g rule a
  reads_refused why room' o to e l eo ero et ea t p H E R =
      let k = lent m ws it t in
      let F = rule_refused m ws g.sites g.rules g.term g.flags w R.sites R.words E.sites E.rules fits v m' ws' ev em ew why e in
      let c = refusal_long rule.place why in
      let x = hex (refusal_found rule.place why) in
      let L : load (set_in k g) (rule_in k rule rule.count) ≡ refused why = rw (same_rule t) at F.loads in
      rw (F.sites, F.words)
      (goes_with r k k room at (Rules g) (event.Refused rule.place rule.priority why) a room' to p (at_rules (set_in k g)) (refusal_found rule.place why)
      (read_refused p (set_in k g) (rule_in k rule rule.count) why L)
      (event_refused (set_in k g) (rule_in k rule rule.count) why L)
      ea (et ∙ ap (λ z. to_or z at) (said_to room at x o eo (omega arith))) (after_is room room' at x ero (omega arith)) (omega arith) refl H E R)

  pub reads_kept : (j n : ℕ) (room' : List ℕ) → v ≡ Ok j → n ≡ next_rule_of g.rules → length m' ≡ length m → length ws' ≡ length ws → room' ≡ room → a ≡ went r (Rules (record { term = g.term; flags = g.flags; sites = j; rules = n })) (event.Kept rule.place rule.priority) at → (t : Square) (p : paper.Ended) → Reads r (lent m ws it t) (lent m' ws' it t) room room' at p g rule a
  reads_kept j n room' e en lm lw eo ea t p H E R =
      let k = lent m ws it t in
      let k' = lent m' ws' it t in
      let K = rule_kept m ws g.sites g.rules g.term g.flags w R.sites R.words E.sites E.rules fits v m' ws' ev em ew j e in
      let L : load (set_in k g) (rule_in k rule rule.count) ≡ done K.set = rw (same_rule t) at K.loads in
      let c = length_kept ws g.rules in
      let f = K.few in
      let d = K.kept in
      let y : n ≡ g.rules + 1 = en ∙ rw (lt-ltb g.rules max_rules (omega arith)) in
      let more : OpenSet = record { term = g.term; flags = g.flags; sites = j; rules = n } in
      let z : K.set ≡ set_in k' more = K.is ∙ rw y in
      let zk : length K.set.kept ≡ length (kept_first ws' n) = ap (λ h. length h.kept) z in
      let zs : K.set.sites ≡ sites_in m' j = ap (λ h. h.sites) z in
      let hm = R.sites in
      let hw = R.words in
      rw eo
      (goes_on r k k' room at (Rules more) (event.Kept rule.place rule.priority) a p (at_rules K.set)
      (read_kept p (set_in k g) (rule_in k rule rule.count) K.set L)
      (event_kept (set_in k g) (rule_in k rule rule.count) K.set L)
      ea (ap at_rules z) H
      (record { fresh = E.fresh; term = E.term; room = E.room; rules = omega arith; sites = rw zs at K.sound })
      (record { sites = omega arith; words = omega arith; items = R.items }))

-- 03, 04, 05: what each return leaves.
use mathlib.Core.Path.{◌≡◌, sym, ap, ◌∙◌}
use mathlib.Core.List.{List}
use Prim.Native.Nat.{ℕ, ◌-◌, ◌<◌, ◌≤◌}
use lib.Dec.{eqb, ltb}
use borrow.Author.Tests.{eq-eqb, ne_eqb, lt-ltb, le-ltb}
use Rattle.std.specs.declared.result.Result.TheVariants.{Err, Ok}
use Rattle.std.specs.declared.option.Option.TheVariants.{None, Some}
use Rattle.paper.specs.declared.Item.{Item}
use Rattle.paper.specs.declared.Refusal.{Refusal}
use Rattle.paper.specs.declared.Refusal.TheVariants.{Layout}
use Rattle.paper.specs.Layout.{hex}
use Rattle.paper.specs.Sheets.{refusal_found}
use Rattle.term_table.specs.Table.{Square}
use Rattle.item_words.specs.Items as handed
use Rattle.rule_load.specs.Whole.{load_in, loaded_as, sites_after, words_after}
use Rattle.paper.specs.Answered.{Answer}
use Rattle.sheet_findings.specs.Written.{room_said, room_after}
use Rattle.paper.specs.Answered.{Maybe}
use Rattle.sheet_ended.specs.Sets.{to_or}
use Rattle.sheet_reader.specs.State.{Lent, lent}
use Rattle.sheet_reader.specs.Answers.{Awaits, rule_set, open_rule}
use Rattle.sheet_reader.specs.Leaves.{after, gone_on, stop_in}
use Rattle.sheet_reader.specs.declared.OpenSet.{OpenSet}
use Rattle.sheet_reader.specs.declared.Awaited.{Awaited}
use Rattle.sheet_reader.specs.declared.Reader.{Reader}
use Rattle.sheet_reader.specs.declared.Event.TheVariants as event
use Rattle.sheet_reader.specs.declared.Stands.TheVariants.{Rules, Items}
use Rattle.sheet_reader.specs.declared.Stepped.{Stepped}
use Rattle.sheet_reader.proofs.Leaving.{if_yes, if_no}
use Rattle.sheet_rule.specs.Rules.{next_rule_of, minus_of, item_kept}
use Rattle.sheet_rule.specs.Leaves.{one_rule_more, rule_loaded, loaded_memory, load_of, read_in, rule_where, rule_in, with_kept, item_awaited, item_in}

-- ---- a rule with all its items
module _ (r : Reader) (g : OpenSet) (w : Awaited) (m ws it room : List ℕ) (at : ℕ) (a : Stepped) (v : Answer ℕ) (m' ws' : List ℕ)
    (ev : v ≡ loaded_as (load_in m g.sites ws g.rules (handed.rule_in it w.place w.priority w.count)))
    (em : m' ≡ sites_after m g.sites (load_in m g.sites ws g.rules (handed.rule_in it w.place w.priority w.count)))
    (ew : ws' ≡ words_after ws g.rules (load_in m g.sites ws g.rules (handed.rule_in it w.place w.priority w.count))) (t : Square) where
  abbrev k : Lent
  k = lent m ws it t

  abbrev k' : Lent
  k' = lent m' ws' it t

  reads : rule_loaded r k' room at g w v ≡ read_in r k room at g w
  unfolding read_in
  reads =
      ap (λ x. rule_loaded r (lent x ws' it t) room at g w v) em
      ∙ (ap (λ x. rule_loaded r (lent (sites_after m g.sites (load_of k g w)) x it t) room at g w v) ew
      ∙ ap (rule_loaded r (loaded_memory k g (load_of k g w)) room at g w) ev)

  pub loads_kept : (j n : ℕ) (room' : List ℕ) → v ≡ Ok j → n ≡ next_rule_of g.rules → room' ≡ room → a ≡ gone_on r (Rules (record { term = g.term; flags = g.flags; sites = j; rules = n })) (event.Kept w.place w.priority) at → after a k' room' ≡ read_in r k room at g w
  loads_kept j n room' e en er ea =
      let more : a ≡ gone_on r (Rules (one_rule_more g j)) (event.Kept w.place w.priority) at =
      ea ∙ ap (λ c. gone_on r (Rules (record { term = g.term; flags = g.flags; sites = j; rules = c })) (event.Kept w.place w.priority) at) en in
      ap (λ x. after x k' room') more
      ∙ (ap (after (gone_on r (Rules (one_rule_more g j)) (event.Kept w.place w.priority) at) k') er
      ∙ (ap (rule_loaded r k' room at g w) (sym e) ∙ reads))

  pub loads_refused : (why : Refusal) (room' : List ℕ) (o : Maybe ℕ) (to : ℕ) → v ≡ Err why → o ≡ room_said room at (hex (refusal_found w.place why)) → room' ≡ room_after room at (hex (refusal_found w.place why)) → to ≡ to_or o at → a ≡ gone_on r (Rules g) (event.Refused w.place w.priority why) to → after a k' room' ≡ read_in r k room at g w
  loads_refused why room' o to e eo er et ea =
      let line = hex (refusal_found w.place why) in
      let there : to ≡ to_or (room_said room at line) at = et ∙ ap (λ x. to_or x at) eo in
      let said : a ≡ gone_on r (Rules g) (event.Refused w.place w.priority why) (to_or (room_said room at line) at) = ea ∙ ap (gone_on r (Rules g) (event.Refused w.place w.priority why)) there in
      ap (λ x. after x k' room') said
      ∙ (ap (after (gone_on r (Rules g) (event.Refused w.place w.priority why) (to_or (room_said room at line) at)) k') er
      ∙ (ap (rule_loaded r k' room at g w) (sym e) ∙ reads))

-- ---- 03
module _ (r : Reader) (w : Awaited) (m ws it room : List ℕ) (at : ℕ) (a : Stepped) (v : Maybe OpenSet) (ev : v ≡ rule_set r.stands) where
  pub rules_not : (room' : List ℕ) → v ≡ None → ((k : Lent) → after a k room' ≡ stop_in r k room at (Layout r.line)) → (t : Square) → after a (lent m ws it t) room' ≡ rule_in r (lent m ws it t) room at w
  unfolding rule_in
  rules_not room' e S t = S (lent m ws it t) ∙ ap (rule_where r (lent m ws it t) room at w) (sym e ∙ ev)

  module _ (g : OpenSet) (eg : v ≡ Some g) where
    pub rules_at_once : (m' ws' room' : List ℕ) → w.count ≡ 0 → ((t : Square) → after a (lent m' ws' it t) room' ≡ read_in r (lent m ws it t) room at g w) → (t : Square) → after a (lent m' ws' it t) room' ≡ rule_in r (lent m ws it t) room at w
    unfolding rule_in
    rules_at_once m' ws' room' z A t =
        let k = lent m ws it t in
        A t
        ∙ (if_yes (eqb w.count 0) (read_in r k room at g w) (after (gone_on r (Items g w w.count) event.Item at) k room) (eq-eqb w.count 0 z)
        ∙ ap (rule_where r k room at w) (sym eg ∙ ev))

    pub rules_await : (room' : List ℕ) → (w.count ≡ 0 → ⊥) → a ≡ gone_on r (Items g w w.count) event.Item at → room' ≡ room → (t : Square) → after a (lent m ws it t) room' ≡ rule_in r (lent m ws it t) room at w
    unfolding rule_in
    rules_await room' z ea er t =
        let k = lent m ws it t in
        ap (λ x. after x k room') ea
        ∙ (ap (after (gone_on r (Items g w w.count) event.Item at) k) er
        ∙ (if_no (eqb w.count 0) (read_in r k room at g w) (after (gone_on r (Items g w w.count) event.Item at) k room) (ne_eqb w.count 0 z)
        ∙ ap (rule_where r k room at w) (sym eg ∙ ev)))

-- ---- an item
module _ (r : Reader) (item : Item) (m ws it room : List ℕ) (at : ℕ) (a : Stepped) (v : Awaits) (ev : v ≡ open_rule r.stands) where
  pub items_not : (room' : List ℕ) → v ≡ None → ((k : Lent) → after a k room' ≡ stop_in r k room at (Layout r.line)) → (t : Square) → after a (lent m ws it t) room' ≡ item_in r (lent m ws it t) room at item
  unfolding item_in
  items_not room' e S t = S (lent m ws it t) ∙ ap (item_awaited r (lent m ws it t) room at item) (sym e ∙ ev)

  module _ (g : OpenSet) (w : Awaited) (left : ℕ) (eg : v ≡ Some (g, w, left)) (it' : List ℕ) (n : ℕ) (en : n ≡ minus_of w.count left) (ei : it' ≡ item_kept it n item) where
    held : it' ≡ item_kept it (minus_of w.count left) item
    held = ei ∙ ap (λ c. item_kept it c item) en

    pub items_last : (m' ws' room' : List ℕ) → left < 2 → ((t : Square) → after a (lent m' ws' it' t) room' ≡ read_in r (lent m ws it' t) room at g w) → (t : Square) → after a (lent m' ws' it' t) room' ≡ item_in r (lent m ws it t) room at item
    unfolding item_in
    items_last m' ws' room' l A t =
        let k = lent m ws it t in
        A t
        ∙ (ap (λ x. read_in r (lent m ws x t) room at g w) held
        ∙ (if_yes (ltb left 2) (read_in r (with_kept k w left item) room at g w) (after (gone_on r (Items g w (left - 1)) event.Item at) (with_kept k w left item) room) (lt-ltb left 2 l)
        ∙ ap (item_awaited r k room at item) (sym eg ∙ ev)))

    pub items_go : (room' : List ℕ) (fewer : ℕ) → 2 ≤ left → fewer ≡ left - 1 → a ≡ gone_on r (Items g w fewer) event.Item at → room' ≡ room → (t : Square) → after a (lent m ws it' t) room' ≡ item_in r (lent m ws it t) room at item
    unfolding item_in
    items_go room' fewer l ef ea er t =
        let k = lent m ws it t in
        let goes : a ≡ gone_on r (Items g w (left - 1)) event.Item at = ea ∙ ap (λ c. gone_on r (Items g w c) event.Item at) ef in
        ap (λ x. after x (lent m ws it' t) room') goes
        ∙ (ap (after (gone_on r (Items g w (left - 1)) event.Item at) (lent m ws it' t)) er
        ∙ (ap (λ x. after (gone_on r (Items g w (left - 1)) event.Item at) (lent m ws x t) room) held
        ∙ (if_no (ltb left 2) (read_in r (with_kept k w left item) room at g w) (after (gone_on r (Items g w (left - 1)) event.Item at) (with_kept k w left item) room) (le-ltb left 2 l)
        ∙ ap (item_awaited r k room at item) (sym eg ∙ ev))))

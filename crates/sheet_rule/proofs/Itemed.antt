-- 03, 04, 05: what each return asks.
use mathlib.Core.Path.{◌≡◌, refl, sym, ap, ◌∙◌}
use mathlib.Core.Bool.{Bool, true, false}
use mathlib.Core.List.{List, [], ◌∷◌, ◌++◌}
use Prim.Native.Nat.{ℕ, zero, suc, ◌+◌, ◌-◌, ◌≤◌, ◌<◌, min}
use native.Mathlib.Omega.{arith}
use lib.ListN.{length}
use lib.Dec.{ltb}
use borrow.Author.Tests.{lt-ltb, le-ltb, le-leb, ltb-true, ltb-false}
use Rattle.std.specs.declared.option.Option.TheVariants.{None, Some}
use Rattle.paper.specs.declared.Item.{Item}
use Rattle.paper.specs.declared.Refusal.TheVariants.{Layout}
use Rattle.paper.specs.Numbers.{max_items, Outcome, done, refused}
use Rattle.paper.specs.Layout.{a_rule, an_item}
use Rattle.paper.specs.Loading.{Set, Written, load}
use Rattle.paper.specs.Sheets as paper
use Rattle.paper.specs.Sheets.{stepped, at_rules, at_items, refusal_found, rule_read, items_left, with_item, rule_begun, item_read, act}
use Rattle.term_table.specs.Table.{Square}
use Rattle.rule_words.specs.Stored.{run}
use Rattle.sheet_ended.specs.Holds.{Endable}
use Rattle.sheet_reader.specs.State.{Lent, lent, Roomy, set_in, rule_in, stands_in, Tells, items_room}
use Rattle.sheet_reader.specs.Answers.{Answers, Acts, Stops, went, act_event, Awaits, rule_set, open_rule, rule_event, items_event, item_event}
use Rattle.sheet_rule.specs.Rules.{Reads, minus_of, item_kept}
use Rattle.sheet_reader.specs.declared.OpenSet.{OpenSet}
use Rattle.sheet_reader.specs.declared.Awaited.{Awaited}
use Rattle.sheet_reader.specs.declared.Stands.{Stands}
use Rattle.sheet_reader.specs.declared.Stands.TheVariants.{Outside, Sites, Rules, Items}
use Rattle.sheet_reader.specs.declared.Reader.{Reader}
use Rattle.sheet_reader.specs.declared.Event.{Event}
use Rattle.sheet_reader.specs.declared.Event.TheVariants as event
use Rattle.sheet_reader.specs.declared.Stepped.{Stepped}
use Rattle.paper.specs.Answered.{Maybe}
use Rattle.item_words.specs.Items.{Ranged, put_item, items_in}
use Rattle.item_words.proofs.Laws.{item_held, no_items}
use Rattle.sheet_reader.proofs.Acts.{stopped, goes_on}
use Rattle.sheet_reader.proofs.Standing.{rule_out, inside}

awaits_not : {A : Type 0} {x : OpenSet} {r : Awaited} {n : ℕ} → ◌≡◌ {A = Awaits} (Some (x, r, n)) None → A
awaits_not e = let z : ◌≡◌ {A = ℕ} 0 1 = cc in absurd (omega arith)

-- ---- a rule without items, with items
items_none : (p : paper.Ended) (g : Set) (r : Written) → items_left p g r 0 ≡ rule_read p g r
unfolding items_left
items_none p g r = refl

items_more : (p : paper.Ended) (g : Set) (r : Written) (n : ℕ) → 0 < n → items_left p g r n ≡ done (stepped p (at_items g r n) [])
unfolding items_left
items_more p g r zero h = absurd (omega arith)
items_more p g r (suc n) h = refl

event_none : (g : Set) (r : Written) → items_event g r 0 ≡ rule_event g r
unfolding items_event
event_none g r = refl

event_more : (g : Set) (r : Written) (n : ℕ) → 0 < n → items_event g r n ≡ event.Item
unfolding items_event
event_more g r zero h = absurd (omega arith)
event_more g r (suc n) h = refl

begun_is : (p : paper.Ended) (g : Set) (x y n : ℕ) → rule_begun p g x y n ≡ items_left p g (record { place = x; priority = y; count = n; items = [] }) n
unfolding rule_begun
begun_is p g x y n = refl

-- the same answer, of what is equal; a rule that is read is always answered, whatever memory was there before
answers_as : {r : Reader} {k k' : Lent} {room room' : List ℕ} {at : ℕ} {o o' : Outcome paper.Stepped} {e e' : Event} {a : Stepped} → o ≡ o' → e ≡ e' → Answers r k k' room room' at o' e' a → Answers r k k' room room' at o e a
answers_as q v A = rw (q, v) A

read_done : (p : paper.Ended) (g : Set) (r : Written) → (s : paper.Stepped) × (rule_read p g r ≡ done s)
unfolding rule_read
read_done p g r = go (load g r)
  where
    go : (o : Outcome Set) → (s : paper.Stepped) × ((elim o as (λ _. Outcome paper.Stepped) [ done g' ↦ done (stepped p (at_rules g') []) | refused x ↦ done (stepped p (at_rules g) (refusal_found r.place x ∷ [])) ]) ≡ done s)
    go (done h) = (stepped p (at_rules h) [], refl)
    go (refused x) = (stepped p (at_rules g) (refusal_found r.place x ∷ []), refl)

answers_from : {r : Reader} {j k k' : Lent} {room room' : List ℕ} {at : ℕ} {o : Outcome paper.Stepped} {e : Event} {a : Stepped} (s : paper.Stepped) → o ≡ done s → Answers r j k' room room' at o e a → Answers r k k' room room' at o e a
answers_from {r} {j} {k} {k'} {room} {room'} {at} {o} {e} {a} s q A =
    let B : Answers r j k' room room' at (done s) e a = rw q at A in
    rw q (record { event = B.event; to = B.to; into = B.into; goes = B.goes; fits = B.fits })

-- ---- 03
module _ (r : Reader) (rule : Awaited) (m ws it room : List ℕ) (at : ℕ) (a : Stepped) (v : Maybe OpenSet) (ev : v ≡ rule_set r.stands) where
  abbrev R : Written
  R = record { place = rule.place; priority = rule.priority; count = rule.count; items = [] }

  pub rule_not : (room' : List ℕ) → v ≡ None → Stops r (Layout r.line) room room' at a → (t : Square) (p : paper.Ended) → Tells r (lent m ws it t) p → Acts r (lent m ws it t) (lent m ws it t) room room' at p (a_rule rule.place rule.priority rule.count) a
  rule_not room' e S t p T = stopped (Layout r.line) (rule_out p r.line (lent m ws it t) r.stands rule.place rule.priority rule.count (sym ev ∙ e)) S

  module _ (g : OpenSet) (eg : v ≡ Some g) where
    pub rule_at_once : (m' ws' room' : List ℕ) → rule.count ≡ 0 → ((t : Square) (p : paper.Ended) → Reads r (lent m ws it t) (lent m' ws' it t) room room' at p g rule a) → (t : Square) (p : paper.Ended) → Tells r (lent m ws it t) p → Acts r (lent m ws it t) (lent m' ws' it t) room room' at p (a_rule rule.place rule.priority rule.count) a
    rule_at_once m' ws' room' z A t p T =
        let k = lent m ws it t in
        let I = inside p r.line k r.stands g (sym ev ∙ eg) in
        let n : rule_in k rule rule.count ≡ R = rw z (rw (no_items it)) in
        let o : act p r.line (stands_in k r.stands) (a_rule rule.place rule.priority rule.count) ≡ rule_read p (set_in k g) (rule_in k rule rule.count) = I.rules rule.place rule.priority rule.count ∙ (begun_is p (set_in k g) rule.place rule.priority rule.count ∙ (ap (items_left p (set_in k g) R) z ∙ (items_none p (set_in k g) R ∙ ap (rule_read p (set_in k g)) (sym n)))) in
        let e : act_event (stands_in k r.stands) (a_rule rule.place rule.priority rule.count) ≡ rule_event (set_in k g) (rule_in k rule rule.count) = I.events rule.place rule.priority rule.count ∙ (ap (items_event (set_in k g) R) z ∙ (event_none (set_in k g) R ∙ ap (rule_event (set_in k g)) (sym n))) in
        answers_as o e (A t p T.holds (I.fine T.fine) T.roomy)

    pub rule_awaits : (room' : List ℕ) → (rule.count ≡ 0 → ⊥) → a ≡ went r (Items g rule rule.count) event.Item at → room' ≡ room → (t : Square) (p : paper.Ended) → Tells r (lent m ws it t) p → Acts r (lent m ws it t) (lent m ws it t) room room' at p (a_rule rule.place rule.priority rule.count) a
    rule_awaits room' z ea er t p T =
        let k = lent m ws it t in
        let I = inside p r.line k r.stands g (sym ev ∙ eg) in
        let x : rule.count - rule.count ≡ 0 = omega arith in
        let h : 0 < rule.count = omega arith in
        let n : rule_in k rule (rule.count - rule.count) ≡ R = rw x (rw (no_items it)) in
        let o : act p r.line (stands_in k r.stands) (a_rule rule.place rule.priority rule.count) ≡ done (stepped p (at_items (set_in k g) R rule.count) []) = I.rules rule.place rule.priority rule.count ∙ (begun_is p (set_in k g) rule.place rule.priority rule.count ∙ items_more p (set_in k g) R rule.count h) in
        let e = I.events rule.place rule.priority rule.count ∙ event_more (set_in k g) R rule.count h in
        rw er (goes_on r k k room at (Items g rule rule.count) event.Item a p (at_items (set_in k g) R rule.count) o (sym e) ea (ap (λ w. at_items (set_in k g) w rule.count) (sym n)) T.holds (I.fine T.fine, h, omega arith) T.roomy)

-- ---- an item
pub item_past : (ws : List ℕ) (k : ℕ) (i : Item) → max_items ≤ k → (ws ≡ item_kept ws k i) × (k < max_items → Ranged i)
item_past ws k i h = (rw (le-ltb k max_items h), λ l. absurd (omega arith))

pub item_here : (ws out : List ℕ) (k : ℕ) (i : Item) → k < max_items → out ≡ put_item ws k i → Ranged i → (out ≡ item_kept ws k i) × (k < max_items → Ranged i)
item_here ws out k i h e r = (rw (lt-ltb k max_items h) e, λ l. r)

length_items : (ws : List ℕ) (n : ℕ) → length (items_in ws n) ≡ n
unfolding items_in run
length_items ws n = go _ 0 n
  where
    go : {A : Type 0} (f : ℕ → A) (i n : ℕ) → length (run f i n) ≡ n
    go f i zero = refl
    go f i (suc n) = ap suc (go f (suc i) n)

with_few : (r : Written) (i : Item) → length r.items < max_items → with_item r i ≡ record { place = r.place; priority = r.priority; count = r.count; items = r.items ++ (i ∷ []) }
unfolding with_item
with_few r i h = rw (lt-ltb (length r.items) max_items h, with_item)

with_many : (r : Written) (i : Item) → max_items ≤ length r.items → with_item r i ≡ r
unfolding with_item
with_many r i h = rw (le-ltb (length r.items) max_items h, with_item)

-- one item more of the n that were read
item_more : (m ws it it' : List ℕ) (t : Square) (rule : Awaited) (n : ℕ) (i : Item) → items_room ≤ length it → it' ≡ item_kept it n i → (n < max_items → Ranged i) → with_item (rule_in (lent m ws it t) rule n) i ≡ rule_in (lent m ws it' t) rule (n + 1)
item_more m ws it it' t rule n i h e q = go (ltb n max_items) refl
  where
    go : (b : Bool) → ltb n max_items ≡ b → with_item (rule_in (lent m ws it t) rule n) i ≡ rule_in (lent m ws it' t) rule (n + 1)
    go true x =
        let l = ltb-true n max_items x in
        let y : min n max_items ≡ n = omega arith in
        let z : min (n + 1) max_items ≡ suc n = omega arith in
        let c = length_items it n in
        let w : it' ≡ put_item it n i = e ∙ rw x in
        rw (y, z, w) (with_few (record { place = rule.place; priority = rule.priority; count = rule.count; items = items_in it n }) i (omega arith) ∙ rw (item_held it n i (q (omega arith)) (omega arith)))
    go false x =
        let l = ltb-false n max_items x in
        let y : min n max_items ≡ max_items = omega arith in
        let z : min (n + 1) max_items ≡ max_items = omega arith in
        let c = length_items it max_items in
        let w : it' ≡ it = e ∙ rw x in
        rw (y, z, w) (with_many (record { place = rule.place; priority = rule.priority; count = rule.count; items = items_in it max_items }) i (omega arith))

pub item_out : (p : paper.Ended) (at : ℕ) (k : Lent) (s : Stands) (i : Item) → open_rule s ≡ None → act p at (stands_in k s) (an_item i) ≡ refused (Layout at)
unfolding act
item_out p at k Outside i e = refl
item_out p at k (Sites s) i e = refl
item_out p at k (Rules s) i e = refl
item_out p at k (Items s r n) i e = awaits_not e

awaits_is : (s : Stands) (g : OpenSet) (r : Awaited) (n : ℕ) → open_rule s ≡ Some (g, r, n) → s ≡ Items g r n
awaits_is Outside g r n e = awaits_not (sym e)
awaits_is (Sites s) g r n e = awaits_not (sym e)
awaits_is (Rules s) g r n e = awaits_not (sym e)
awaits_is (Items s q m) g r n e =
    let same : ◌≡◌ {A = OpenSet × Awaited × ℕ} (s, q, m) (g, r, n) = cc in
    let x : s ≡ g = ap (λ o. o.0) same in
    let y : q ≡ r = ap (λ o. o.1) same in
    let z : m ≡ n = ap (λ o. o.2) same in
    rw (x, y, z)

item_acts : (p : paper.Ended) (at : ℕ) (k : Lent) (g : OpenSet) (r : Awaited) (n : ℕ) (i : Item) → 0 < n → act p at (stands_in k (Items g r n)) (an_item i) ≡ items_left p (set_in k g) (with_item (rule_in k r (r.count - n)) i) (n - 1)
unfolding act item_read
item_acts p at k g r zero i h = absurd (omega arith)
item_acts p at k g r (suc n) i h = let e : suc n - 1 ≡ n = omega arith in rw e

item_events : (k : Lent) (g : OpenSet) (r : Awaited) (n : ℕ) (i : Item) → 0 < n → act_event (stands_in k (Items g r n)) (an_item i) ≡ items_event (set_in k g) (with_item (rule_in k r (r.count - n)) i) (n - 1)
unfolding item_event
item_events k g r zero i h = absurd (omega arith)
item_events k g r (suc n) i h = let e : suc n - 1 ≡ n = omega arith in rw e

module _ (r : Reader) (item : Item) (m ws it room : List ℕ) (at : ℕ) (a : Stepped) (v : Awaits) (ev : v ≡ open_rule r.stands) where
  pub item_not : (room' : List ℕ) → v ≡ None → Stops r (Layout r.line) room room' at a → (t : Square) (p : paper.Ended) → Tells r (lent m ws it t) p → Acts r (lent m ws it t) (lent m ws it t) room room' at p (an_item item) a
  item_not room' e S t p T = stopped (Layout r.line) (item_out p r.line (lent m ws it t) r.stands item (sym ev ∙ e)) S

  module _ (g : OpenSet) (rule : Awaited) (left : ℕ) (eg : v ≡ Some (g, rule, left)) (it' : List ℕ) (n : ℕ) (en : n ≡ minus_of rule.count left) (ei : (it' ≡ item_kept it n item) × (n < max_items → Ranged item)) (li : length it' ≡ length it) where
    is : r.stands ≡ Items g rule left
    is = awaits_is r.stands g rule left (sym ev ∙ eg)

    module _ (t : Square) (p : paper.Ended) (T : Tells r (lent m ws it t) p) where
      abbrev k : Lent
      k = lent m ws it t

      abbrev j : Lent
      j = lent m ws it' t

      fine : Endable p (set_in k g) × (0 < left) × (left ≤ rule.count)
      fine = let f = T.fine in rw is at f

      minus : n ≡ rule.count - left
      minus = let f = fine in en ∙ rw (le-leb left rule.count (omega arith))

      more : (c : ℕ) → c ≡ rule.count - left + 1 → with_item (rule_in k rule (rule.count - left)) item ≡ rule_in j rule c
      more c e = rw (e, ← minus) (item_more m ws it it' t rule n item T.roomy.items ei.0 ei.1)

      roomy : Roomy j
      roomy = let l = li in let h = T.roomy.items in record { sites = T.roomy.sites; words = T.roomy.words; items = omega arith }

      acts : act p r.line (stands_in k r.stands) (an_item item) ≡ items_left p (set_in k g) (with_item (rule_in k rule (rule.count - left)) item) (left - 1)
      acts = let f = fine in rw is (item_acts p r.line k g rule left item (omega arith))

      events : act_event (stands_in k r.stands) (an_item item) ≡ items_event (set_in k g) (with_item (rule_in k rule (rule.count - left)) item) (left - 1)
      events = let f = fine in rw is (item_events k g rule left item (omega arith))

      pub item_last : (m' ws' room' : List ℕ) → left < 2 → ((t : Square) (p : paper.Ended) → Reads r (lent m ws it' t) (lent m' ws' it' t) room room' at p g rule a) → Acts r k (lent m' ws' it' t) room room' at p (an_item item) a
      item_last m' ws' room' h A =
          let f = fine in
          let z : left - 1 ≡ 0 = omega arith in
          let y : rule.count ≡ rule.count - left + 1 = omega arith in
          let w = more rule.count y in
          let R = rule_in j rule rule.count in
          let o : act p r.line (stands_in k r.stands) (an_item item) ≡ rule_read p (set_in k g) R = acts ∙ (ap (items_left p (set_in k g) (with_item (rule_in k rule (rule.count - left)) item)) z ∙ (items_none p (set_in k g) _ ∙ ap (rule_read p (set_in k g)) w)) in
          let e : act_event (stands_in k r.stands) (an_item item) ≡ rule_event (set_in k g) R = events ∙ (ap (items_event (set_in k g) (with_item (rule_in k rule (rule.count - left)) item)) z ∙ (event_none (set_in k g) _ ∙ ap (rule_event (set_in k g)) w)) in
          let d = read_done p (set_in k g) R in
          answers_as o e (answers_from d.0 d.1 (A t p T.holds f.0 roomy))

      pub item_goes : (c : ℕ) (room' : List ℕ) → 2 ≤ left → c ≡ left - 1 → a ≡ went r (Items g rule c) event.Item at → room' ≡ room → Acts r k j room room' at p (an_item item) a
      item_goes c room' h ec ea er =
          let f = fine in
          let y : rule.count - c ≡ rule.count - left + 1 = omega arith in
          let w = more (rule.count - c) y in
          let W = with_item (rule_in k rule (rule.count - left)) item in
          let o : act p r.line (stands_in k r.stands) (an_item item) ≡ done (stepped p (at_items (set_in k g) W c) []) = acts ∙ (ap (items_left p (set_in k g) W) (sym ec) ∙ items_more p (set_in k g) W c (omega arith)) in
          let e : act_event (stands_in k r.stands) (an_item item) ≡ event.Item = events ∙ (ap (items_event (set_in k g) W) (sym ec) ∙ event_more (set_in k g) W c (omega arith)) in
          rw er (goes_on r k j room at (Items g rule c) event.Item a p (at_items (set_in k g) W c) o (sym e) ea (ap (λ x. at_items (set_in k g) x c) w) T.holds (f.0, omega arith, omega arith) roomy)

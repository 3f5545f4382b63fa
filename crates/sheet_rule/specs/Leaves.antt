-- What 03, 04 and 05 leave, whatever the reader and the lent memory hold.
use Rattle.std.specs.declared.result.Result.TheVariants.{Err, Ok}
use Rattle.std.specs.declared.option.Option.TheVariants.{None, Some}
use Rattle.std.specs.Prelude.{List, ℕ, ◌-◌, eqb, ltb}
use Rattle.paper.specs.declared.Item.{Item}
use Rattle.paper.specs.declared.Refusal.TheVariants.{Layout}
use Rattle.std.specs.Prelude.{if◌then◌else◌}
use Rattle.paper.specs.Numbers.{Outcome}
use Rattle.paper.specs.Layout.{hex}
use Rattle.paper.specs.Loading.{Set}
use Rattle.paper.specs.Sheets.{refusal_found}
use Rattle.item_words.specs.Items as handed
use Rattle.rule_load.specs.Whole.{load_in, loaded_as, sites_after, words_after}
use Rattle.paper.specs.Answered.{Answer}
use Rattle.sheet_findings.specs.Written.{room_said, room_after}
use Rattle.sheet_ended.specs.Sets.{to_or}
use Rattle.sheet_reader.specs.State.{Lent, lent}
use Rattle.sheet_reader.specs.Answers.{Awaits, rule_set, open_rule}
use Rattle.sheet_reader.specs.Leaves.{After, after, gone_on, stop_in}
use Rattle.sheet_reader.specs.declared.OpenSet.{OpenSet}
use Rattle.sheet_reader.specs.declared.Awaited.{Awaited}
use Rattle.sheet_reader.specs.declared.Reader.{Reader}
use Rattle.sheet_reader.specs.declared.Event.TheVariants as event
use Rattle.sheet_reader.specs.declared.Stands.TheVariants.{Rules, Items}
use Rattle.paper.specs.Answered.{Maybe}
use Rattle.sheet_rule.specs.Rules.{next_rule_of, minus_of, item_kept}

-- ---- a rule with all its items: it is loaded, and kept; or an 11, "11 place, number (1)"
abbrev pub one_rule_more : OpenSet → ℕ → OpenSet
one_rule_more s n = record { term = s.term; flags = s.flags; sites = n; rules = next_rule_of s.rules }

abbrev pub rule_loaded : Reader → Lent → List ℕ → ℕ → OpenSet → Awaited → Answer ℕ → After
rule_loaded r k room at s w (Ok n) = after (gone_on r (Rules (one_rule_more s n)) (event.Kept w.place w.priority) at) k room
rule_loaded r k room at s w (Err why) =
    let line = hex (refusal_found w.place why) in
    after (gone_on r (Rules s) (event.Refused w.place w.priority why) (to_or (room_said room at line) at)) k (room_after room at line)

-- the lent memory after a load: after an 11 it is as it was
abbrev pub loaded_memory : Lent → OpenSet → Outcome Set → Lent
loaded_memory k s o = lent (sites_after k.sites s.sites o) (words_after k.words s.rules o) k.items k.table

abbrev pub load_of : Lent → OpenSet → Awaited → Outcome Set
load_of k s w = load_in k.sites s.sites k.words s.rules (handed.rule_in k.items w.place w.priority w.count)

unfoldable pub read_in : Reader → Lent → List ℕ → ℕ → OpenSet → Awaited → After
read_in r k room at s w = rule_loaded r (loaded_memory k s (load_of k s w)) room at s w (loaded_as (load_of k s w))

-- ---- "03 place (4), priority (8, two's complement), item count (1), then its items": 1 where no set is open or items are to come; a rule without items
-- is read at once
abbrev pub rule_where : Reader → Lent → List ℕ → ℕ → Awaited → Maybe OpenSet → After
rule_where r k room at w None = stop_in r k room at (Layout r.line)
rule_where r k room at w (Some s) =
    if eqb w.count 0 then read_in r k room at s w else after (gone_on r (Items s w w.count) event.Item at) k room

unfoldable pub rule_in : Reader → Lent → List ℕ → ℕ → Awaited → After
rule_in r k room at w = rule_where r k room at w (rule_set r.stands)

-- ---- 04 and 05: 1 where no item is to come; with the last item the rule is read
abbrev pub with_kept : Lent → Awaited → ℕ → Item → Lent
with_kept k w left i = lent k.sites k.words (item_kept k.items (minus_of w.count left) i) k.table

abbrev pub item_awaited : Reader → Lent → List ℕ → ℕ → Item → Awaits → After
item_awaited r k room at i None = stop_in r k room at (Layout r.line)
item_awaited r k room at i (Some (s, w, left)) =
    if ltb left 2 then read_in r (with_kept k w left i) room at s w
    else after (gone_on r (Items s w (left - 1)) event.Item at) (with_kept k w left i) room

unfoldable pub item_in : Reader → Lent → List ℕ → ℕ → Item → After
item_in r k room at i = item_awaited r k room at i (open_rule r.stands)

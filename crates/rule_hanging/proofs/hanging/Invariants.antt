use Rattle.std.proofs.Common.{◌≡◌, [], take}
use Rattle.paper.specs.Words.{keep, least}
use Rattle.paper.specs.Loading.{Loading, hangs}
use Rattle.item_words.specs.Items.{items_in as held_items}
use Rattle.rule_lists.specs.Entries.{found_as}
use Rattle.rule_hanging.specs.Seen.{names, Sees, Known}
use Rattle.rule_hanging.proofs.hanging.Given as goal

abbrev pub invariant-loop-i : goal.invariant-loop-i
invariant-loop-i l = (w : Loading) → Sees l.m l.n l.tail l.sites l.rows l.words l.held w → Known w (names (held_items l.items l.count) []) →
    l.best ≡ found_as (least (keep (hangs w) (names (take l.i (held_items l.items l.count)) [])))

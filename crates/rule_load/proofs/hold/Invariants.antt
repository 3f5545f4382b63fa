use mathlib.Core.Path.{◌≡◌}
use lib.ListN.{length}
use Rattle.item_words.specs.Items.{items_in}
use Rattle.rule_load.proofs.Holding.{first_items}
use Rattle.rule_load.proofs.hold.Given as goal

abbrev pub invariant-loop-k : goal.invariant-loop-k
invariant-loop-k l = (length l.out ≡ length l.initial.out) × (items_in l.out l.k ≡ first_items l.rule l.k)

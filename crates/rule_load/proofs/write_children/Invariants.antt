use mathlib.Core.Path.{◌≡◌}
use lib.ListN.{length}
use Rattle.sites.specs.Slots.{store}
use Rattle.rule_load.specs.Parts.{new_sites}
use Rattle.rule_load.proofs.write_children.Given as goal

abbrev pub invariant-loop-i : goal.invariant-loop-i
invariant-loop-i l = (l.m ≡ store l.initial.m l.n (new_sites l.tail l.i)) × (length l.m ≡ length l.initial.m)

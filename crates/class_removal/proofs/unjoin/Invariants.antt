use mathlib.Core.Path.{◌≡◌}
use lib.ListN.{drop}
use Rattle.paper.specs.Classes.{unjoin}
use Rattle.class_removal.proofs.unjoin.Given as goal

abbrev pub invariant-loop-member : goal.invariant-loop-member
invariant-loop-member l = unjoin l.parents (drop l.member-index l.members) ≡ unjoin l.initial.parents l.members

-- The bytes so far are fed, one after the other.
use Rattle.paper.specs.Classes.{classes}
use Rattle.run_script.specs.Said.{stand, IsFedTo}
use Rattle.run_script.proofs.feed.Given as goal

abbrev pub invariant-loop-b : goal.invariant-loop-b
invariant-loop-b g l =
    IsFedTo l.bytes l.b-index (stand (classes l.initial.parents l.initial.ranks l.initial.count) l.initial.members l.initial.line l.initial.out l.initial.q)
    (stand (classes l.parents l.ranks l.count) l.members l.line l.out l.q)

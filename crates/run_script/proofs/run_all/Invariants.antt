-- As many reads as turns are done, one after the other.
use Rattle.paper.specs.Classes.{classes}
use Rattle.run_script.specs.Said.{stand, ReadTo}
use Rattle.run_script.proofs.run_all.Given as goal

abbrev pub invariant-loop : goal.invariant-loop
invariant-loop g l =
    ReadTo l.counter (stand (classes l.initial.parents l.initial.ranks l.initial.count) l.initial.members l.initial.line l.initial.out l.initial.q)
    (stand (classes l.parents l.ranks l.count) l.members l.line l.out l.q)

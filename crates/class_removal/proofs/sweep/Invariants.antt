use Rattle.paper.specs.Classes.{sweep}
use Rattle.classes.specs.Answers.{Sweeps}
use Rattle.class_removal.proofs.sweep.Given as goal

abbrev pub invariant-loop-y : goal.invariant-loop-y
invariant-loop-y l = Sweeps (sweep l.y l.initial.parents l.r) l.initial.members l.parents l.members l.n

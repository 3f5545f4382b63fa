use Rattle.classes.specs.Answers.{Sweeps}
use Rattle.class_removal.specs.Listed.{sweep_of}
use Rattle.class_removal.proofs.sweep_listed.Given as goal

abbrev pub invariant-loop-y : goal.invariant-loop-y
invariant-loop-y l = Sweeps (sweep_of l.sites l.y-index l.initial.parents l.r) l.initial.members l.parents l.members l.n

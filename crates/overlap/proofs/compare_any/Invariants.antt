use Rattle.rule_words.specs.Stored.{run, constrained_at}
use Rattle.overlap.proofs.WalkLaws.{Walked, Looking}
use Rattle.overlap.proofs.compare_any.Given as goal

abbrev pub invariant-loop-y : goal.invariant-loop-y
invariant-loop-y l = Looking (constrained_at l.words l.a) l.n (constrained_at l.words l.b) l.m l.all l.x l.site l.y

abbrev pub invariant-walk : goal.invariant-walk
invariant-walk l = Walked (constrained_at l.words l.a) l.n (run (constrained_at l.words l.b) 0 l.m) l.all l.x

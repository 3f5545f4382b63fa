use mathlib.Core.Path.{◌≡◌}
use Prim.Native.Nat.{◌-◌}
use lib.ListN.{length, drop}
use Rattle.tell_text.specs.Written.{wrote}
use Rattle.run_answers.specs.Told.{in_words}
use Rattle.run_answers.proofs.put_all_explained.Given as goal

abbrev pub invariant-loop-e : goal.invariant-loop-e
invariant-loop-e l = wrote (l.out, l.n) (in_words l.clean (drop l.from l.room)) ≡ wrote (l.initial.out, l.at) (in_words l.clean l.room)

abbrev pub decreases-loop-e : goal.decreases-loop-e
decreases-loop-e l = length l.room - l.from

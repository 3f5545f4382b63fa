use mathlib.Core.Path.{◌≡◌}
use Prim.Native.Nat.{◌*◌}
use lib.ListN.{drop}
use Rattle.tell_text.specs.Written.{wrote}
use Rattle.run_answers.specs.Told.{bytes_in}
use Rattle.run_answers.proofs.bytes_of.Given as goal

abbrev pub invariant-loop-n : goal.invariant-loop-n
invariant-loop-n l = wrote (l.bytes, l.k) (bytes_in (drop (2 * l.n) l.line)) ≡ wrote (l.initial.bytes, 0) (bytes_in l.line)

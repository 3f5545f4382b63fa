use mathlib.Core.Path.{◌≡◌}
use lib.ListN.{drop}
use Rattle.tell_text.specs.Written.{wrote}
use Rattle.tell_text.proofs.put_text.Given as goal

abbrev pub invariant-loop-b : goal.invariant-loop-b
invariant-loop-b l = wrote (l.out, l.k) (drop l.b-index l.text) ≡ wrote (l.initial.out, l.at) l.text

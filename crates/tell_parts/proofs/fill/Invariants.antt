use mathlib.Core.Path.{◌≡◌}
use lib.ListN.{drop}
use Rattle.tell_text.specs.Written.{wrote}
use Rattle.tell_parts.specs.Parts.{filled}
use Rattle.tell_parts.proofs.fill.Given as goal

abbrev pub invariant-loop-b : goal.invariant-loop-b
invariant-loop-b l = wrote (l.out, l.k) (filled l.f (drop l.b-index l.words)) ≡ wrote (l.initial.out, l.at) (filled l.f l.words)

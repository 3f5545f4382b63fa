use mathlib.Core.Path.{◌≡◌}
use lib.ListN.{drop}
use Rattle.tell_text.specs.Written.{wrote}
use Rattle.tell_kept.specs.Listed.{terms_text}
use Rattle.tell_kept.proofs.put_terms.Given as goal

abbrev pub invariant-loop-term : goal.invariant-loop-term
invariant-loop-term l = wrote (l.out, l.e) (terms_text (drop l.term-index l.terms)) ≡ wrote (l.initial.out, l.at) (terms_text l.terms)

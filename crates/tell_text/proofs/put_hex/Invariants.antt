use mathlib.Core.Path.{◌≡◌}
use lib.ListN.{drop}
use Rattle.sheet_digits.specs.Digits.{digits_of}
use Rattle.tell_text.specs.Written.{wrote}
use Rattle.tell_text.proofs.put_hex.Given as goal

abbrev pub invariant-loop-b : goal.invariant-loop-b
invariant-loop-b l = wrote (l.out, l.k) (digits_of (drop l.b-index l.bytes)) ≡ wrote (l.initial.out, l.at) (digits_of l.bytes)

use Rattle.std.proofs.Common.{◌≡◌, take}
use Rattle.std.proofs.lemmas.List.Edits.{sets}
use Rattle.sheet_digits.specs.Digits.{digits_of}
use Rattle.sheet_digits.proofs.write_bytes.Given as goal

abbrev pub invariant-loop-k : goal.invariant-loop-k
invariant-loop-k l = l.room ≡ sets l.fn.room l.at (digits_of (take l.k l.bytes))

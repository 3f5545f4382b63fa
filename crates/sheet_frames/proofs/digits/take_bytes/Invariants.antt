use mathlib.Core.Path.{◌≡◌}
use Rattle.sheet_frames.specs.Said.{values_said}
use Rattle.sheet_frames.proofs.Decoded.{Decoding}
use Rattle.sheet_frames.proofs.digits.take_bytes.Given as goal

abbrev pub invariant-loop-j : goal.invariant-loop-j
invariant-loop-j l = (l.values ≡ values_said) × Decoding l.line l.out l.j

-- What the check of a whole sheet answers: how many bytes of findings, or why none.
use Rattle.std.specs.Prelude.{ℕ}
use Rattle.std.specs.declared.result.Result.{Result}
use Rattle.sheet_read.specs.declared.Unchecked.{Unchecked}

abbrev pub Checked : Type 0
Checked = Result ℕ Unchecked

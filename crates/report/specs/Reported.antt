-- What a report answers: how many bytes it wrote, or why none.
use Rattle.std.specs.Prelude.{ℕ}
use Rattle.std.specs.declared.result.Result.{Result}
use Rattle.report.specs.declared.Unreported.{Unreported}

abbrev pub Reported : Type 0
Reported = Result ℕ Unreported

-- How the rounds end: they go on to what is kept, or stop.
use Rattle.std.specs.declared.result.Result.{Result}
use Rattle.rule_rounds.specs.declared.Halt.{Halt}

abbrev pub Halted : Type 0
Halted = Result (Unit {0}) Halt

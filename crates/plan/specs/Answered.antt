-- What the check of a proposal and the planner answer: it is well, or why not.
use Rattle.std.specs.declared.result.Result.{Result}
use Rattle.plan.specs.declared.Fault.{Fault}
use Rattle.plan.specs.declared.Unplanned.{Unplanned}

abbrev pub Judged : Type 0
Judged = Result (Unit {0}) Fault

abbrev pub Planned : Type 0
Planned = Result (Unit {0}) Unplanned

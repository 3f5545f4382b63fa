-- `run_script::read_some` meets its contract. Assumes nothing.
use Rattle.run_script.specs.Said.{fed}
use Rattle.std.proofs.lemmas.Result.{IfOk-weaker}
use Rattle.run_script.proofs.Stopping.{at_error, none_came}
use Rattle.run_script.proofs.read_some.Goals as goal

pub returns-in_err-n-clause-stopped : goal.returns-in_err-n-clause-stopped
returns-in_err-n-clause-stopped g c = at_error _ (none_came _ _ _ _ _)

pub returns-clause-read : goal.returns-clause-read
returns-clause-read g c = IfOk-weaker _ _ _ (λ q h. fed _ h) c.feed.ensures.fed

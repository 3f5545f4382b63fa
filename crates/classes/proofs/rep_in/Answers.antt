-- `classes::rep_in` meets its contract. Assumes nothing.
use mathlib.Core.Path.{◌∙◌}
use Rattle.classes.proofs.Calls.{rep_at}
use Rattle.classes.proofs.rep_in.Goals as goal

pub returns : goal.returns
returns c = c.unwrap_or.ensures ∙ rep_at _ _ _ c.trail_in.ensures

use Rattle.plan_text.proofs.Turns.{no_store}
use Rattle.plan_text.proofs.store.Goals as goal

pub returns-else-k-xs : goal.returns-else-k-xs
returns-else-k-xs g c = no_store _ _ _ c.if-k-xs.false

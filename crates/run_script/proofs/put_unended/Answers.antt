-- `run_script::put_unended` meets its contract. Assumes nothing.
use Rattle.tell_text.specs.Written.{follows}
use Rattle.run_script.proofs.Saying.{unended_none, unended_some}
use Rattle.run_script.proofs.put_unended.Goals as goal

pub returns-then-p-eq0 : goal.returns-then-p-eq0
returns-then-p-eq0 c = unended_none _ _ _ c.if-p-eq0.true

pub returns : goal.returns
returns c = unended_some _ _ _ _ c.if-p-eq0.false (follows _ _ _ _ _ (follows _ _ _ _ _ c.put_text-n.ensures c.put_decimal-m.ensures) c.put.ensures)

use Rattle.tell_text.specs.Written.{stored, left_out}
use Rattle.tell_text.proofs.put.Goals as goal

pub returns-then-at-out : goal.returns-then-at-out
returns-then-at-out c = stored _ _ _ c.if-at-out.true

pub returns : goal.returns
returns c = left_out _ _ _ c.if-at-out.false

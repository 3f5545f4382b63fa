-- `run_script::reply_to` meets its contract. Assumes nothing.
use Rattle.run_script.proofs.Saying.{replied_long, replied_call}
use Rattle.run_script.proofs.reply_to.Goals as goal

pub returns-then-line-used : goal.returns-then-line-used
returns-then-line-used c = replied_long _ _ _ _ c.if-line-used.true

pub returns : goal.returns
returns c = replied_call _ _ _ _ _ c.if-line-used.false c.step.ensures

-- `tell_reply::put_reply` meets its contract. Assumes nothing.
use mathlib.Core.Path.{sym, ap}
use Rattle.tell_text.specs.Written.{follows}
use Rattle.tell_reply.specs.Replies.{reply_text}
use Rattle.tell_reply.proofs.Wording.{told}
use Rattle.tell_reply.proofs.put_reply.Goals as goal

pub returns-in-Bad : goal.returns-in-Bad
returns-in-Bad c = told _ _ _ _ (ap (reply_text _ _) (sym c.in-Bad.is)) (follows _ _ _ _ _ c.put_text-m.ensures c.put_decimal-in-Bad.ensures)

-- `tell_reply::put_untaken` meets its contract. Assumes nothing.
use mathlib.Core.Path.{sym, ap}
use Rattle.tell_text.specs.Written.{nothing}
use Rattle.tell_reply.specs.Replies.{untaken_text}
use Rattle.tell_reply.proofs.Wording.{told}
use Rattle.tell_reply.proofs.put_untaken.Goals as goal

pub returns-in-Short : goal.returns-in-Short
returns-in-Short c = told _ _ _ _ (ap untaken_text (sym c.in-Short.is)) (nothing _)

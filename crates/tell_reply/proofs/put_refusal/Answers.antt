-- `tell_reply::put_refusal` meets its contract. Assumes nothing.
use mathlib.Core.Path.{sym, ap}
use Rattle.tell_text.specs.Written.{nothing, follows}
use Rattle.tell_reply.specs.Replies.{refusal_text}
use Rattle.tell_reply.proofs.Wording.{told, refusal_other}
use Rattle.tell_reply.proofs.put_refusal.Goals as goal

pub returns-in-Unknown : goal.returns-in-Unknown
returns-in-Unknown c = told _ _ _ _ (ap refusal_text (sym c.in-Unknown.is)) (follows _ _ _ _ _ c.put_text-m.ensures (rw c.from.ensures at c.put_decimal.ensures))

pub returns-in-Itself : goal.returns-in-Itself
returns-in-Itself c = told _ _ _ _ (ap refusal_text (sym c.in-Itself.is)) (follows _ _ _ _ _ c.put_text-m-in-Itself.ensures (rw c.from-in-Itself.ensures at c.put_decimal-in-Itself.ensures))

pub returns-in_default : goal.returns-in_default
returns-in_default c = told _ _ _ _ (sym (refusal_other c.args.e c.in_default.not-Unknown c.in_default.not-Itself)) (nothing _)

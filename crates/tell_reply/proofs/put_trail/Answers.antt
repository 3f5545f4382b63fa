-- `tell_reply::put_trail` meets its contract. Assumes nothing.
use mathlib.Core.Path.{sym, ap}
use Rattle.std.specs.Prelude.{ℕ}
use Rattle.tell_text.specs.Written.{follows}
use Rattle.paper.specs.Answered.{Maybe}
use Rattle.tell_reply.specs.Replies.{linked}
use Rattle.tell_reply.proofs.Wording.{told}
use Rattle.tell_reply.proofs.put_trail.Goals as goal

pub returns : goal.returns
returns c = told _ _ _ _ (ap (λ (f : Maybe ℕ). linked f c.args.t.links) (sym c.in-Some.is))
    (follows _ _ _ _ _ (follows _ _ _ _ _ (rw c.from.ensures at c.put_decimal-m.ensures) c.put-k.ensures) (rw c.from-2.ensures at c.put_decimal.ensures))

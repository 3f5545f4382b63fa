use mathlib.Core.Path.{◌∙◌}
use Rattle.site_body.proofs.Turns.{off_is, off_past}
use native.Mathlib.Omega.{arith}
use Rattle.site_body.proofs.off_of.Goals as goal

pub returns-then-k-ge-KINDS : goal.returns-then-k-ge-KINDS
returns-then-k-ge-KINDS c = off_past c.args.b.now c.from-k.result (c.from-k.ensures ∙ c.byte_at.ensures) c.if-k-ge-KINDS.true

pub returns : goal.returns
returns c = off_is c.args.b.now c.from-k.result c.from.result (c.from-k.ensures ∙ c.byte_at.ensures) (omega (arith, c.if-k-ge-KINDS.false)) c.from.ensures

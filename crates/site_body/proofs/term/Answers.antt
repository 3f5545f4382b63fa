use mathlib.Core.Path.{sym, ◌∙◌}
use Rattle.site_body.proofs.Bodies.{term_none}
use Rattle.site_body.proofs.term.Goals as goal

pub returns-then-not-is_body : goal.returns-then-not-is_body
returns-then-not-is_body c = term_none c.args.b.now (sym c.is_body.ensures ∙ c.if-not-is_body.true)

pub term_in-requires : goal.term_in-requires
term_in-requires c = (sym c.is_body.ensures ∙ c.if-not-is_body.false)

use mathlib.Core.Path.{sym, ap, ◌∙◌}
use Rattle.std.specs.declared.option.Option.TheVariants.{Some, None}
use Rattle.site_body.specs.Body.{site_of}
use Rattle.site_body.proofs.Bodies.{parent_by}
use borrow.Author.Rules.{rules}
use Rattle.site_body.proofs.parent.Goals as goal

pub returns-in_err-source : goal.returns-in_err-source
returns-in_err-source c = c.from_residual.ensures ∙ parent_by (site_of c.args.b.now) None (sym (c.in_err-source.was) ∙ c.link_of.ensures)

pub returns-in-Variant : goal.returns-in-Variant
returns-in-Variant c = parent_by (site_of c.args.b.now) _ (sym (c.in_ok-source.was ∙ ap Some c.in-Variant.is) ∙ c.link_of.ensures)

pub returns-in-Struct : goal.returns-in-Struct
returns-in-Struct c = parent_by (site_of c.args.b.now) _ (sym (c.in_ok-source.was ∙ ap Some c.in-Struct.is) ∙ c.link_of.ensures)

pub returns-in-Some : goal.returns-in-Some
returns-in-Some c = parent_by (site_of c.args.b.now) _ (sym (c.in_ok-source.was ∙ ap Some c.in-Some.is) ∙ c.link_of.ensures)

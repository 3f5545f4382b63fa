-- `rule_classes::known` meets its contract. Assumes nothing.
use mathlib.Core.Path.{refl, sym, ◌∙◌}
use Rattle.rule_classes.proofs.known.Goals as goal

pub returns-then-site-ne0 : goal.returns-then-site-ne0
returns-then-site-ne0 c = (c.first_stray-site.result, c.first_stray-site.ensures, c.if-site-ne0.true, refl)

pub returns : goal.returns
returns c = sym c.first_stray-site.ensures ∙ c.if-site-ne0.false

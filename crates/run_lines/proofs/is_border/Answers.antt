use Rattle.run_lines.proofs.TakenLaws.{no_border, border_is}
use Rattle.run_lines.proofs.is_border.Goals as goal

pub returns-then-text-ne4 : goal.returns-then-text-ne4
returns-then-text-ne4 c = no_border _ c.if-text-ne4.true

pub returns : goal.returns
returns c = border_is _ _ c.if-text-ne4.false c.starts_with.ensures.value

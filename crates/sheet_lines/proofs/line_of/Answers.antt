use Rattle.sheet_lines.specs.Cut.{line_held, line_here}
use Rattle.sheet_lines.proofs.line_of.Goals as goal

pub returns-then-before-gt0 : goal.returns-then-before-gt0
returns-then-before-gt0 c = line_held _ _ c.if-before-gt0.true

pub returns : goal.returns
returns c = line_here _ _ c.if-before-gt0.false

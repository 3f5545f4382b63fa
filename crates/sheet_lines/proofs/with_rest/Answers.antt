use Rattle.sheet_lines.specs.Cut.{rest_none, rest_some}
use Rattle.sheet_lines.proofs.with_rest.Goals as goal

pub returns-then-h-eq0 : goal.returns-then-h-eq0
returns-then-h-eq0 c = rest_none _ _ c.if-h-eq0.true

pub returns : goal.returns
returns c = rest_some _ _ _ _ c.if-h-eq0.false c.hold.ensures.0 c.hold.ensures.1

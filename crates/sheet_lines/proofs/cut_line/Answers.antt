use Rattle.sheet_lines.specs.Cut.{cut_at_end, cut_at_none}
use Rattle.sheet_lines.proofs.cut_line.Goals as goal

pub returns-in-Some : goal.returns-in-Some
returns-in-Some c = cut_at_end _ _ _ _ _ _ _ c.line_end-end.ensures c.in-Some.is c.part.ensures c.with_rest.ensures

pub returns-in-None : goal.returns-in-None
returns-in-None c = cut_at_none _ _ _ _ _ _ _ c.line_end-end.ensures c.in-None.is c.part-in-None.ensures c.hold.ensures

use Rattle.tell_english.proofs.LineLaws.{line_said}
use Rattle.tell_english.proofs.explain.Goals as goal

pub returns : goal.returns
returns c = line_said _ _ _ _ _ _ c.put_explained-k.ensures c.end_line.ensures.0 c.end_line.ensures.1

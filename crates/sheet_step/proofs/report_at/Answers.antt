use Rattle.sheet_step.proofs.Closed.{report_says}
use Rattle.sheet_step.proofs.report_at.Goals as goal

pub returns : goal.returns
returns c = report_says _ _ _ _ _ _ _ _ c.requires c.report-done.ensures.value c.report-done.ensures.lent_room c.unwrap_or.ensures

use Rattle.sheet_sites.proofs.Leaving.{lines_none, lines_body}
use Rattle.sheet_sites.proofs.Sited.{no_site}
use Rattle.sheet_sites.proofs.Small.{empty_is, filled_is}
use Rattle.sheet_sites.proofs.site_line.Goals as goal

pub returns-then-is_empty-clause-by_index : goal.returns-then-is_empty-clause-by_index
returns-then-is_empty-clause-by_index c = lines_none _ _ _ _ _ _ _ (empty_is _ _ c.is_empty.ensures c.if-is_empty.true) c.stop.ensures

pub returns-then-is_empty-clause-acts : goal.returns-then-is_empty-clause-acts
returns-then-is_empty-clause-acts c = λ h. no_site c.args.r c.args.bytes.now _ _ _ _ _ (empty_is _ _ c.is_empty.ensures c.if-is_empty.true)

pub returns-clause-by_index : goal.returns-clause-by_index
returns-clause-by_index c = lines_body _ _ _ _ _ _ _ (filled_is _ _ c.is_empty.ensures c.if-is_empty.false) _ c.site_frame.ensures.by_index

pub returns-clause-acts : goal.returns-clause-acts
returns-clause-acts c = c.site_frame.ensures.acts

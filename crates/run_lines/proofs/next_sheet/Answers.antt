use Rattle.run_lines.proofs.TakenLaws.{bordered_here}
use Rattle.run_lines.proofs.next_sheet.Goals as goal

pub returns-clause-bordered : goal.returns-clause-bordered
returns-clause-bordered g c = bordered_here _ _ _ _ _ _ _ _ _ _ _ _ _ _ c.nothing.ensures.0 c.in_ok-n.ensures.closed c.put_text-filled.ensures c.fresh.ensures.0 c.fresh.ensures.1

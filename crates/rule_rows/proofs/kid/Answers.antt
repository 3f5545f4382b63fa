-- `rule_rows::kid` meets its contract. Assumes nothing.
use Rattle.rule_rows.proofs.Reading.{kid_at}
use Rattle.rule_rows.proofs.kid.Goals as goal

pub returns : goal.returns
returns c = kid_at _ _ _ _ _ _ c.from.ensures c.from-2.ensures c.at.ensures

-- `rule_classes::equate` meets its contract. Assumes nothing.
use Rattle.rule_classes.proofs.Joining.{equated}
use Rattle.rule_classes.proofs.equate.Goals as goal

pub returns : goal.returns
returns c = equated _ _ _ _ _ c.requires.well c.requires.x_lt_max_sites.0 c.requires.x_lt_max_sites.1 _ _ _ _ _ c.merge_in.ensures c.unwrap_or.ensures

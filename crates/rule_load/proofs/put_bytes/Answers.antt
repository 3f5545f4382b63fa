-- `rule_load::put_bytes` meets its contract. Assumes nothing.
use Rattle.rule_load.proofs.Placing.{put_written}
use Rattle.rule_load.proofs.put_bytes.Goals as goal

pub returns : goal.returns
returns c = put_written _ _ _ _ c.requires c.copy_from_slice.ensures.after

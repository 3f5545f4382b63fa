-- `rule_check::wipe` meets its contract. Assumes nothing.
use Rattle.rule_check.proofs.Searching.{wiped_none}
use Rattle.rule_check.proofs.wipe.Goals as goal

pub loop-z-init : goal.loop-z-init
loop-z-init c = wiped_none _ _ _ c.requires

-- `rule_load::at_large` meets its contract. Assumes nothing.
use native.Mathlib.Omega.{arith}
use Rattle.rule_load.proofs.Keeping.{lent_all, never_scant, tried_done, tried_short, surely}
use Rattle.rule_load.proofs.at_large.Goals as goal

pub attempt-requires-clause-lent : goal.attempt-requires-clause-lent
attempt-requires-clause-lent c = (lent_all, c.requires)

pub attempt-requires-clause-sites_in_bounds : goal.attempt-requires-clause-sites_in_bounds
attempt-requires-clause-sites_in_bounds c = (omega arith, omega arith)

pub unwrap-requires : goal.unwrap-requires
unwrap-requires c = surely _ (λ e. never_scant (tried_short _ _ _ _ _ _ _ _ _ _ c.attempt.ensures e).0)

pub returns : goal.returns
returns c = tried_done _ _ _ _ _ _ _ _ _ _ c.attempt.ensures _ c.unwrap.ensures

-- `rule_load::load_handed` meets its contract. Assumes nothing.
use native.Mathlib.Omega.{arith}
use Rattle.item_words.specs.Items.{rule_in}
use Rattle.item_words.proofs.Laws.{rule_written}
use Rattle.std.proofs.lemmas.Result.{err_from_is_err_and}
use Rattle.rule_load.proofs.Keeping.{first_refuses, admits_so, lent_few, tried_done, still_admitted, then_large}
use Rattle.rule_load.proofs.load_handed.Goals as goal

pub returns-in_err-admit : goal.returns-in_err-admit
returns-in_err-admit c = let p = err_from_is_err_and c.from_residual.result c.from_residual.ensures.1 in let whole = first_refuses c.args.m.now c.args.n c.args.words.now c.args.kept (rule_in c.args.items.now c.args.place c.args.priority c.args.count) _ (rule_written c.args.items.now c.args.place c.args.priority c.args.count) _ _ c.admit.ensures c.in_err-admit.was in record { value = rw (p.1, p.2) whole.0; m_after = whole.1.0; lent_words = whole.1.1 }

pub attempt-a-requires-clause-lent : goal.attempt-a-requires-clause-lent
attempt-a-requires-clause-lent c = (lent_few, (admits_so _ _ _ _ _ _ c.admit.ensures c.in_ok-admit.was))

pub attempt-a-requires-clause-sites_in_bounds : goal.attempt-a-requires-clause-sites_in_bounds
attempt-a-requires-clause-sites_in_bounds c = (omega arith, omega arith)

pub at_large-requires : goal.at_large-requires
at_large-requires c = still_admitted _ _ _ _ _ _ _ _ _ _ c.attempt-a.ensures _ _ c.in-None.is (admits_so _ _ _ _ _ _ c.admit.ensures c.in_ok-admit.was)

pub returns-in-None : goal.returns-in-None
returns-in-None c = let whole = then_large _ _ _ _ _ _ _ _ _ _ c.attempt-a.ensures c.in-None.is _ _ _ c.at_large.ensures in record { value = whole.0; m_after = whole.1.0; lent_words = whole.1.1 }

pub returns-in-Some : goal.returns-in-Some
returns-in-Some c = let whole = tried_done _ _ _ _ _ _ _ _ _ _ c.attempt-a.ensures _ c.in-Some.is in record { value = whole.0; m_after = whole.1.0; lent_words = whole.1.1 }

-- `rule_check::judge` meets its contract. Assumes nothing.
use Rattle.rule_rows.specs.Holding.{held}
use Rattle.rule_check.proofs.Judging.{judge_refused, judge_ready, inside_sites, judge_named, judge_walks}
use borrow.Author.Rules.{rules}
use mathlib.Core.Path.{◌≡◌}
use Rattle.std.specs.declared.result.Result.TheVariants.{Err}
use Rattle.rule_check.proofs.judge.Goals as goal

pub walks-requires-clause-ready : goal.walks-requires-clause-ready
walks-requires-clause-ready c = judge_ready c.args.eqs.now (held c.args.sites.now c.args.rows.now c.args.words.now c.args.kids.now) _ _ _ c.group.ensures c.in_ok-group.was

pub walks-requires-clause-inside : goal.walks-requires-clause-inside
walks-requires-clause-inside c = inside_sites c.args.eqs.now (held c.args.sites.now c.args.rows.now c.args.words.now c.args.kids.now) _ _ _ c.group.ensures c.in_ok-group.was

pub walks-requires-clause-all_named : goal.walks-requires-clause-all_named
walks-requires-clause-all_named c = judge_named c.args.eqs.now (held c.args.sites.now c.args.rows.now c.args.words.now c.args.kids.now) _ _ _ c.group.ensures c.in_ok-group.was

pub returns-in_err-group : goal.returns-in_err-group
returns-in_err-group c = let e : c.from_residual.result ≡ Err c.in_err-group.field-0.0 = search rules in rw e (judge_refused c.args.eqs.now (held c.args.sites.now c.args.rows.now c.args.words.now c.args.kids.now) _ _ _ c.group.ensures _ c.in_err-group.was)

pub returns : goal.returns
returns c = judge_walks c.args.eqs.now (held c.args.sites.now c.args.rows.now c.args.words.now c.args.kids.now) _ _ _ c.group.ensures c.in_ok-group.was _ _ c.walks.result c.holder_count-m.ensures c.from.ensures c.walks.ensures

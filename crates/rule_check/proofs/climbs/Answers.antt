-- `rule_check::climbs` meets its contract. Assumes nothing.
use mathlib.Core.Path.{sym}
use Rattle.std.specs.declared.result.Result.TheVariants.{Ok}
use Rattle.rule_rows.specs.Holding.{held}
use Rattle.rule_check.proofs.Judging.{no_stray_at}
use Rattle.rule_check.proofs.climbs.Goals as goal

pub returns-then-all_sites : goal.returns-then-all_sites
returns-then-all_sites c = λ e. sym (no_stray_at c.args.eqs.now (held c.args.sites.now c.args.rows.now c.args.words.now c.args.kids.now) (Ok tt) (c.all_sites.ensures c.if-all_sites.true) (sym (c.ascends.ensures e)))

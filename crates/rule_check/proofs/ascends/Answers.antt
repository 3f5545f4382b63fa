-- `rule_check::ascends` meets its contract. Assumes nothing.
use native.Mathlib.Omega.{arith}
use mathlib.Core.Path.{sym}
use Rattle.rule_rows.specs.Holding.{held}
use Rattle.rule_check.proofs.Climbing.{climbs_none, climbs_step, climbs_done}
use Rattle.paper.proofs.Lists.{no_way}
use Rattle.rule_check.proofs.ascends.Goals as goal

pub returns-then-eqs-ge2 : goal.returns-then-eqs-ge2
returns-then-eqs-ge2 c = λ e. no_way (sym e)

pub loop-h-init : goal.loop-h-init
loop-h-init c = climbs_none _ _

pub returns-then-from-next : goal.returns-then-from-next
returns-then-from-next c = λ e. no_way (sym e)

pub returns-then-not-higher : goal.returns-then-not-higher
returns-then-not-higher c = λ e. no_way (sym e)

pub overflow_add-next : goal.overflow_add-next
overflow_add-next c = omega arith

pub loop-h-preserved : goal.loop-h-preserved
loop-h-preserved c = climbs_step c.args.sites.now c.args.rows.now c.args.words.now c.args.kids.now _ _ _ _ _ _ _ _ c.loop-h.invariant c.loop-h-test.true c.at-s.ensures c.from.ensures c.if-from-next.false c.at-i.ensures c.higher.ensures c.if-not-higher.false c.from-next.ensures

pub returns : goal.returns
returns c = λ _. climbs_done c.args.eqs.now (held c.args.sites.now c.args.rows.now c.args.words.now c.args.kids.now) _ _ c.if-eqs-ge2.false c.loop-h.invariant c.loop-h-test.false

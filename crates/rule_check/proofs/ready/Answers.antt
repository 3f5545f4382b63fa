-- `rule_check::ready` meets its contract. Assumes nothing.
use native.Mathlib.Omega.{arith}
use mathlib.Core.Path.{sym}
use borrow.Author.Count.{below_more}
use Rattle.rule_check.proofs.Settling.{kid_root, ready_step}
use Rattle.paper.proofs.Lists.{no_way}
use Rattle.rule_check.proofs.ready.Goals as goal

pub loop-f-init : goal.loop-f-init
loop-f-init c = (omega arith, λ g h. absurd (omega arith))

pub over-requires : goal.over-requires
over-requires c = kid_root _ _ c.requires _ _ _ _ _ c.kid-k.ensures c.rep_in.ensures c.from-z.ensures

pub returns-then-not-over : goal.returns-then-not-over
returns-then-not-over c = λ e. no_way (sym e)

pub loop-f-preserved : goal.loop-f-preserved
loop-f-preserved c = (omega arith, below_more _ _ c.loop-f.invariant.1 (ready_step c.args.boss.now c.args.turned.now _ _ _ _ _ _ _ _ c.kid-k.ensures c.rep_in.ensures c.from-z.ensures c.over.ensures c.if-not-over.false))

pub returns : goal.returns
returns c = λ _ g h. let e = c.fields-m.ensures in let t = c.loop-f-test.false in c.loop-f.invariant.1 g (omega arith)

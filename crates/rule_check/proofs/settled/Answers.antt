-- `rule_check::settled` meets its contract. Assumes nothing.
use native.Mathlib.Omega.{arith}
use mathlib.Core.Path.{◌≡◌, sym}
use Rattle.rule_rows.specs.Holding.{chart}
use Rattle.rule_check.proofs.Settling.{safe_none, settled_yes}
use Rattle.paper.proofs.Lists.{no_way}
use Rattle.rule_check.proofs.settled.Goals as goal

pub loop-left-init : goal.loop-left-init
loop-left-init c = (safe_none (chart c.args.rows.now c.args.words.now c.args.kids.now) c.args.p.now c.args.boss.now c.args.sites.now c.args.m, λ e g h. absurd (omega arith))

pub turns-still-requires-clause-ready : goal.turns-still-requires-clause-ready
turns-still-requires-clause-ready c = c.requires.ready

pub turns-still-requires-clause-inside : goal.turns-still-requires-clause-inside
turns-still-requires-clause-inside c = c.requires.inside

pub turns-still-requires-clause-safe : goal.turns-still-requires-clause-safe
turns-still-requires-clause-safe c = c.loop-left.invariant.0

pub returns-then-left-still : goal.returns-then-left-still
returns-then-left-still c = λ e. no_way (sym e)

pub loop-left-smaller : goal.loop-left-smaller
loop-left-smaller c = let t = c.if-left-still.false in omega arith

pub loop-left-preserved : goal.loop-left-preserved
loop-left-preserved c = (c.turns-still.ensures.safe_2, c.turns-still.ensures.fact)

pub returns : goal.returns
returns c = let e : c.loop-left.left ≡ 0 = let t = c.loop-left-test.false in omega arith in
    λ _. settled_yes (chart c.args.rows.now c.args.words.now c.args.kids.now) c.args.p.now c.args.boss.now c.args.sites.now c.args.m _ c.requires.ready.reps c.requires.inside c.loop-left.invariant.0 (c.loop-left.invariant.1 e)

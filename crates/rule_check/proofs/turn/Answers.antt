-- `rule_check::turn` meets its contract. Assumes nothing.
use Rattle.rule_check.proofs.Settling.{rep_inside, turn_was, turn_not, turn_now}
use Rattle.rule_check.proofs.turn.Goals as goal

pub bounds-turned-z : goal.bounds-turned-z
bounds-turned-z c = rep_inside _ _ c.requires.ready _ _ _ c.requires.s_lt_max_sites c.rep_in.ensures c.from-z.ensures

pub returns-then-turned-z-ne0 : goal.returns-then-turned-z-ne0
returns-then-turned-z-ne0 c = let whole = turn_was c.args.rows.now c.args.words.now c.args.kids.now c.args.p.now c.args.boss.now c.args.turned.now c.requires.safe _ _ _ (rep_inside _ _ c.requires.ready _ _ _ c.requires.s_lt_max_sites c.rep_in.ensures c.from-z.ensures) c.rep_in.ensures c.from-z.ensures c.if-turned-z-ne0.true in record { safe_2 = whole.0; keeps = whole.1.0; fact = whole.1.1 }

pub bounds-boss-z : goal.bounds-boss-z
bounds-boss-z c = rep_inside _ _ c.requires.ready _ _ _ c.requires.s_lt_max_sites c.rep_in.ensures c.from-z.ensures

pub bounds-turned-z-then-ready : goal.bounds-turned-z-then-ready
bounds-turned-z-then-ready c = rep_inside _ _ c.requires.ready _ _ _ c.requires.s_lt_max_sites c.rep_in.ensures c.from-z.ensures

pub returns-then-ready : goal.returns-then-ready
returns-then-ready c = let whole = turn_now c.args.rows.now c.args.words.now c.args.kids.now c.args.p.now c.args.boss.now c.args.turned.now c.requires.safe _ _ _ (rep_inside _ _ c.requires.ready _ _ _ c.requires.s_lt_max_sites c.rep_in.ensures c.from-z.ensures) c.rep_in.ensures c.from-z.ensures _ _ c.from.ensures c.at-i.ensures (c.ready.ensures c.if-ready.true) in record { safe_2 = whole.0; keeps = whole.1.0; fact = whole.1.1 }

pub returns : goal.returns
returns c = let whole = turn_not c.args.rows.now c.args.words.now c.args.kids.now c.args.p.now c.args.boss.now c.args.turned.now c.requires.safe _ _ _ (rep_inside _ _ c.requires.ready _ _ _ c.requires.s_lt_max_sites c.rep_in.ensures c.from-z.ensures) c.rep_in.ensures c.from-z.ensures in record { safe_2 = whole.0; keeps = whole.1.0; fact = whole.1.1 }

-- `rule_check::turns` meets its contract. Assumes nothing.
use native.Mathlib.Omega.{arith}
use mathlib.Core.Path.{◌≡◌, refl}
use mathlib.Core.Logic.{inl, inr}
use Prim.Native.Nat.{◌+◌, ◌-◌}
use Rattle.rule_rows.specs.Holding.{chart}
use Rattle.rule_check.proofs.Settling.{turns_none, turns_step, turns_done}
use Rattle.rule_check.proofs.turns.Goals as goal

pub loop-h-init : goal.loop-h-init
loop-h-init c = turns_none (chart c.args.rows.now c.args.words.now c.args.kids.now) c.args.p.now c.args.boss.now c.args.sites.now c.args.m _ c.requires.safe

pub turn-requires-clause-ready : goal.turn-requires-clause-ready
turn-requires-clause-ready c = c.requires.ready

pub turn-requires-clause-s_lt_max_sites : goal.turn-requires-clause-s_lt_max_sites
turn-requires-clause-s_lt_max_sites c = rw c.at-s.ensures (c.requires.inside _)

pub turn-requires-clause-safe : goal.turn-requires-clause-safe
turn-requires-clause-safe c = c.loop-h.invariant.safe

pub overflow_add-left : goal.overflow_add-left
overflow_add-left c = let f = c.loop-h.invariant.few in let t = c.loop-h-test.true in omega arith

pub loop-h-preserved-then-not-turn : goal.loop-h-preserved-then-not-turn
loop-h-preserved-then-not-turn c = let e : (c.loop-h.h - 1) + 1 ≡ c.loop-h.h = let t = c.loop-h-test.true in omega arith in
    turns_step (chart c.args.rows.now c.args.words.now c.args.kids.now) c.args.p.now c.args.boss.now c.args.sites.now c.args.m _ _ _ _ _ _ _ _ e c.at-s.ensures c.loop-h.invariant (c.turn.ensures.safe_2, (c.turn.ensures.keeps, c.turn.ensures.fact)) (inl (c.if-not-turn.true, refl))

pub loop-h-preserved : goal.loop-h-preserved
loop-h-preserved c = let e : (c.loop-h.h - 1) + 1 ≡ c.loop-h.h = let t = c.loop-h-test.true in omega arith in
    turns_step (chart c.args.rows.now c.args.words.now c.args.kids.now) c.args.p.now c.args.boss.now c.args.sites.now c.args.m _ _ _ _ _ _ _ _ e c.at-s.ensures c.loop-h.invariant (c.turn.ensures.safe_2, (c.turn.ensures.keeps, c.turn.ensures.fact)) (inr (c.if-not-turn.false, refl))

pub returns : goal.returns
returns c = let whole = let e : c.loop-h.h ≡ 0 = let t = c.loop-h-test.false in omega arith in
    turns_done (chart c.args.rows.now c.args.words.now c.args.kids.now) c.args.p.now c.args.boss.now c.args.sites.now c.args.m _ _ _ e c.loop-h.invariant in record { safe_2 = whole.0; fact = whole.1 }

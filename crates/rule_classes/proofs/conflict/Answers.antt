-- `rule_classes::conflict` meets its contract. Assumes nothing.
use native.Mathlib.Omega.{arith}
use mathlib.Core.Path.{◌≡◌}
use Rattle.rule_rows.specs.Holding.{bare}
use Rattle.rule_classes.proofs.Seating.{seated_none, clash_at, clash_none}
use Rattle.rule_classes.proofs.conflict.Goals as goal

pub loop-h-init : goal.loop-h-init
loop-h-init c = (omega arith, seated_none _ _ _ c.requires.boss_value)

pub seat-requires-clause-reps : goal.seat-requires-clause-reps
seat-requires-clause-reps c = c.requires.reps

pub seat-requires-clause-h_lt_max_sites : goal.seat-requires-clause-h_lt_max_sites
seat-requires-clause-h_lt_max_sites c = (omega (arith, c.requires.m_le_max_sites.0, c.loop-h-test.true), c.requires.m_le_max_sites.1)

pub seat-requires-clause-seated : goal.seat-requires-clause-seated
seat-requires-clause-seated c = c.loop-h.invariant.1

pub returns-in-Some : goal.returns-in-Some
returns-in-Some c = let whole = clash_at (bare c.args.sites.now c.args.rows.now c.args.words.now) _ _ _ _ _ _ _ _ _ c.loop-h.invariant.1 c.loop-h-test.true (c.seat.ensures.unlike _ c.in-Some.is) c.from.ensures c.at-s.ensures c.from-in-Some.ensures c.at-t.ensures _ in record { clash_is = whole.0; seated = whole.1 }

pub loop-h-preserved : goal.loop-h-preserved
loop-h-preserved c = (omega arith, c.seat.ensures.fact c.in_default.is)

pub returns : goal.returns
returns c = let whole = let e : c.loop-h.h ≡ c.args.m = let h = c.loop-h.invariant.0 in let t = c.loop-h-test.false in omega arith in
    clash_none (bare c.args.sites.now c.args.rows.now c.args.words.now) _ _ _ _ e c.loop-h.invariant.1 in record { clash_is = whole.0; seated = whole.1 }

-- `rule_load::hold` meets its contract. Assumes nothing.
use mathlib.Core.Path.{refl, ap, ◌∙◌}
use Prim.Native.Nat.{ℕ}
use native.Mathlib.Omega.{arith}
use lib.ListN.{get_or}
use Rattle.rule_load.proofs.Holding.{rule_long, hold_none, hold_more, hold_end}
use Rattle.rule_load.proofs.hold.Goals as goal

pub loop-k-init : goal.loop-k-init
loop-k-init c = (refl, hold_none c.args.rule _)

pub bounds-rule-from : goal.bounds-rule-from
bounds-rule-from c = let a = c.min-k-end.ensures in let b = c.loop-k-test.true in let d = c.from.ensures in omega arith

pub loop-k-preserved : goal.loop-k-preserved
loop-k-preserved c =
    let a = rule_long c.args.rule _ c.well_formed.0 in
    let b = c.loop-k-test.true in
    let d = c.loop-k.invariant.0 in
    let e = c.min-k-end.ensures in
    let f = c.requires in
    (c.out-1.given ∙ c.loop-k.invariant.0, hold_more c.args.rule _ _ _ _ _ c.loop-k.invariant.1 (omega arith) (omega arith) (ap (λ (j : ℕ). (get_or c.args.rule.entries j _).item) c.from.ensures) c.hold_item.ensures.ranged c.hold_item.ensures.words_after)

pub shape_of-out : goal.shape_of-out
shape_of-out c = c.loop-k.invariant.0

pub returns : goal.returns
returns c = hold_end c.args.rule _ _ c.loop-k.invariant.1 (rule_long c.args.rule _ c.well_formed.0) (let a = c.loop-k-test.false in let e = c.min-k-end.ensures in omega arith)

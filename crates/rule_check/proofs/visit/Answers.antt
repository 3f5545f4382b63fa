-- `rule_check::visit` meets its contract. Assumes nothing.
use native.Mathlib.Omega.{arith}
use mathlib.Core.Path.{◌≡◌, refl, ap, subst}
use Prim.Native.Nat.{ℕ}
use lib.ListN.{get_or, set}
use Rattle.rule_check.specs.Search.{old, new}
use Rattle.rule_check.proofs.visit.Goals as goal

pub returns-then-seen-i-ne0 : goal.returns-then-seen-i-ne0
returns-then-seen-i-ne0 c = old (λ e. c.if-seen-i-ne0.true (rw c.from-i.ensures e)) refl refl refl

pub offset_bounds-queue-tail : goal.offset_bounds-queue-tail
offset_bounds-queue-tail c = let h = c.requires.1 (subst (λ (i : ℕ). get_or c.args.seen.now i 0 ≡ 0) c.from-i.ensures c.if-seen-i-ne0.false) in omega arith

pub bounds-queue-tail : goal.bounds-queue-tail
bounds-queue-tail c = let h = c.requires.1 (subst (λ (i : ℕ). get_or c.args.seen.now i 0 ≡ 0) c.from-i.ensures c.if-seen-i-ne0.false) in omega arith

pub overflow_add-result : goal.overflow_add-result
overflow_add-result c = let h = c.requires.1 (subst (λ (i : ℕ). get_or c.args.seen.now i 0 ≡ 0) c.from-i.ensures c.if-seen-i-ne0.false) in omega arith

pub returns : goal.returns
returns c = let w = c.from-i.ensures in
    new (rw w at c.if-seen-i-ne0.false) (ap (λ (i : ℕ). set c.args.seen.now i 1) w) refl refl

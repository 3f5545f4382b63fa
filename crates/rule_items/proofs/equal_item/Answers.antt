-- `rule_items::equal_item` meets its contract. Assumes nothing.
use Rattle.rule_items.proofs.Stepping.{equal_first, equal_second, equal_both}
use lib.ListN.{length-set}
use native.Mathlib.Omega.{arith}
use mathlib.Core.Path.{refl}
use Rattle.rule_items.proofs.equal_item.Goals as goal

pub returns-then-total-from : goal.returns-then-total-from
returns-then-total-from c = λ m tail sites rows words kids l W. equal_first _ _ _ _ _ _ _ _ _ _ _ _ _ W _ _ _ (let x = c.if-total-from.true in let a = c.from.ensures in let b = c.from-2.ensures in let d = c.from-3.ensures in omega arith) c.refuse.ensures _

pub returns-then-total-from-2 : goal.returns-then-total-from-2
returns-then-total-from-2 c = λ m tail sites rows words kids l W. equal_second _ _ _ _ _ _ _ _ _ _ _ _ _ W _ _ _ (let x = c.if-total-from.false in let a = c.from.ensures in let b = c.from-2.ensures in let d = c.from-3.ensures in omega arith) (let x = c.if-total-from-2.true in let a = c.from.ensures in let b = c.from-2.ensures in let d = c.from-4.ensures in omega arith) c.refuse-then-total-from-2.ensures _

pub bounds-eqs-equal-2 : goal.bounds-eqs-equal-2
bounds-eqs-equal-2 c = simp length-set (omega arith)

pub returns : goal.returns
returns c = λ m tail sites rows words kids l W. equal_both _ _ _ _ _ _ _ _ _ _ _ _ _ W _ _ _ (let x = c.if-total-from.false in let a = c.from.ensures in let b = c.from-2.ensures in let d = c.from-3.ensures in omega arith) (let x = c.if-total-from-2.false in let a = c.from.ensures in let b = c.from-2.ensures in let d = c.from-4.ensures in omega arith) c.requires refl refl refl refl

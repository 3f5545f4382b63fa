-- `rule_laid::bad_row` meets its contract. Assumes nothing.
use mathlib.Core.Path.{refl}
use native.Mathlib.Omega.{arith}
use Rattle.rule_laid.proofs.LaidLaws.{fault, faults_unless, good_few, good_head, good_second, good_third, good_row}
use Rattle.rule_laid.proofs.bad_row.Goals.{then-w-a-via-then-w-a, then-w-a-via-else-w-a+then-w-b}
use Rattle.rule_laid.proofs.bad_row.Goals as goal

pub returns-then-arity-gt-FIELDS : goal.returns-then-arity-gt-FIELDS
returns-then-arity-gt-FIELDS c =
    fault refl (good_few _ _ _ _ _ _ _ c.from-i.ensures c.word-a.ensures c.word-b.ensures c.word-d.ensures c.unpack-c.ensures (let a = c.arity.ensures.0 in let b = c.if-arity-gt-FIELDS.true in omega arith))

pub returns-then-w-a : goal.returns-then-w-a
returns-then-w-a c =
    elim c.then-w-a.branch [ then-w-a-via-then-w-a w ↦ fault refl (good_head _ _ _ _ _ _ _ c.from-i.ensures c.word-a.ensures c.word-b.ensures c.word-d.ensures c.unpack-c.ensures _ c.pack-w.ensures.head_value w.if-w-a.true) | then-w-a-via-else-w-a+then-w-b w ↦ fault refl (good_second _ _ _ _ _ _ _ c.from-i.ensures c.word-a.ensures c.word-b.ensures c.word-d.ensures c.unpack-c.ensures _ c.pack-w.ensures.second_value w.if-w-b.true) ]

pub returns : goal.returns
returns c =
    faults_unless _ _ _ (good_third _ _ _ _ _ _ _ c.from-i.ensures c.word-a.ensures c.word-b.ensures c.word-d.ensures c.unpack-c.ensures _ c.pack-w.ensures.third_value)
    (good_row _ _ _ _ _ _ _ c.from-i.ensures c.word-a.ensures c.word-b.ensures c.word-d.ensures c.unpack-c.ensures c.if-i-ge-ITEMS.false (let a = c.arity.ensures.0 in let b = c.if-arity-gt-FIELDS.false in omega arith) _ _ _ c.pack-w.ensures.head_value c.pack-w.ensures.second_value c.pack-w.ensures.third_value c.if-w-a.false c.if-w-b.false)

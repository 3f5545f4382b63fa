-- `rule_items::same_row` meets its contract. Assumes nothing.
use Rattle.rule_items.proofs.Rows.{row_first, row_second, row_third}
use Rattle.rule_items.proofs.Ranges.{in_range}
use native.Mathlib.Omega.{arith}
use Rattle.rule_items.proofs.same_row.Goals.{then-p-word-via-then-p-word, then-p-word-via-else-p-word+then-p-word-2}
use Rattle.rule_items.proofs.same_row.Goals as goal

pub returns-then-p-word : goal.returns-then-p-word
returns-then-p-word c =
    elim c.then-p-word.branch [ then-p-word-via-then-p-word w ↦ (row_first _ _ _ _ (in_range c.args.c _ c.well_formed.1.1.0) (let e = c.from-k.ensures in omega arith) _ _ c.pack-p.ensures.head_value c.word.ensures w.if-p-word.true) | then-p-word-via-else-p-word+then-p-word-2 w ↦ (row_second _ _ _ _ (in_range c.args.c _ c.well_formed.1.1.0) (let e = c.from-k.ensures in omega arith) _ _ c.pack-p.ensures.second_value w.word-else-p-word.ensures w.if-p-word-2.true) ]

pub returns : goal.returns
returns c = row_third _ _ _ _ (in_range c.args.c _ c.well_formed.1.1.0) (let e = c.from-k.ensures in omega arith) _ _ _ _ _ _ c.pack-p.ensures.head_value c.pack-p.ensures.second_value c.pack-p.ensures.third_value c.word.ensures c.word-else-p-word.ensures c.word-2.ensures c.if-p-word.false c.if-p-word-2.false

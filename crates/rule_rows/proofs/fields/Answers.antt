-- `rule_rows::fields` meets its contract. Assumes nothing.
use Rattle.rule_rows.proofs.Reading.{fields_int, fields_third, fields_second, fields_none, fields_one}
use Rattle.rule_rows.proofs.fields.Goals as goal

pub returns-then-a-eq3 : goal.returns-then-a-eq3
returns-then-a-eq3 c = fields_int _ _ _ c.from-k.ensures _ _ _ c.word-a.ensures c.word-b.ensures c.word-c.ensures c.if-a-eq3.true

pub returns-then-c-ne0 : goal.returns-then-c-ne0
returns-then-c-ne0 c = fields_third _ _ _ c.from-k.ensures _ _ _ c.word-a.ensures c.word-b.ensures c.word-c.ensures c.if-a-eq3.false c.if-c-ne0.true _ c.few.ensures

pub returns-then-a-eq1 : goal.returns-then-a-eq1
returns-then-a-eq1 c = fields_second _ _ _ c.from-k.ensures _ _ _ c.word-a.ensures c.word-b.ensures c.word-c.ensures c.if-c-ne0.false c.if-a-eq1.true _ c.few-then-a-eq1.ensures

pub returns-then-a-ne327680 : goal.returns-then-a-ne327680
returns-then-a-ne327680 c = fields_none _ _ _ c.from-k.ensures _ _ _ c.word-a.ensures c.word-b.ensures c.word-c.ensures c.if-c-ne0.false c.if-a-eq1.false (λ e _. c.if-a-ne327680.true e)

pub returns-then-b-ne0 : goal.returns-then-b-ne0
returns-then-b-ne0 c = fields_none _ _ _ c.from-k.ensures _ _ _ c.word-a.ensures c.word-b.ensures c.word-c.ensures c.if-c-ne0.false c.if-a-eq1.false (λ _ e. c.if-b-ne0.true e)

pub returns : goal.returns
returns c = fields_one _ _ _ c.from-k.ensures _ _ _ c.word-a.ensures c.word-b.ensures c.word-c.ensures c.if-c-ne0.false c.if-b-ne0.false c.if-a-ne327680.false

-- `rule_rows::alike` meets its contract. Assumes nothing.
use mathlib.Core.Path.{sym, ◌∙◌}
use Rattle.rule_rows.proofs.Reading.{differ_1, differ_2, last_3}
use Rattle.rule_rows.proofs.alike.Goals as goal

pub returns-then-word : goal.returns-then-word
returns-then-word c = differ_1 _ _ _ _ _ c.from-a.ensures c.from-b.ensures (λ e. c.if-word.true (c.word.ensures ∙ (e ∙ sym c.word-2.ensures)))

pub returns-then-word-2 : goal.returns-then-word-2
returns-then-word-2 c = differ_2 _ _ _ _ _ c.from-a.ensures c.from-b.ensures (λ e. c.if-word-2.true (c.word-3.ensures ∙ (e ∙ sym c.word-4.ensures)))

pub returns : goal.returns
returns c = rw (c.word-5.ensures, c.word-6.ensures) (last_3 _ _ _ _ _ c.from-a.ensures c.from-b.ensures (sym c.word.ensures ∙ (c.if-word.false ∙ c.word-2.ensures)) (sym c.word-3.ensures ∙ (c.if-word-2.false ∙ c.word-4.ensures)))

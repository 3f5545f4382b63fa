-- `lintelbox::rules::lintel_may_overlap` meets its contract. Assumes nothing.
use mathlib.Core.Path.{ap, refl, ◌∙◌}
use Rattle.box_answers.specs.Border.{overlap_word}
use Rattle.box_answers.proofs.Crossing.{too_short, no_rule, rule_there, first_no, second_no, via, past, done_as}
use Rattle.lintelbox.proofs.rules.lintel_may_overlap.Goals as goal

pub returns-then-words-a : goal.returns-then-words-a
returns-then-words-a c = too_short _ _ _ (first_no _ _ (no_rule _ _ _ c.start-a.ensures.value c.if-words-a.true))

pub returns-then-words-b : goal.returns-then-words-b
returns-then-words-b c = too_short _ _ _ (second_no _ _ (rule_there _ _ _ c.start-a.ensures.value c.if-words-a.false) (first_no _ _ (no_rule _ _ _ c.start-b.ensures.value c.if-words-b.true)))

pub returns : goal.returns
returns c = past _ _ _ _ _ (rule_there _ _ _ c.start-a.ensures.value c.if-words-a.false) (past _ _ _ _ _ (rule_there _ _ _ c.start-b.ensures.value c.if-words-b.false) (via _ _ _ _ _ c.say.ensures (done_as _ _ _ _ _ c.done.ensures (c.overlap_word.ensures ∙ ap overlap_word c.may_overlap-o.ensures) refl)))

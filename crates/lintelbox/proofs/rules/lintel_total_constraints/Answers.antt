-- `lintelbox::rules::lintel_total_constraints` meets its contract. Assumes nothing.
use mathlib.Core.Path.{refl}
use Rattle.box_answers.proofs.Crossing.{too_short, no_rule, rule_there, first_no, via, past, done_as}
use Rattle.lintelbox.proofs.rules.lintel_total_constraints.Goals as goal

pub returns-then-words-a : goal.returns-then-words-a
returns-then-words-a c = too_short _ _ _ (first_no _ _ (no_rule _ _ _ c.start-a.ensures.value c.if-words-a.true))

pub returns : goal.returns
returns c = past _ _ _ _ _ (rule_there _ _ _ c.start-a.ensures.value c.if-words-a.false) (via _ _ _ _ _ c.say.ensures (done_as _ _ _ _ _ c.done.ensures c.total_constraints-n.ensures refl))

use mathlib.Core.Path.{◌∙◌}
-- `rule_hanging::hangs` meets its contract. Assumes nothing.
use Rattle.rule_hanging.proofs.Childless.{hangs_none, hangs_far, hangs_free, hangs_held}
use native.Mathlib.Omega.{arith}
use Rattle.rule_hanging.proofs.hangs.Goals as goal

pub returns-then-w-eq0 : goal.returns-then-w-eq0
returns-then-w-eq0 c = λ l X h. hangs_none _ _ _ _ _ _ _ l X _ _ h c.word_of-w.ensures c.if-w-eq0.true

pub returns-in_default : goal.returns-in_default
returns-in_default c = λ l X h. hangs_far _ _ _ _ _ _ _ l X _ _ h c.word_of-w.ensures c.if-w-eq0.false _ c.source_of.ensures (let n = c.in_default.ensures in omega arith)

pub returns-in_default-look : goal.returns-in_default-look
returns-in_default-look c = λ l X h. hangs_free _ _ _ _ _ _ _ l X _ _ h c.word_of-w.ensures c.if-w-eq0.false _ (c.in-Ok.ensures.1 ∙ c.source_of.ensures) _ c.look.ensures c.in_default-look.is

pub returns : goal.returns
returns c = λ l X h. hangs_held _ _ _ _ _ _ _ l X _ _ h c.word_of-w.ensures c.if-w-eq0.false _ (c.in-Ok.ensures.1 ∙ c.source_of.ensures) _ c.look.ensures _ _ _ _ _ _ _ c.in-Some.is (let e = c.from-k.ensures in omega arith) c.word.ensures c.word-2.ensures c.word-3.ensures c.unpack-c.ensures c.is_child.ensures

-- `lintelbox::loads::lintel_load` meets its contract. Assumes nothing.
use mathlib.Core.Path.{refl}
use Rattle.box_answers.proofs.Crossing.{too_short, stayed, went, less, enough, first_no, second_no, both_yes, via, past, load_said, load_sites, load_words, stray_said, stray_sites, stray_words, straight_said, straight_sites, straight_words}
use Rattle.lintelbox.proofs.loads.lintel_load.Goals as goal

pub returns-then-items-from-clause-result_after : goal.returns-then-items-from-clause-result_after
returns-then-items-from-clause-result_after c = too_short _ _ _ (first_no _ _ (less _ _ (rw c.from.ensures at c.if-items-from.true)))

pub returns-then-items-from-clause-slots_after : goal.returns-then-items-from-clause-slots_after
returns-then-items-from-clause-slots_after c = stayed _ _ _ (first_no _ _ (less _ _ (rw c.from.ensures at c.if-items-from.true)))

pub returns-then-items-from-clause-lent_words : goal.returns-then-items-from-clause-lent_words
returns-then-items-from-clause-lent_words c = stayed _ _ _ (first_no _ _ (less _ _ (rw c.from.ensures at c.if-items-from.true)))

pub returns-then-answer-lt-ANSWER-clause-result_after : goal.returns-then-answer-lt-ANSWER-clause-result_after
returns-then-answer-lt-ANSWER-clause-result_after c = too_short _ _ _ (second_no _ _ (enough _ _ (rw c.from.ensures at c.if-items-from.false)) (less _ _ c.if-answer-lt-ANSWER.true))

pub returns-then-answer-lt-ANSWER-clause-slots_after : goal.returns-then-answer-lt-ANSWER-clause-slots_after
returns-then-answer-lt-ANSWER-clause-slots_after c = stayed _ _ _ (second_no _ _ (enough _ _ (rw c.from.ensures at c.if-items-from.false)) (less _ _ c.if-answer-lt-ANSWER.true))

pub returns-then-answer-lt-ANSWER-clause-lent_words : goal.returns-then-answer-lt-ANSWER-clause-lent_words
returns-then-answer-lt-ANSWER-clause-lent_words c = stayed _ _ _ (second_no _ _ (enough _ _ (rw c.from.ensures at c.if-items-from.false)) (less _ _ c.if-answer-lt-ANSWER.true))

pub returns-then-first-many-clause-result_after : goal.returns-then-first-many-clause-result_after
returns-then-first-many-clause-result_after c = past _ _ _ _ _ (enough _ _ (rw c.from.ensures at c.if-items-from.false)) (via _ _ _ _ _ c.say.ensures (stray_said _ _ _ c.stray-first.ensures _ _ c.if-first-many.true (rw c.from-then-first-many.ensures at c.refused.ensures)))

pub returns-then-first-many-clause-slots_after : goal.returns-then-first-many-clause-slots_after
returns-then-first-many-clause-slots_after c = went _ _ _ _ (both_yes _ _ (enough _ _ (rw c.from.ensures at c.if-items-from.false)) (enough _ _ c.if-answer-lt-ANSWER.false)) (stray_sites _ _ _ c.stray-first.ensures _ _ _ c.if-first-many.true)

pub returns-then-first-many-clause-lent_words : goal.returns-then-first-many-clause-lent_words
returns-then-first-many-clause-lent_words c = went _ _ _ _ (both_yes _ _ (enough _ _ (rw c.from.ensures at c.if-items-from.false)) (enough _ _ c.if-answer-lt-ANSWER.false)) (stray_words _ _ _ c.stray-first.ensures _ _ _ c.if-first-many.true)

pub returns-clause-result_after : goal.returns-clause-result_after
returns-clause-result_after c = past _ _ _ _ _ (enough _ _ (rw c.from.ensures at c.if-items-from.false)) (via _ _ _ _ _ c.say-2.ensures (straight_said _ _ _ c.stray-first.ensures _ _ c.if-first-many.false (load_said c.args.slots.now c.args.count c.args.words.now c.args.kept _ _ _ _ refl c.load_handed-l.ensures.value c.loaded_said.ensures)))

pub returns-clause-slots_after : goal.returns-clause-slots_after
returns-clause-slots_after c = went _ _ _ _ (both_yes _ _ (enough _ _ (rw c.from.ensures at c.if-items-from.false)) (enough _ _ c.if-answer-lt-ANSWER.false)) (straight_sites _ _ _ c.stray-first.ensures _ _ _ _ c.if-first-many.false (load_sites c.args.slots.now c.args.count c.args.words.now c.args.kept _ _ _ refl c.load_handed-l.ensures.m_after))

pub returns-clause-lent_words : goal.returns-clause-lent_words
returns-clause-lent_words c = went _ _ _ _ (both_yes _ _ (enough _ _ (rw c.from.ensures at c.if-items-from.false)) (enough _ _ c.if-answer-lt-ANSWER.false)) (straight_words _ _ _ c.stray-first.ensures _ _ _ _ c.if-first-many.false (load_words c.args.slots.now c.args.count c.args.words.now c.args.kept _ _ _ refl c.load_handed-l.ensures.lent_words))

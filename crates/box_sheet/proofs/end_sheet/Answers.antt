-- `box_sheet::end_sheet` meets its contract. Assumes nothing.
use mathlib.Core.Path.{refl, sym, ◌∙◌}
use Rattle.box_answers.proofs.Crossing.{first_no, second_no, both_yes}
use Rattle.box_sheet.proofs.Leaving.{ending_short, ending_there}
use Rattle.box_sheet.proofs.Feeding.{writes_long, said_there, end_short, end_says}
use Rattle.box_sheet.proofs.end_sheet.Goals as goal

pub returns-then-not-keeps-clause-result_after : goal.returns-then-not-keeps-clause-result_after
returns-then-not-keeps-clause-result_after c = ending_short _ _ _ _ _ (first_no _ _ (sym c.keeps.ensures ∙ c.if-not-keeps.true))

pub returns-then-not-keeps-clause-fact : goal.returns-then-not-keeps-clause-fact
returns-then-not-keeps-clause-fact c = end_short _ _ _ _ _ _ (first_no _ _ (sym c.keeps.ensures ∙ c.if-not-keeps.true))

pub returns-then-not-writes-clause-result_after : goal.returns-then-not-writes-clause-result_after
returns-then-not-writes-clause-result_after c = ending_short _ _ _ _ _ (second_no _ _ (sym c.keeps.ensures ∙ c.if-not-keeps.false) (sym c.writes.ensures ∙ c.if-not-writes.true))

pub returns-then-not-writes-clause-fact : goal.returns-then-not-writes-clause-fact
returns-then-not-writes-clause-fact c = end_short _ _ _ _ _ _ (second_no _ _ (sym c.keeps.ensures ∙ c.if-not-keeps.false) (sym c.writes.ensures ∙ c.if-not-writes.true))

pub returns-clause-result_after : goal.returns-clause-result_after
returns-clause-result_after c = ending_there _ _ _ _ _ (both_yes _ _ (sym c.keeps.ensures ∙ c.if-not-keeps.false) (sym c.writes.ensures ∙ c.if-not-writes.false)) _ c.state_in-s.ensures _ _ c.end-w.ensures.room_after _ c.ended_said.ensures _ (said_there _ _ _ _ (writes_long _ _ _ (sym c.writes.ensures ∙ c.if-not-writes.false)).1 c.say.ensures refl)

pub returns-clause-fact : goal.returns-clause-fact
returns-clause-fact c = end_says _ _ _ _ _ _ _ _ _ _ _ c.state_in-s.ensures (writes_long _ _ _ (sym c.writes.ensures ∙ c.if-not-writes.false)).0 c.end-w.ensures.by_index c.ended_said.ensures (said_there _ _ _ _ (writes_long _ _ _ (sym c.writes.ensures ∙ c.if-not-writes.false)).1 c.say.ensures refl) _ (both_yes _ _ (sym c.keeps.ensures ∙ c.if-not-keeps.false) (sym c.writes.ensures ∙ c.if-not-writes.false))

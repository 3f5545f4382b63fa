-- `box_sheet::check_sheet` meets its contract. Assumes nothing.
use mathlib.Core.Path.{refl, sym, ◌∙◌}
use Rattle.box_answers.proofs.Crossing.{first_no, second_no, both_yes}
use Rattle.box_sheet.proofs.Leaving.{sheet_short, sheet_there}
use Rattle.box_sheet.proofs.Feeding.{lends_long, writes_long, said_there, check_short, check_says}
use Rattle.box_sheet.proofs.check_sheet.Goals as goal

pub returns-then-not-lends-clause-result_after : goal.returns-then-not-lends-clause-result_after
returns-then-not-lends-clause-result_after c = sheet_short _ _ _ _ (first_no _ _ (sym c.lends.ensures ∙ c.if-not-lends.true))

pub returns-then-not-lends-clause-fact : goal.returns-then-not-lends-clause-fact
returns-then-not-lends-clause-fact c = check_short _ _ _ _ _ (first_no _ _ (sym c.lends.ensures ∙ c.if-not-lends.true))

pub returns-then-not-writes-clause-result_after : goal.returns-then-not-writes-clause-result_after
returns-then-not-writes-clause-result_after c = sheet_short _ _ _ _ (second_no _ _ (sym c.lends.ensures ∙ c.if-not-lends.false) (sym c.writes.ensures ∙ c.if-not-writes.true))

pub returns-then-not-writes-clause-fact : goal.returns-then-not-writes-clause-fact
returns-then-not-writes-clause-fact c = check_short _ _ _ _ _ (second_no _ _ (sym c.lends.ensures ∙ c.if-not-lends.false) (sym c.writes.ensures ∙ c.if-not-writes.true))

pub returns-clause-result_after : goal.returns-clause-result_after
returns-clause-result_after c = sheet_there _ _ _ _ (both_yes _ _ (sym c.lends.ensures ∙ c.if-not-lends.false) (sym c.writes.ensures ∙ c.if-not-writes.false)) _ _ _ c.check-c.ensures.room_after _ c.checked_said.ensures _ (said_there _ _ _ _ (writes_long _ _ _ (sym c.writes.ensures ∙ c.if-not-writes.false)).1 c.say.ensures refl)

pub returns-clause-fact : goal.returns-clause-fact
returns-clause-fact c = check_says _ _ _ _ _ _ _ _ _ _ _ _ _ _ (both_yes _ _ (sym c.lends.ensures ∙ c.if-not-lends.false) (sym c.writes.ensures ∙ c.if-not-writes.false)) (lends_long _ _ _ (sym c.lends.ensures ∙ c.if-not-lends.false)) c.check-c.ensures.checks c.checked_said.ensures (said_there _ _ _ _ (writes_long _ _ _ (sym c.writes.ensures ∙ c.if-not-writes.false)).1 c.say.ensures refl)

-- `lintelbox::rules::lintel_report` meets its contract. Assumes nothing.
use mathlib.Core.Path.{ap, ◌∙◌}
use Rattle.box_answers.specs.Border.{reported_said}
use Rattle.box_answers.proofs.Crossing.{too_short, stayed, went, less, enough, no_rules, rules_there, first_no, second_no, both_yes, via, past}
use Rattle.lintelbox.proofs.rules.lintel_report.Goals as goal

pub returns-then-words-end-clause-result_after : goal.returns-then-words-end-clause-result_after
returns-then-words-end-clause-result_after c = too_short _ _ _ (first_no _ _ (no_rules _ _ _ c.start-end.ensures.value c.if-words-end.true))

pub returns-then-words-end-clause-lent_room : goal.returns-then-words-end-clause-lent_room
returns-then-words-end-clause-lent_room c = stayed _ _ _ (first_no _ _ (no_rules _ _ _ c.start-end.ensures.value c.if-words-end.true))

pub returns-then-room-lt-REPORT_ROOM-clause-result_after : goal.returns-then-room-lt-REPORT_ROOM-clause-result_after
returns-then-room-lt-REPORT_ROOM-clause-result_after c = too_short _ _ _ (second_no _ _ (rules_there _ _ _ c.start-end.ensures.value c.if-words-end.false) (first_no _ _ (less _ _ c.if-room-lt-REPORT_ROOM.true)))

pub returns-then-room-lt-REPORT_ROOM-clause-lent_room : goal.returns-then-room-lt-REPORT_ROOM-clause-lent_room
returns-then-room-lt-REPORT_ROOM-clause-lent_room c = stayed _ _ _ (second_no _ _ (rules_there _ _ _ c.start-end.ensures.value c.if-words-end.false) (first_no _ _ (less _ _ c.if-room-lt-REPORT_ROOM.true)))

pub returns-then-answer-lt-ANSWER-clause-result_after : goal.returns-then-answer-lt-ANSWER-clause-result_after
returns-then-answer-lt-ANSWER-clause-result_after c = too_short _ _ _ (second_no _ _ (rules_there _ _ _ c.start-end.ensures.value c.if-words-end.false) (second_no _ _ (enough _ _ c.if-room-lt-REPORT_ROOM.false) (less _ _ c.if-answer-lt-ANSWER.true)))

pub returns-then-answer-lt-ANSWER-clause-lent_room : goal.returns-then-answer-lt-ANSWER-clause-lent_room
returns-then-answer-lt-ANSWER-clause-lent_room c = stayed _ _ _ (second_no _ _ (rules_there _ _ _ c.start-end.ensures.value c.if-words-end.false) (second_no _ _ (enough _ _ c.if-room-lt-REPORT_ROOM.false) (less _ _ c.if-answer-lt-ANSWER.true)))

pub returns-clause-result_after : goal.returns-clause-result_after
returns-clause-result_after c = past _ _ _ _ _ (rules_there _ _ _ c.start-end.ensures.value c.if-words-end.false) (past _ _ _ _ _ (enough _ _ c.if-room-lt-REPORT_ROOM.false) (via _ _ _ _ _ c.say.ensures (c.reported_said.ensures ∙ ap reported_said c.report-r.ensures.value)))

pub returns-clause-lent_room : goal.returns-clause-lent_room
returns-clause-lent_room c = went _ _ _ _ (both_yes _ _ (rules_there _ _ _ c.start-end.ensures.value c.if-words-end.false) (both_yes _ _ (enough _ _ c.if-room-lt-REPORT_ROOM.false) (enough _ _ c.if-answer-lt-ANSWER.false))) c.report-r.ensures.lent_room

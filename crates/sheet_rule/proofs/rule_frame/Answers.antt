use mathlib.Core.Path.{refl}
use Rattle.sheet_reader.proofs.Acts.{stop_stops, on_went}
use Rattle.sheet_rule.proofs.Leaving.{rules_not, rules_at_once, rules_await}
use Rattle.sheet_rule.proofs.Itemed.{rule_not, rule_at_once, rule_awaits}
use Rattle.sheet_rule.proofs.rule_frame.Goals as goal

pub returns-in_default-clause-room_after : goal.returns-in_default-clause-room_after
returns-in_default-clause-room_after c = rules_not _ _ _ _ _ _ _ _ _ c.rule_set.ensures _ c.in_default.is c.stop.ensures

pub returns-in_default-clause-acts : goal.returns-in_default-clause-acts
returns-in_default-clause-acts c = λ h. rule_not c.args.r c.args.rule _ _ _ _ _ _ _ c.rule_set.ensures _ c.in_default.is (stop_stops _ _ _ _ _ _ h.0 c.stop.ensures)

pub returns-then-left-eq0-clause-room_after : goal.returns-then-left-eq0-clause-room_after
returns-then-left-eq0-clause-room_after c = rules_at_once _ _ _ _ _ _ _ _ _ c.rule_set.ensures _ c.in-Some.is _ _ _ c.if-left-eq0.true c.read_rule.ensures.room_after

pub returns-then-left-eq0-clause-acts : goal.returns-then-left-eq0-clause-acts
returns-then-left-eq0-clause-acts c = λ h. rule_at_once c.args.r c.args.rule _ _ _ _ _ _ _ c.rule_set.ensures _ c.in-Some.is _ _ _ c.if-left-eq0.true (c.read_rule.ensures.fact h)

pub returns-clause-room_after : goal.returns-clause-room_after
returns-clause-room_after c = rules_await _ _ _ _ _ _ _ _ _ c.rule_set.ensures _ c.in-Some.is _ c.if-left-eq0.false c.on.ensures refl

pub returns-clause-acts : goal.returns-clause-acts
returns-clause-acts c = λ h. rule_awaits c.args.r c.args.rule _ _ _ _ _ _ _ c.rule_set.ensures _ c.in-Some.is _ c.if-left-eq0.false (on_went _ _ _ _ _ h.1 c.on.ensures) refl

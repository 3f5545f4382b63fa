use mathlib.Core.Path.{refl}
use Rattle.sheet_reader.proofs.Acts.{stop_stops, on_went}
use Rattle.sheet_sites.proofs.Leaving.{begins_not, begins_refused, begins_fine}
use Rattle.sheet_sites.proofs.Begun.{begin_not, begin_refused, begin_fine}
use Rattle.sheet_sites.proofs.begin_frame.Goals as goal

pub returns-then-not-outside-clause-room_after : goal.returns-then-not-outside-clause-room_after
returns-then-not-outside-clause-room_after c = begins_not _ _ _ _ _ _ _ _ c.outside.ensures c.if-not-outside.true c.stop.ensures

pub returns-then-not-outside-clause-acts : goal.returns-then-not-outside-clause-acts
returns-then-not-outside-clause-acts c = λ h. begin_not c.args.r _ _ _ _ _ _ _ c.outside.ensures c.if-not-outside.true (stop_stops _ _ _ _ _ _ h.0 c.stop.ensures)

pub returns-in-Err-clause-room_after : goal.returns-in-Err-clause-room_after
returns-in-Err-clause-room_after c = begins_refused _ _ _ _ _ _ _ _ c.outside.ensures c.if-not-outside.false _ c.may_begin.ensures _ c.in-Err.is c.stop-in-Err.ensures

pub returns-in-Err-clause-acts : goal.returns-in-Err-clause-acts
returns-in-Err-clause-acts c = λ h. begin_refused c.args.r _ _ _ _ _ _ _ c.outside.ensures c.if-not-outside.false _ c.may_begin.ensures _ c.in-Err.is (stop_stops _ _ _ _ _ _ h.0 c.stop-in-Err.ensures)

pub returns-clause-room_after : goal.returns-clause-room_after
returns-clause-room_after c = begins_fine _ _ _ _ _ _ _ _ c.outside.ensures c.if-not-outside.false _ c.may_begin.ensures c.in_default.is c.on.ensures refl

pub returns-clause-acts : goal.returns-clause-acts
returns-clause-acts c = λ h. begin_fine c.args.r _ _ _ _ _ _ _ c.outside.ensures c.if-not-outside.false _ c.may_begin.ensures c.in_default.is (on_went _ _ _ _ _ h.1 c.on.ensures) refl

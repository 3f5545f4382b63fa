use mathlib.Core.Path.{refl}
use native.Mathlib.Omega.{arith}
use Rattle.sheet_step.proofs.Lined.{no_room}
use Rattle.sheet_step.proofs.Leaving.{leaves_unread, leaves_read}
use Rattle.sheet_step.proofs.step.Goals as goal

pub returns-then-saturating_sub-lt-STEP_ROOM-clause-room_after : goal.returns-then-saturating_sub-lt-STEP_ROOM-clause-room_after
returns-then-saturating_sub-lt-STEP_ROOM-clause-room_after c = leaves_unread c.args.r _ _ _ _ _ _ _ (omega arith) refl refl refl

pub returns-then-saturating_sub-lt-STEP_ROOM-clause-fact : goal.returns-then-saturating_sub-lt-STEP_ROOM-clause-fact
returns-then-saturating_sub-lt-STEP_ROOM-clause-fact c = no_room c.args.r _ _ _ _ _ _ _ (omega arith) refl refl refl

pub returns-clause-room_after : goal.returns-clause-room_after
returns-clause-room_after c = leaves_read _ _ _ _ _ _ _ _ (omega arith) c.take_line.ensures.room_after

use lib.Seq.{set_out}
use mathlib.Core.Path.{sym}
use Rattle.sheet_digits.proofs.put.Goals as goal

pub returns-else-at-room : goal.returns-else-at-room
returns-else-at-room c = sym (set_out _ _ _ c.if-at-room.false)

use native.Mathlib.Omega.{arith}
use Rattle.sheet_findings.proofs.Rooms.{short_room, long_room}
use Rattle.sheet_findings.proofs.write_line.Goals as goal

pub returns-then-saturating_sub-digits : goal.returns-then-saturating_sub-digits
returns-then-saturating_sub-digits c = short_room c.args.out.now c.args.at c.args.b.now (omega (arith, c.saturating_sub.ensures))

pub returns : goal.returns
returns c = long_room c.args.out.now c.args.at c.args.b.now _ (omega (arith, c.saturating_sub.ensures)) c.write_bytes.ensures

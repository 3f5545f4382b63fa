use native.Mathlib.Omega.{arith}
use mathlib.Core.Path.{sym}
use Rattle.sheet_frames.proofs.Frames.{frame_wrong, t_equal, equal_said}
use Rattle.sheet_frames.proofs.layout.equal_of.Goals as goal

pub returns-then-s-ne5 : goal.returns-then-s-ne5
returns-then-s-ne5 c = sym (frame_wrong t_equal c.args.s.now c.requires.0 c.requires.1 c.if-s-ne5.true)

pub returns : goal.returns
returns c = equal_said c.args.s.now c.two_at.result c.two_at-2.result (omega (arith, c.if-s-ne5.false)) c.requires.1 c.two_at.ensures c.two_at-2.ensures

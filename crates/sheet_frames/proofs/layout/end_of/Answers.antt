use native.Mathlib.Omega.{arith}
use mathlib.Core.Path.{sym}
use Rattle.sheet_frames.proofs.Frames.{frame_wrong, t_end, frame_end}
use Rattle.sheet_frames.proofs.layout.end_of.Goals as goal

pub returns-then-s-ne1 : goal.returns-then-s-ne1
returns-then-s-ne1 c = sym (frame_wrong t_end c.args.s.now c.requires.0 c.requires.1 c.if-s-ne1.true)

pub returns : goal.returns
returns c = sym (frame_end c.args.s.now (omega (arith, c.if-s-ne1.false)) c.requires.1)

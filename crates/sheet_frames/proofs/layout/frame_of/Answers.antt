use mathlib.Core.Path.{sym}
use Rattle.sheet_frames.proofs.Frames.{frame_none, frame_other}
use Rattle.sheet_frames.proofs.layout.frame_of.Goals as goal

pub returns-then-s-eq0 : goal.returns-then-s-eq0
returns-then-s-eq0 c = sym (frame_none c.args.s.now c.if-s-eq0.true)

pub returns : goal.returns
returns c = sym (frame_other c.args.s.now c.if-k-eq1.false c.if-k-eq2.false c.if-k-eq3.false c.if-k-eq4.false c.if-k-eq5.false c.if-k-eq6.false)

use native.Mathlib.Omega.{arith}
use mathlib.Core.Path.{sym}
use Rattle.sheet_frames.proofs.Frames.{frame_wrong, t_begin, frame_flags, frame_begin}
use Rattle.sheet_frames.proofs.layout.begin_of.Goals as goal

pub returns-then-s-ne4 : goal.returns-then-s-ne4
returns-then-s-ne4 c = sym (frame_wrong t_begin c.args.s.now c.requires.0 c.requires.1 c.if-s-ne4.true)

pub returns-then-f-ge4 : goal.returns-then-f-ge4
returns-then-f-ge4 c = sym (frame_flags c.args.s.now (omega (arith, c.if-s-ne4.false)) c.requires.1 c.if-f-ge4.true)

pub returns : goal.returns
returns c = let e = frame_begin c.args.s.now (omega (arith, c.if-s-ne4.false)) c.requires.1 (omega (arith, c.if-f-ge4.false)) in
    let f = c.two_at.ensures in
    cc

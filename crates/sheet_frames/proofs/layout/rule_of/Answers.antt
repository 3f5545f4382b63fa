use native.Mathlib.Omega.{arith}
use mathlib.Core.Path.{sym}
use Rattle.sheet_frames.proofs.Frames.{frame_wrong, t_rule, frame_rule}
use Rattle.sheet_frames.proofs.layout.rule_of.Goals as goal

pub returns-then-s-ne14 : goal.returns-then-s-ne14
returns-then-s-ne14 c = sym (frame_wrong t_rule c.args.s.now c.requires.0 c.requires.1 c.if-s-ne14.true)

pub returns : goal.returns
returns c = let e = frame_rule c.args.s.now (omega (arith, c.if-s-ne14.false)) c.requires.1 in
    let f = c.four_at.ensures in
    let g = c.eight_at.ensures in
    cc

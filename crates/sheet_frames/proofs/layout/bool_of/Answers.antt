use native.Mathlib.Omega.{arith}
use mathlib.Core.Path.{sym}
use Rattle.sheet_frames.proofs.Frames.{shape_bool, shape_no_bool}
use Rattle.sheet_frames.proofs.layout.bool_of.Goals as goal

pub returns-then-b-ge2 : goal.returns-then-b-ge2
returns-then-b-ge2 c = sym (shape_no_bool c.args.s.now c.requires.0 c.requires.1 c.if-b-ge2.true)

pub returns : goal.returns
returns c = let e = shape_bool c.args.s.now c.requires.0 c.requires.1 (omega (arith, c.if-b-ge2.false)) in
    let f = c.two_at.ensures in
    cc

use Rattle.sheet_frames.proofs.Frames.{shape_int}
use Rattle.sheet_frames.proofs.layout.int_of.Goals as goal

pub returns : goal.returns
returns c = let e = shape_int c.args.s.now c.requires.0 c.requires.1 in
    let f = c.two_at.ensures in
    let g = c.eight_at.ensures in
    let h = c.eight_at-2.ensures in
    cc

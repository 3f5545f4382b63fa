use native.Mathlib.Omega.{arith}
use mathlib.Core.Path.{sym}
use Rattle.std.specs.declared.option.Option.TheVariants.{None, Some}
use Rattle.sheet_frames.proofs.Frames.{frame_short, item_is}
use Rattle.sheet_frames.proofs.layout.is_of.Goals as goal

pub returns-then-s-lt3 : goal.returns-then-s-lt3
returns-then-s-lt3 c = sym (frame_short c.args.s.now c.if-s-lt3.true c.requires.1)

pub returns-in_default : goal.returns-in_default
returns-in_default c = sym (item_is c.args.s.now c.shape_of.result None (omega (arith, c.if-s-lt3.false)) c.requires.1 c.shape_of.ensures c.in_default.is)

pub returns : goal.returns
returns c = let e = item_is c.args.s.now c.shape_of.result (Some c.in-Some.c) (omega (arith, c.if-s-lt3.false)) c.requires.1 c.shape_of.ensures c.in-Some.is in
    let f = c.two_at-x.ensures in
    cc

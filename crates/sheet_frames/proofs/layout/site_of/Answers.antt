use mathlib.Core.Path.{sym}
use mathlib.Core.Bool.{true, false}
use Rattle.sheet_frames.proofs.Frames.{site_body_is}
use Rattle.sheet_frames.proofs.layout.site_of.Goals as goal

pub returns-then-is_body : goal.returns-then-is_body
returns-then-is_body c = sym (site_body_is c.args.s.now c.is_body.result true c.requires.0 c.requires.1 c.is_body.ensures c.if-is_body.true)

pub returns : goal.returns
returns c = sym (site_body_is c.args.s.now c.is_body.result false c.requires.0 c.requires.1 c.is_body.ensures c.if-is_body.false)

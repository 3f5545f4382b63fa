use Rattle.sheet_frames.proofs.Decoded.{bytes_none}
use Rattle.sheet_frames.proofs.Whole.{taken_bytes}
use Rattle.sheet_frames.proofs.digits.bytes_of.Goals as goal

pub returns-in_default : goal.returns-in_default
returns-in_default c = bytes_none c.args.line.now _ _ c.take_bytes.ensures c.in_default.is

pub returns : goal.returns
returns c = taken_bytes c.args.line.now _ _ c.take_bytes.ensures _ c.in-Some.is

use Rattle.sheet_frames.proofs.Whole.{wrong_read, taken_read, taken_lent, taken_fits}
use Rattle.sheet_frames.proofs.read_line.Goals as goal

pub returns-in_default : goal.returns-in_default
returns-in_default c = wrong_read c.args.line.now _ _ c.take_bytes.ensures c.in_default.is

pub slice_bounds-bytes-end : goal.slice_bounds-bytes-end
slice_bounds-bytes-end c = taken_fits c.args.line.now _ _ c.take_bytes.ensures _ c.in-Some.is

pub slice_bounds-frame_of-end : goal.slice_bounds-frame_of-end
slice_bounds-frame_of-end c = taken_lent c.args.line.now _ _ c.take_bytes.ensures _ c.in-Some.is

pub returns : goal.returns
returns c = taken_read c.args.line.now _ _ c.take_bytes.ensures _ c.in-Some.is c.frame_of-frame.result c.frame_of-frame.ensures

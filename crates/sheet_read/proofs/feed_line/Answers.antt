use native.Mathlib.Omega.{arith}
use Rattle.sheet_read.proofs.Feeding.{feeds_line, feeds_rest, nested, cut_inside}
use Rattle.sheet_read.proofs.feed_line.Goals as goal

pub returns-then-c-clause-fact : goal.returns-then-c-clause-fact
returns-then-c-clause-fact c = (nested (feeds_rest c.args.s _ _ _ _ _ _ c.cut_line-c.ensures c.if-c.true c.requires.0 (omega (arith, c.requires.1)) c.requires.2)).1

pub overflow_add-result : goal.overflow_add-result
overflow_add-result c = omega (arith, (cut_inside _ _ _ _ c.cut_line-c.ensures c.if-c.false).1, c.well_formed)

pub returns-clause-from_lt_read : goal.returns-clause-from_lt_read
returns-clause-from_lt_read c = (nested (feeds_line c.args.s _ _ _ _ _ _ _ _ c.cut_line-c.ensures c.if-c.false _ _ _ c.part-here.ensures c.part.ensures c.line_of-text.ensures _ c.step-a.ensures.fact c.requires.1 _ c.stops.ensures _ c.nothing.ensures.1 c.requires.2)).0

pub returns-clause-fact : goal.returns-clause-fact
returns-clause-fact c = (nested (feeds_line c.args.s _ _ _ _ _ _ _ _ c.cut_line-c.ensures c.if-c.false _ _ _ c.part-here.ensures c.part.ensures c.line_of-text.ensures _ c.step-a.ensures.fact c.requires.1 _ c.stops.ensures _ c.nothing.ensures.1 c.requires.2)).1

use Rattle.sheet_lines.proofs.Scan.{ends_here, goes_on, no_end}
use Rattle.sheet_lines.proofs.line_end.Goals as goal

pub returns-then-s-i-eq-LINE_FEED : goal.returns-then-s-i-eq-LINE_FEED
returns-then-s-i-eq-LINE_FEED c = ends_here c.args.s.now c.loop-i.i _ c.loop-i-test.true c.if-s-i-eq-LINE_FEED.true c.loop-i.invariant

pub loop-i-preserved : goal.loop-i-preserved
loop-i-preserved c = goes_on c.args.s.now c.loop-i.i _ c.loop-i-test.true c.if-s-i-eq-LINE_FEED.false c.loop-i.invariant

pub returns : goal.returns
returns c = no_end c.args.s.now c.loop-i.i _ c.loop-i-test.false c.loop-i.invariant

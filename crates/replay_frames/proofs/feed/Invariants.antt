use Rattle.std.proofs.Common.{◌-◌, ◌≤◌, length}
use Rattle.replay_frames.proofs.feed.Given as goal

abbrev pub decreases-loop-e : goal.decreases-loop-e
decreases-loop-e g l = length l.s - l.from

-- the next line begins within the piece, or right at its end
abbrev pub invariant-loop-e : goal.invariant-loop-e
invariant-loop-e g l = l.from ≤ length l.s

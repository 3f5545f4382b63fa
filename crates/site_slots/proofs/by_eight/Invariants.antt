use Rattle.std.proofs.Common.{◌+◌, ◌*◌}
use Rattle.site_slots.specs.Seeking.{Onward}
use Rattle.site_slots.proofs.by_eight.Given as goal

abbrev pub invariant-loop-block : goal.invariant-loop-block
invariant-loop-block l = Onward l.m l.off l.from l.to l.key (l.from + 8 * l.block)

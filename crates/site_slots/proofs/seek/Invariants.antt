use Rattle.site_slots.specs.Seeking.{Onward}
use Rattle.site_slots.proofs.seek.Given as goal

abbrev pub invariant-loop-i : goal.invariant-loop-i
invariant-loop-i l = Onward l.m l.off l.from l.n l.key l.i

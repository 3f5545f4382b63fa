use Rattle.site_slots.specs.Seeking.{Skips}
use Rattle.site_slots.proofs.one_by_one.Given as goal

abbrev pub invariant-loop-i : goal.invariant-loop-i
invariant-loop-i l = Skips l.m l.from l.n l.b l.i

use Prim.Native.Nat.{◌-◌}
use mathlib.Core.Path.{◌≡◌}
use Rattle.tell_text.specs.Written.{wrote}
use Rattle.rule_words.specs.Stored.{run, constrained_at}
use Rattle.sites.specs.Slots.{sites_in}
use Rattle.tell_kept.specs.Listed.{c_lines}
use Rattle.tell_kept.proofs.put_all_constrained.Given as goal

abbrev pub invariant-loop-i : goal.invariant-loop-i
invariant-loop-i l = wrote (l.out, l.e) (c_lines (sites_in l.m l.n) (run (constrained_at l.words l.b) l.i (l.k - l.i))) ≡ wrote (l.initial.out, l.at) (c_lines (sites_in l.m l.n) (run (constrained_at l.words l.b) 0 l.k))

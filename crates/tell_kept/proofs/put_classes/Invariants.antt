use Prim.Native.Nat.{◌-◌}
use mathlib.Core.Path.{◌≡◌}
use Rattle.tell_text.specs.Written.{wrote}
use Rattle.rule_words.specs.Stored.{run, equal_at}
use Rattle.sites.specs.Slots.{sites_in}
use Rattle.tell_kept.specs.Listed.{classes}
use Rattle.tell_kept.proofs.put_classes.Given as goal

abbrev pub invariant-loop-i : goal.invariant-loop-i
invariant-loop-i l = wrote (l.out, l.e) (classes (sites_in l.m l.n) (run (equal_at l.words l.b) 0 l.k) (run (equal_at l.words l.b) l.i (l.k - l.i))) ≡ wrote (l.initial.out, l.at) (classes (sites_in l.m l.n) (run (equal_at l.words l.b) 0 l.k) (run (equal_at l.words l.b) 0 l.k))

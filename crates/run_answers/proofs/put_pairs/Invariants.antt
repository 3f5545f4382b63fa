use mathlib.Core.Path.{◌≡◌}
use Prim.Native.Nat.{◌-◌}
use Rattle.tell_text.specs.Written.{wrote}
use Rattle.rule_words.specs.Stored.{kept_in, kept_first, run}
use Rattle.run_answers.specs.Told.{pair_lines}
use Rattle.run_answers.proofs.put_pairs.Given as goal

abbrev pub invariant-loop-i : goal.invariant-loop-i
invariant-loop-i l = wrote (l.out, l.n) (pair_lines (run (kept_in l.words) l.i (l.rules - l.i))) ≡ wrote (l.initial.out, l.at) (pair_lines (kept_first l.words l.rules))

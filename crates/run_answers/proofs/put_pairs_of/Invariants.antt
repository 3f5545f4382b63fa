use mathlib.Core.Path.{◌≡◌}
use Prim.Native.Nat.{◌+◌, ◌-◌}
use Rattle.tell_text.specs.Written.{wrote}
use Rattle.rule_words.specs.Stored.{kept_in, run}
use Rattle.run_answers.specs.Told.{pairs_with}
use Rattle.run_answers.proofs.put_pairs_of.Given as goal

abbrev pub invariant-loop-j : goal.invariant-loop-j
invariant-loop-j l =
    wrote (l.out, l.n) (pairs_with (kept_in l.words l.i) (run (kept_in l.words) l.j (l.rules - l.j)))
    ≡ wrote (l.initial.out, l.at) (pairs_with (kept_in l.words l.i) (run (kept_in l.words) (l.i + 1) (l.rules - (l.i + 1))))

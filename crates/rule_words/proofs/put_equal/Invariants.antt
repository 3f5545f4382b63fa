use mathlib.Core.Path.{◌≡◌}
use Rattle.rule_words.specs.Stored.{put_equal}
use Rattle.rule_words.proofs.put_equal.Given as goal

abbrev pub invariant-loop-k : goal.invariant-loop-k
invariant-loop-k l = l.words ≡ put_equal l.initial.words l.b l.equal l.low l.k

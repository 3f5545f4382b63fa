use mathlib.Core.Path.{◌≡◌}
use Rattle.rule_words.specs.Stored.{put_constrained}
use Rattle.rule_words.proofs.put_constrained.Given as goal

abbrev pub invariant-loop-k : goal.invariant-loop-k
invariant-loop-k l = l.words ≡ put_constrained l.initial.words l.b l.sites l.shapes l.k

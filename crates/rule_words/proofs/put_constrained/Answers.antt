use mathlib.Core.Path.{refl}
use Rattle.rule_words.specs.Stored.{put_constrained}
use Rattle.rule_words.proofs.TurnLaws.{constrained_turn}
use Rattle.rule_words.proofs.put_constrained.Goals as goal

pub loop-k-init : goal.loop-k-init
unfolding put_constrained
loop-k-init c = refl

pub loop-k-preserved : goal.loop-k-preserved
loop-k-preserved c = constrained_turn _ _ _ _ _ _ _ _ _ _ _ _ c.loop-k.invariant c.site-s.ensures c.word-one.ensures c.word-two.ensures c.word-three.ensures c.constrained_start.ensures.0 c.put_four.ensures

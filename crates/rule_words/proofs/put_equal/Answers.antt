use mathlib.Core.Path.{refl}
use Rattle.rule_words.specs.Stored.{put_equal}
use Rattle.rule_words.proofs.TurnLaws.{equal_turn}
use Rattle.rule_words.proofs.put_equal.Goals as goal

pub loop-k-init : goal.loop-k-init
unfolding put_equal
loop-k-init c = refl

pub loop-k-preserved : goal.loop-k-preserved
loop-k-preserved c = equal_turn _ _ _ _ _ _ _ _ _ _ c.loop-k.invariant c.site-s.ensures c.site-l.ensures c.equal_start.ensures.0 c.put_two.ensures

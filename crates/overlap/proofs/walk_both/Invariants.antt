use Prim.Native.Nat.{◌-◌}
use Rattle.rule_words.specs.Stored.{constrained_word}
use Rattle.overlap.proofs.BesideLaws.{Beside, Inner}
use Rattle.overlap.proofs.walk_both.Given as goal

abbrev pub invariant-loop-q : goal.invariant-loop-q
invariant-loop-q l = Inner l.words l.a l.n l.b l.m l.all l.last l.p l.site l.q

abbrev pub decreases-loop-q : goal.decreases-loop-q
decreases-loop-q l = l.far - l.q

abbrev pub invariant-walk : goal.invariant-walk
invariant-walk l = Beside l.words l.a l.n l.b l.m l.all l.last (constrained_word l.a l.x) l.q

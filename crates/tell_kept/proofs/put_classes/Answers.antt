use Rattle.tell_kept.proofs.Laws.{class_turn, class_done}
use Rattle.tell_kept.proofs.put_classes.Goals as goal

pub loop-i-preserved : goal.loop-i-preserved
loop-i-preserved c = class_turn _ _ _ _ _ _ _ _ _ c.loop-i-test.true c.loop-i.invariant c.put_class-e.ensures

pub returns : goal.returns
returns c = class_done _ _ _ _ _ _ _ _ c.loop-i-test.false c.loop-i.invariant

use Rattle.tell_plan.proofs.Laws.{break_put}
use Rattle.paper.specs.declared.Break.TheVariants.{Edge, Mask, Order}
use Rattle.tell_plan.proofs.put_break.Goals as goal

pub returns-in-Edge : goal.returns-in-Edge
returns-in-Edge c = break_put _ _ _ Edge c.in-Edge.is c.put_text.ensures

pub returns-in-Mask : goal.returns-in-Mask
returns-in-Mask c = break_put _ _ _ Mask c.in-Mask.is c.put_text-in-Mask.ensures

pub returns-in-Order : goal.returns-in-Order
returns-in-Order c = break_put _ _ _ Order c.in-Order.is c.put_text-in-Order.ensures

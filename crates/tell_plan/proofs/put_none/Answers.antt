use Rattle.tell_plan.proofs.Laws.{none_free, none_why}
use Rattle.plan.specs.Plans.{by_mask, by_sameness}
use native.Mathlib.Omega.{arith}
use Rattle.tell_plan.proofs.put_none.Goals as goal

pub returns-in-Free : goal.returns-in-Free
returns-in-Free c = none_free _ _ _ _ _ _ c.requires.0 c.requires.1 _ (c.obstacle.ensures _ (let a = c.requires.0 in let b = c.requires.1 in omega arith) c.requires.1) c.in-Free.is

pub returns-in-Masked : goal.returns-in-Masked
returns-in-Masked c = none_why _ _ _ _ _ _ _ c.requires.0 c.requires.1 _ by_mask (c.obstacle.ensures _ (let a = c.requires.0 in let b = c.requires.1 in omega arith) c.requires.1) c.in-Masked.is c.put_obstructed.ensures

pub returns-in-Alike : goal.returns-in-Alike
returns-in-Alike c = none_why _ _ _ _ _ _ _ c.requires.0 c.requires.1 _ by_sameness (c.obstacle.ensures _ (let a = c.requires.0 in let b = c.requires.1 in omega arith) c.requires.1) c.in-Alike.is c.put_obstructed-in-Alike.ensures

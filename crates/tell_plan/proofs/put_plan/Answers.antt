use Rattle.tell_plan.proofs.Laws.{plan_proposed, plan_nothing, plan_many, plan_no_room}
use Rattle.std.specs.declared.result.Result.TheVariants.{Err}
use mathlib.Core.Path.{refl, ap, ◌∙◌}
use Rattle.tell_plan.proofs.put_plan.Goals as goal

pub returns-in-Ok : goal.returns-in-Ok
returns-in-Ok c = plan_proposed _ _ _ _ refl _ _ _ _ c.put_head-a.ensures c.put_text-e.ensures _ c.plan.ensures.value _ c.plan.ensures.lent_proposal c.in-Ok.is _ c.put_rules.ensures

pub returns-in-Err-Nothing : goal.returns-in-Err-Nothing
returns-in-Err-Nothing c = plan_nothing _ _ _ _ refl _ _ _ _ c.put_head-a.ensures c.put_text-e.ensures _ c.plan.ensures.value (c.in-Err-Nothing.is ∙ ap (λ x. Err x) c.in-Err-Nothing.field-0-is) _ c.put_nones.ensures

pub returns-in-Err-TooManyRules : goal.returns-in-Err-TooManyRules
returns-in-Err-TooManyRules c = plan_many _ _ _ _ refl _ _ _ _ c.put_head-a.ensures c.put_text-e.ensures _ c.plan.ensures.value (c.in-Err-TooManyRules.is ∙ ap (λ x. Err x) c.in-Err-TooManyRules.field-0-is)

pub returns-in-Err-NoRoom : goal.returns-in-Err-NoRoom
returns-in-Err-NoRoom c = plan_no_room _ _ _ _ refl _ _ _ _ c.put_head-a.ensures c.put_text-e.ensures _ c.plan.ensures.value (c.in-Err-NoRoom.is ∙ ap (λ x. Err x) c.in-Err-NoRoom.field-0-is)

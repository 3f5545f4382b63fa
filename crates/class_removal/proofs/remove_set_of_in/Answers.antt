-- `class_removal::remove_set_of_in` meets its contract. Assumes nothing.
use mathlib.Core.Path.{◌∙◌, ap}
use Rattle.std.specs.declared.result.Result.TheVariants.{Ok}
use Rattle.std.proofs.lemmas.Result.{err_from_is_err_and}
use Rattle.paper.specs.Classes.{sweep}
use Rattle.class_removal.proofs.Taking.{sweep_within, part_sites, taken_out, taken_none, taken_some, taken_all}
use Rattle.class_removal.proofs.remove_set_of_in.Goals as goal

pub returns-in_err-r : goal.returns-in_err-r
returns-in_err-r c = let p = err_from_is_err_and c.from_residual.result c.from_residual.ensures.1 in
    rw (p.1, p.2) (λ R. taken_out (sweep _) _ _ _ (c.find_mut_in.ensures R _) c.in_err-r.was ∙ taken_all _ _ _ c.if-members-lt-SITES.false)

pub returns-in_default : goal.returns-in_default
returns-in_default c = λ R. taken_none (sweep _) _ _ _ (c.find_mut_in.ensures R _) (c.in_ok-r.was ∙ ap Ok c.in_default.is) ∙ taken_all _ _ _ c.if-members-lt-SITES.false

pub take_out-requires : goal.take_out-requires
take_out-requires c = part_sites c.sweep-n.ensures (sweep_within _ _ _)

pub returns : goal.returns
returns c = λ R. taken_some (sweep _) _ _ _ (c.find_mut_in.ensures R _) (c.in_ok-r.was ∙ ap Ok c.in-Some.is) c.sweep-n.ensures c.take_out.ensures ∙ taken_all _ _ _ c.if-members-lt-SITES.false

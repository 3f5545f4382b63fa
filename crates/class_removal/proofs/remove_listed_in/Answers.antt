-- `class_removal::remove_listed_in` meets its contract. Assumes nothing.
use mathlib.Core.Path.{◌∙◌, ap}
use Rattle.std.specs.declared.result.Result.TheVariants.{Ok}
use Rattle.std.proofs.lemmas.Result.{err_from_is_err_and}
use Rattle.class_removal.specs.Listed.{sweep_of}
use Rattle.class_removal.proofs.Taking.{listed_within, part_sites, taken_out, taken_none, taken_some, taken_listed}
use Rattle.class_removal.proofs.remove_listed_in.Goals as goal

pub returns-in_err-r : goal.returns-in_err-r
returns-in_err-r c = let p = err_from_is_err_and c.from_residual.result c.from_residual.ensures.1 in
    rw (p.1, p.2) (λ R. taken_out (sweep_of _ _) _ _ _ (c.find_mut_in.ensures R _) c.in_err-r.was ∙ taken_listed _ _ c.args.x c.args.sites.now c.if-members-sites.false)

pub returns-in_default : goal.returns-in_default
returns-in_default c = λ R. taken_none (sweep_of _ _) _ _ _ (c.find_mut_in.ensures R _) (c.in_ok-r.was ∙ ap Ok c.in_default.is) ∙ taken_listed _ _ c.args.x c.args.sites.now c.if-members-sites.false

pub take_out-requires : goal.take_out-requires
take_out-requires c = part_sites c.sweep_listed-n.ensures (listed_within _ _ _ _)

pub returns : goal.returns
returns c = λ R. taken_some (sweep_of _ _) _ _ _ (c.find_mut_in.ensures R _) (c.in_ok-r.was ∙ ap Ok c.in-Some.is) c.sweep_listed-n.ensures c.take_out.ensures ∙ taken_listed _ _ c.args.x c.args.sites.now c.if-members-sites.false

use Rattle.std.specs.declared.result.Result.TheVariants.{Ok}
use mathlib.Core.Path.{refl, ap, ◌∙◌}
use Rattle.sheet_reader.proofs.Acts.{stop_stops, on_went}
use Rattle.sheet_sites.proofs.Leaving.{sites_not, sites_known, sites_refused, sites_fresh}
use Rattle.sheet_sites.proofs.Sited.{site_not, site_known, site_refused, site_fresh}
use Rattle.sheet_sites.proofs.site_frame.Goals as goal

pub returns-in_default-clause-by_index : goal.returns-in_default-clause-by_index
returns-in_default-clause-by_index c = sites_not _ _ _ _ _ _ _ c.site_set.ensures _ c.in_default.is c.stop.ensures

pub returns-in_default-clause-acts : goal.returns-in_default-clause-acts
returns-in_default-clause-acts c = λ h. site_not c.args.r _ _ _ _ _ _ c.site_set.ensures _ c.in_default.is (stop_stops _ _ _ _ _ _ h.0 c.stop.ensures)

pub returns-in-Ok-Known-clause-by_index : goal.returns-in-Ok-Known-clause-by_index
returns-in-Ok-Known-clause-by_index c = λ w i t. sites_known _ _ _ _ _ _ _ c.site_set.ensures _ _ c.in-Some.is _ _ c.add.ensures.0 c.add.ensures.1 w i t _ (c.in-Ok-Known.is ∙ ap Ok c.in-Ok-Known.field-0-is) c.stop-in-Ok-Known.ensures

pub returns-in-Ok-Known-clause-acts : goal.returns-in-Ok-Known-clause-acts
returns-in-Ok-Known-clause-acts c = λ h w i t p x q T. site_known c.args.r _ _ _ _ _ _ c.site_set.ensures _ _ c.in-Some.is _ _ c.add.ensures.0 c.add.ensures.1 w i t p x q T _ (c.in-Ok-Known.is ∙ ap Ok c.in-Ok-Known.field-0-is) (stop_stops _ _ _ _ _ _ h.0 c.stop-in-Ok-Known.ensures)

pub returns-in-Err-clause-by_index : goal.returns-in-Err-clause-by_index
returns-in-Err-clause-by_index c = λ w i t. sites_refused _ _ _ _ _ _ _ c.site_set.ensures _ _ c.in-Some.is _ _ c.add.ensures.0 c.add.ensures.1 w i t _ c.in-Err.is c.stop-in-Err.ensures

pub returns-in-Err-clause-acts : goal.returns-in-Err-clause-acts
returns-in-Err-clause-acts c = λ h w i t p x q T. site_refused c.args.r _ _ _ _ _ _ c.site_set.ensures _ _ c.in-Some.is _ _ c.add.ensures.0 c.add.ensures.1 w i t p x q T _ c.in-Err.is (stop_stops _ _ _ _ _ _ h.0 c.stop-in-Err.ensures)

pub returns-in-Ok-Fresh-clause-by_index : goal.returns-in-Ok-Fresh-clause-by_index
returns-in-Ok-Fresh-clause-by_index c = λ w i t. sites_fresh _ _ _ _ _ _ _ c.site_set.ensures _ _ c.in-Some.is _ _ c.add.ensures.0 c.add.ensures.1 w i t _ _ (c.in-Ok-Fresh.is ∙ ap Ok c.in-Ok-Fresh.field-0-is) c.next.ensures c.on.ensures refl

pub returns-in-Ok-Fresh-clause-acts : goal.returns-in-Ok-Fresh-clause-acts
returns-in-Ok-Fresh-clause-acts c = λ h w i t p x q T. site_fresh c.args.r _ _ _ _ _ _ c.site_set.ensures _ _ c.in-Some.is _ _ c.add.ensures.0 c.add.ensures.1 w i t p x q T _ _ (c.in-Ok-Fresh.is ∙ ap Ok c.in-Ok-Fresh.field-0-is) c.add.auto.m c.next.ensures (on_went _ _ _ _ _ h.1 c.on.ensures) refl

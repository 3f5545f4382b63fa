use mathlib.Core.Path.{refl}
use Rattle.sheet_reader.proofs.Acts.{stop_stops, on_went}
use Rattle.sheet_rule.proofs.Leaving.{items_not, items_last, items_go}
use Rattle.sheet_rule.proofs.Itemed.{item_not, item_last, item_goes}
use Rattle.sheet_rule.proofs.Small.{sub_is}
use Rattle.sheet_rule.proofs.item_frame.Goals as goal

pub returns-in_default-clause-room_after : goal.returns-in_default-clause-room_after
returns-in_default-clause-room_after c = items_not _ _ _ _ _ _ _ _ _ c.open_rule.ensures _ c.in_default.is c.stop.ensures

pub returns-in_default-clause-acts : goal.returns-in_default-clause-acts
returns-in_default-clause-acts c = λ h. item_not c.args.r _ _ _ _ _ _ _ _ c.open_rule.ensures _ c.in_default.is (stop_stops _ _ _ _ _ _ h.0 c.stop.ensures)

pub returns-then-left-lt2-clause-room_after : goal.returns-then-left-lt2-clause-room_after
returns-then-left-lt2-clause-room_after c = items_last _ _ _ _ _ _ _ _ _ c.open_rule.ensures _ _ _ c.in-Some.is _ _ (sub_is _ _ _ c.saturating_sub.ensures) c.keep_item.ensures.0 _ _ _ c.if-left-lt2.true c.read_rule.ensures.room_after

pub returns-then-left-lt2-clause-acts : goal.returns-then-left-lt2-clause-acts
returns-then-left-lt2-clause-acts c = λ h t p T. item_last c.args.r _ _ _ _ _ _ _ _ c.open_rule.ensures _ _ _ c.in-Some.is _ _ (sub_is _ _ _ c.saturating_sub.ensures) c.keep_item.ensures c.keep_item.auto.items t p T _ _ _ c.if-left-lt2.true (c.read_rule.ensures.fact h)

pub returns-clause-room_after : goal.returns-clause-room_after
returns-clause-room_after c = items_go _ _ _ _ _ _ _ _ _ c.open_rule.ensures _ _ _ c.in-Some.is _ _ (sub_is _ _ _ c.saturating_sub.ensures) c.keep_item.ensures.0 _ _ c.if-left-lt2.false refl c.on.ensures refl

pub returns-clause-acts : goal.returns-clause-acts
returns-clause-acts c = λ h t p T. item_goes c.args.r _ _ _ _ _ _ _ _ c.open_rule.ensures _ _ _ c.in-Some.is _ _ (sub_is _ _ _ c.saturating_sub.ensures) c.keep_item.ensures c.keep_item.auto.items t p T _ _ c.if-left-lt2.false refl (on_went _ _ _ _ _ h.1 c.on.ensures) refl

use native.Mathlib.Omega.{arith}
use Rattle.sheet_ended.proofs.Laws.{no_room, all_found, terms_fit}
use Rattle.sheet_ended.proofs.write_found.Goals as goal

pub returns-then-saturating_sub-lt-END_ROOM : goal.returns-then-saturating_sub-lt-END_ROOM
returns-then-saturating_sub-lt-END_ROOM c = let whole = no_room _ _ _ _ (omega arith) in record { value = whole.0; room_after = whole.1 }

pub shared_ref_as_front-write_terms : goal.shared_ref_as_front-write_terms
shared_ref_as_front-write_terms c = let f = terms_fit c.findings-list.result _ _ c.findings-list.ensures in omega arith

pub returns : goal.returns
returns c = let whole = all_found _ c.args.e _ _ _ _ _ _ _ _ (omega arith) c.findings-list.ensures c.from.ensures c.write_terms-end.ensures.0 c.write_terms-end.ensures.1 c.write_end.ensures.0 c.write_end.ensures.1 in record { value = whole.0; room_after = whole.1 }

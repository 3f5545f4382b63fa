use Rattle.plan_text.proofs.Anew.{none_anew, long_so, same_then}
use mathlib.Core.Path.{refl}
use Rattle.plan_text.proofs.is_none.Goals as goal

pub slice_bounds-room-end : goal.slice_bounds-room-end
slice_bounds-room-end c = (none_anew _ refl _ _ _ _ _ _ _ _ _ c.requires c.put_text-a.ensures c.put_four-b.ensures c.put_text-c.ensures c.put_four-d.ensures c.put_text-e.ensures).1

pub slice_bounds-eq-end : goal.slice_bounds-eq-end
slice_bounds-eq-end c = long_so _ _ _ (none_anew _ refl _ _ _ _ _ _ _ _ _ c.requires c.put_text-a.ensures c.put_four-b.ensures c.put_text-c.ensures c.put_four-d.ensures c.put_text-e.ensures)

pub returns : goal.returns
returns c = same_then _ _ _ _ c.eq.ensures (none_anew _ refl _ _ _ _ _ _ _ _ _ c.requires c.put_text-a.ensures c.put_four-b.ensures c.put_text-c.ensures c.put_four-d.ensures c.put_text-e.ensures).0

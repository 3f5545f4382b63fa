use Rattle.plan_text.proofs.Anew.{rule_anew, long_so, same_then}
use mathlib.Core.Path.{refl}
use Rattle.plan_text.proofs.is_rule.Goals as goal

pub slice_bounds-room-end : goal.slice_bounds-room-end
slice_bounds-room-end c = (rule_anew _ refl _ _ _ _ _ _ _ _ c.put_text-a.ensures c.put_four-b.ensures c.put_text-c.ensures c.put_eight-d.ensures c.put_text-e.ensures).1

pub slice_bounds-eq-end : goal.slice_bounds-eq-end
slice_bounds-eq-end c = long_so _ _ _ (rule_anew _ refl _ _ _ _ _ _ _ _ c.put_text-a.ensures c.put_four-b.ensures c.put_text-c.ensures c.put_eight-d.ensures c.put_text-e.ensures)

pub returns : goal.returns
returns c = same_then _ _ _ _ c.eq.ensures (rule_anew _ refl _ _ _ _ _ _ _ _ c.put_text-a.ensures c.put_four-b.ensures c.put_text-c.ensures c.put_eight-d.ensures c.put_text-e.ensures).0

use Rattle.tell_parts.proofs.PartLaws.{one_place, more_places}
use Rattle.tell_parts.proofs.put_places.Goals as goal

pub returns-then-f-lt11 : goal.returns-then-f-lt11
returns-then-f-lt11 c = one_place _ _ _ _ c.if-f-lt11.true c.four_at.ensures.0 c.put_decimal-k.ensures

pub returns : goal.returns
returns c = more_places _ _ _ _ _ c.four_at.ensures.0 c.put_decimal-k.ensures c.put_rest.ensures

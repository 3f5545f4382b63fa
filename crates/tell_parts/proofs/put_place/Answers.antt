use Rattle.tell_parts.proofs.PartLaws.{place_put}
use Rattle.tell_parts.proofs.put_place.Goals as goal

pub returns : goal.returns
returns c = place_put _ _ _ _ _ _ _ c.four_at.ensures.0 c.put_separator-k.ensures c.put_decimal.ensures

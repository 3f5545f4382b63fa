use Rattle.tell_plan.proofs.Laws.{places_put}
use Rattle.tell_plan.proofs.put_places.Goals as goal

pub returns : goal.returns
returns c = places_put _ _ _ _ _ _ _ _ _ _ _ c.start.ensures.value c.place.ensures c.start-2.ensures.value c.place-2.ensures c.put_four-a.ensures c.put_text-b.ensures c.put_four.ensures

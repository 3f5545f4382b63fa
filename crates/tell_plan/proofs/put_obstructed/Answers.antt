use Rattle.tell_plan.proofs.Laws.{chain3}
use Rattle.tell_plan.specs.Lent.{obstructed_words}
use Rattle.tell_plan.proofs.put_obstructed.Goals as goal

pub returns : goal.returns
unfolding obstructed_words
returns c = chain3 _ _ _ _ _ _ _ c.put_text-a.ensures c.put_places-b.ensures c.put_text.ensures

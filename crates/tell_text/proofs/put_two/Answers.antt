use Rattle.paper.specs.Words.{two}
use Rattle.tell_text.proofs.put_two.Goals as goal

pub returns : goal.returns
unfolding two
returns c = c.put_hex.ensures

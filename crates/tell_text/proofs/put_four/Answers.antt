use Rattle.paper.specs.Words.{four}
use Rattle.tell_text.proofs.put_four.Goals as goal

pub returns : goal.returns
unfolding four
returns c = c.put_hex.ensures

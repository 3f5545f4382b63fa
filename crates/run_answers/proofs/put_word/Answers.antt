use Rattle.paper.specs.Words.{four}
use Rattle.run_answers.proofs.put_word.Goals as goal

pub returns : goal.returns
unfolding four
returns c = c.put_text.ensures

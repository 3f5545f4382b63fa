use native.Mathlib.Omega.{arith}
use Rattle.std.proofs.lemmas.Grind.{common_steps}
use Rattle.paper.specs.Words.{same_list}
use Rattle.item_words.specs.Items.{item_of}
use Rattle.item_layout.specs.Layout.{laid, laid_out, shaped, paired}
use Rattle.item_layout.proofs.laid_out.Goals as goal

pub returns-then-a-lt-EQUAL : goal.returns-then-a-lt-EQUAL
unfolding laid_out laid item_of shaped same_list
returns-then-a-lt-EQUAL c = grind (arith, common_steps)

pub returns : goal.returns
unfolding laid_out laid item_of paired same_list
returns c = grind (arith, common_steps)

use Rattle.plan_text.proofs.Anew.{digit_there}
use mathlib.Core.Path.{◌≡◌}
use lib.ListN.{get_or}
use borrow.Author.Rules.{rules}
use Rattle.plan_text.proofs.digit.Goals as goal

pub returns : goal.returns
returns c = let e : c.unwrap_or.result ≡ get_or c.args.text.now c.args.i 0 = search rules in digit_there _ _ _ (rw e at c.value.ensures)

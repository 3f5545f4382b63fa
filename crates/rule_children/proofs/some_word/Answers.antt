use native.Mathlib.Omega.{arith}
use Rattle.rule_children.proofs.WordLaws.{spelt_some}
use Rattle.rule_children.proofs.some_word.Goals as goal

pub returns : goal.returns
returns c = spelt_some c.args.s _ (omega arith)

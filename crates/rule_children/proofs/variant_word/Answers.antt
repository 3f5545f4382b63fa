use native.Mathlib.Omega.{arith}
use Rattle.rule_children.proofs.WordLaws.{spelt_variant}
use Rattle.rule_children.proofs.variant_word.Goals as goal

pub returns : goal.returns
returns c = spelt_variant c.args.s c.args.v c.args.f _ (omega arith) (omega arith) (omega arith)

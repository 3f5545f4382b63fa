use native.Mathlib.Omega.{arith}
use Rattle.rule_children.proofs.WordLaws.{spelt_struct}
use Rattle.rule_children.proofs.struct_word.Goals as goal

pub returns : goal.returns
returns c = spelt_struct c.args.s c.args.f _ (omega arith) (omega arith)

use Rattle.rule_children.proofs.NextLaws.{begins_as, begins_lone, by_bytes}
use native.Mathlib.Omega.{arith}
use Rattle.rule_children.proofs.beginning.Goals as goal

pub returns-in-Variant : goal.returns-in-Variant
returns-in-Variant c = begins_as c.args.s c.args.c _ _ c.in-Variant.is (by_bytes _ _ _ _ _ (omega arith) c.to_be_bytes.ensures c.quad.ensures)

pub returns-in-Struct : goal.returns-in-Struct
returns-in-Struct c = begins_as c.args.s c.args.c _ _ c.in-Struct.is (by_bytes _ _ _ _ _ (omega arith) c.to_be_bytes.ensures c.quad-in-Struct.ensures)

pub returns-in-ConstBool : goal.returns-in-ConstBool
returns-in-ConstBool c = begins_lone c.args.s c.args.c _ c.in-ConstBool.is (by_bytes _ _ _ _ _ (omega arith) c.to_be_bytes.ensures c.quad-in-ConstBool.ensures)

use native.Mathlib.Omega.{arith}
use Rattle.rule_children.proofs.WordLaws.{source_variant, source_struct, source_some, source_none}
use Rattle.rule_children.proofs.source_of.Goals as goal

pub returns-in-8 : goal.returns-in-8
returns-in-8 c = source_variant c.args.w c.in-8.is

pub returns-in-10 : goal.returns-in-10
returns-in-10 c = source_struct c.args.w c.in-10.is

pub returns-in-12 : goal.returns-in-12
returns-in-12 c = source_some c.args.w c.in-12.is

pub returns-in_default : goal.returns-in_default
returns-in_default c = source_none c.args.w (λ e. omega arith) (λ e. omega arith) (λ e. omega arith)

use Rattle.plan_text.proofs.Anew.{value_below, value_low, value_between, value_high, value_above}
use native.Mathlib.Omega.{arith}
use Rattle.plan_text.proofs.value.Goals as goal

pub returns-in-48-to-57 : goal.returns-in-48-to-57
returns-in-48-to-57 c = value_low _ _ (omega arith) (omega arith) c.from.ensures

pub returns-in-65-to-70 : goal.returns-in-65-to-70
returns-in-65-to-70 c = value_high _ _ (omega arith) (omega arith) c.from-in-65-to-70.ensures

pub returns-in_default : goal.returns-in_default
returns-in_default c = value_below _ (omega arith)

pub returns-in_default-2 : goal.returns-in_default-2
returns-in_default-2 c = value_between _ (omega arith) (omega arith)

pub returns-in_default-3 : goal.returns-in_default-3
returns-in_default-3 c = value_above _ (omega arith)

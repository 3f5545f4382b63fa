-- `rule_load::load` meets its contract. Assumes nothing.
use native.Mathlib.Omega.{arith}
use Rattle.rule_load.proofs.Holding.{hold_same}
use Rattle.rule_load.proofs.Keeping.{answers_same}
use Rattle.rule_load.proofs.Parting.{same_loading}
use Rattle.rule_load.proofs.load.Goals as goal

pub hold-requires : goal.hold-requires
hold-requires c = omega arith

pub returns : goal.returns
returns c = let whole = answers_same _ _ _ _ _ _ _ _ _ (same_loading _ _ _ _ c.args.rule _ (hold_same c.args.rule _ c.hold.ensures)) (c.load_handed.ensures.value, (c.load_handed.ensures.m_after, c.load_handed.ensures.lent_words)) in record { value = whole.0; m_after = whole.1.0; lent_words = whole.1.1 }

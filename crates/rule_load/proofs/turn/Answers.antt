-- `rule_load::turn` meets its contract. Assumes nothing.
use mathlib.Core.Path.{refl}
use Rattle.rule_rounds.proofs.RoundWhole.{turned_told}
use Rattle.rule_load.proofs.turn.Goals as goal

pub unwrap-requires : goal.unwrap-requires
unwrap-requires c = let x = c.rounds.ensures.laid c.requires in rw x.1 refl

pub returns : goal.returns
returns c = turned_told _ _ _ _ _ _ _ c.rounds.ensures c.requires _ c.unwrap.ensures

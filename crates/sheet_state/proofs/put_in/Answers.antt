-- `sheet_state::put_in` meets its contract. Assumes nothing.
use Rattle.sheet_state.proofs.Reading.{all_put}
use Rattle.sheet_state.proofs.Small.{small_state}
use Rattle.sheet_state.proofs.put_in.Goals as goal

pub returns-clause-state_after : goal.returns-clause-state_after
returns-clause-state_after c = (all_put _ _ _ _ c.args.s c.requires c.put_words.ensures c.put_bytes.ensures (small_state c.args.s _ c.well_formed.1.1.0.1.1.0 c.well_formed.1.1.0.1.1.1.0.1.1.1.0.1.0.1)).0

pub returns-clause-held_after : goal.returns-clause-held_after
returns-clause-held_after c = (all_put _ _ _ _ c.args.s c.requires c.put_words.ensures c.put_bytes.ensures (small_state c.args.s _ c.well_formed.1.1.0.1.1.0 c.well_formed.1.1.0.1.1.1.0.1.1.1.0.1.0.1)).1.0

pub returns-clause-held_after_2 : goal.returns-clause-held_after_2
returns-clause-held_after_2 c = (all_put _ _ _ _ c.args.s c.requires c.put_words.ensures c.put_bytes.ensures (small_state c.args.s _ c.well_formed.1.1.0.1.1.0 c.well_formed.1.1.0.1.1.1.0.1.1.1.0.1.0.1)).1.1

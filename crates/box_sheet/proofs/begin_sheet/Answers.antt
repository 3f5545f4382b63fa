-- `box_sheet::begin_sheet` meets its contract. Assumes nothing.
use mathlib.Core.Path.{sym, ◌∙◌}
use Rattle.box_sheet.proofs.Feeding.{begin_short, begin_done}
use Rattle.sheet_state.proofs.Reading.{put_there}
use Rattle.box_sheet.proofs.begin_sheet.Goals as goal

pub returns-then-not-keeps : goal.returns-then-not-keeps
returns-then-not-keeps c = let whole = begin_short _ _ _ _ _ _ _ (sym c.keeps.ensures ∙ c.if-not-keeps.true) in record { value = whole.0; state_after = whole.1.0; held_after = whole.1.1.0; table_after = whole.1.1.1 }

pub returns : goal.returns
returns c = let whole = begin_done _ _ _ _ _ _ _ _ (sym c.keeps.ensures ∙ c.if-not-keeps.false) c.begin-s.ensures (put_there _ _ _ _ _ _ (sym c.keeps.ensures ∙ c.if-not-keeps.false) (c.put_state.ensures.state_after, (c.put_state.ensures.held_after, c.put_state.ensures.held_after_2))) in record { value = whole.0; state_after = whole.1.0; held_after = whole.1.1.0; table_after = whole.1.1.1 }

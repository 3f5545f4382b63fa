-- `box_sheet::feed_piece` meets its contract. Assumes nothing.
use mathlib.Core.Path.{refl, sym, ◌∙◌}
use Rattle.box_answers.proofs.Crossing.{first_no, second_no, both_yes, done_as}
use Rattle.box_sheet.proofs.Leaving.{piece_short, piece_there}
use Rattle.box_sheet.proofs.Feeding.{writes_long, said_there, feed_short, fed_there, feed_says}
use Rattle.sheet_state.proofs.Reading.{put_there}
use Rattle.box_sheet.proofs.feed_piece.Goals as goal

pub returns-then-not-keeps-clause-result_after : goal.returns-then-not-keeps-clause-result_after
returns-then-not-keeps-clause-result_after c = piece_short _ _ _ _ _ _ (first_no _ _ (sym c.keeps.ensures ∙ c.if-not-keeps.true))

pub returns-then-not-keeps-clause-fact : goal.returns-then-not-keeps-clause-fact
returns-then-not-keeps-clause-fact c = feed_short _ _ _ _ _ _ _ (first_no _ _ (sym c.keeps.ensures ∙ c.if-not-keeps.true))

pub returns-then-not-lends-clause-result_after : goal.returns-then-not-lends-clause-result_after
returns-then-not-lends-clause-result_after c = piece_short _ _ _ _ _ _ (second_no _ _ (sym c.keeps.ensures ∙ c.if-not-keeps.false) (first_no _ _ (sym c.lends.ensures ∙ c.if-not-lends.true)))

pub returns-then-not-lends-clause-fact : goal.returns-then-not-lends-clause-fact
returns-then-not-lends-clause-fact c = feed_short _ _ _ _ _ _ _ (second_no _ _ (sym c.keeps.ensures ∙ c.if-not-keeps.false) (first_no _ _ (sym c.lends.ensures ∙ c.if-not-lends.true)))

pub returns-then-not-writes-clause-result_after : goal.returns-then-not-writes-clause-result_after
returns-then-not-writes-clause-result_after c = piece_short _ _ _ _ _ _ (second_no _ _ (sym c.keeps.ensures ∙ c.if-not-keeps.false) (second_no _ _ (sym c.lends.ensures ∙ c.if-not-lends.false) (sym c.writes.ensures ∙ c.if-not-writes.true)))

pub returns-then-not-writes-clause-fact : goal.returns-then-not-writes-clause-fact
returns-then-not-writes-clause-fact c = feed_short _ _ _ _ _ _ _ (second_no _ _ (sym c.keeps.ensures ∙ c.if-not-keeps.false) (second_no _ _ (sym c.lends.ensures ∙ c.if-not-lends.false) (sym c.writes.ensures ∙ c.if-not-writes.true)))

pub returns-clause-result_after : goal.returns-clause-result_after
returns-clause-result_after c = piece_there _ _ _ _ _ _ (both_yes _ _ (sym c.keeps.ensures ∙ c.if-not-keeps.false) (both_yes _ _ (sym c.lends.ensures ∙ c.if-not-lends.false) (sym c.writes.ensures ∙ c.if-not-writes.false))) _ c.state_in-s.ensures _ _ _ c.feed-f.ensures.room_after _ _ (put_there _ _ _ _ _ _ (sym c.keeps.ensures ∙ c.if-not-keeps.false) (c.put_state.ensures.state_after, (c.put_state.ensures.held_after, c.put_state.ensures.held_after_2))) _ c.counted-read.ensures _ (said_there _ _ _ _ (writes_long _ _ _ (sym c.writes.ensures ∙ c.if-not-writes.false)).1 c.say.ensures (done_as _ _ _ _ _ c.done.ensures refl refl))

pub returns-clause-fact : goal.returns-clause-fact
returns-clause-fact c = feed_says _ _ _ _ _ _ _ _ _ _ _ _ _ _ _ (both_yes _ _ (sym c.keeps.ensures ∙ c.if-not-keeps.false) (both_yes _ _ (sym c.lends.ensures ∙ c.if-not-lends.false) (sym c.writes.ensures ∙ c.if-not-writes.false))) (writes_long _ _ _ (sym c.writes.ensures ∙ c.if-not-writes.false)).1 (fed_there _ _ _ _ _ _ _ _ _ _ _ _ _ c.state_in-s.ensures (c.feed-f.ensures.read_in_bounds, (c.feed-f.ensures.fact, c.feed-f.ensures.pauses)) (writes_long _ _ _ (sym c.writes.ensures ∙ c.if-not-writes.false)).0 (put_there _ _ _ _ _ _ (sym c.keeps.ensures ∙ c.if-not-keeps.false) (c.put_state.ensures.state_after, (c.put_state.ensures.held_after, c.put_state.ensures.held_after_2))) _ c.counted-read.ensures) (said_there _ _ _ _ (writes_long _ _ _ (sym c.writes.ensures ∙ c.if-not-writes.false)).1 c.say.ensures (done_as _ _ _ _ _ c.done.ensures refl refl))

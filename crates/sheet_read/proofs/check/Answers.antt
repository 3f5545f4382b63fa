use Rattle.sheet_read.proofs.Sheeted.{check_left, check_ends}
use Rattle.sheet_read.proofs.check.Goals as goal

pub returns-then-is_left-clause-checks : goal.returns-then-is_left-clause-checks
returns-then-is_left-clause-checks c = check_left _ _ _ _ _ _ c.if-m-lt-SITES_ROOM.false c.if-words-lt-KEPT_ROOM.false c.if-items-lt-ITEMS_ROOM.false _ c.begin-s.ensures _ _ _ _ _ (c.feed-f.ensures.read_in_bounds, (c.feed-f.ensures.fact, c.feed-f.ensures.pauses)) c.feed-f.auto.room _ c.is_left.ensures c.if-is_left.true

pub returns-clause-checks : goal.returns-clause-checks
returns-clause-checks c = check_ends _ _ _ _ _ _ c.if-m-lt-SITES_ROOM.false c.if-words-lt-KEPT_ROOM.false c.if-items-lt-ITEMS_ROOM.false _ c.begin-s.ensures _ _ _ _ _ (c.feed-f.ensures.read_in_bounds, (c.feed-f.ensures.fact, c.feed-f.ensures.pauses)) c.feed-f.auto.room _ c.is_left.ensures c.if-is_left.false _ _ c.end.ensures.by_index _ c.ok_or.ensures.value

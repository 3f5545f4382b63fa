use Rattle.sheet_read.proofs.Leaving.{onto_none, onto_turn, onto_done, goes_yes, goes_not, goes_past}
use Rattle.sheet_read.proofs.Feeding.{fedto_none, fedto_turn}
use Rattle.sheet_read.proofs.feed.Goals as goal

pub loop-fed-init : goal.loop-fed-init
loop-fed-init c = (fedto_none _ _ _ _ _, onto_none _ _ _ _ _)

pub loop-fed-preserved : goal.loop-fed-preserved
loop-fed-preserved c = (fedto_turn _ _ _ _ _ _ _ _ _ _ _ _ _ _ _ c.loop-fed.auto.room c.loop-fed.invariant.0 c.feed_line-fed.ensures.from_lt_read c.feed_line-fed.ensures.fact, onto_turn _ _ _ c.loop-fed.invariant.1 c.loop-fed-test.true (goes_yes _ _ _ _ _ _ c.loop-fed-test.true _ c.pauses.ensures c.if-not-pauses.true) _ c.feed_line-fed.ensures.room_after c.feed_line-fed.ensures.from_lt_read.0)

pub returns-else-not-pauses-clause-room_after : goal.returns-else-not-pauses-clause-room_after
returns-else-not-pauses-clause-room_after c = onto_done _ _ _ c.loop-fed.invariant.1 (goes_not _ _ _ _ _ _ _ c.pauses.ensures c.if-not-pauses.false)

pub returns-after-loop-fed-clause-room_after : goal.returns-after-loop-fed-clause-room_after
returns-after-loop-fed-clause-room_after c = onto_done _ _ _ c.loop-fed.invariant.1 (goes_past _ _ _ _ _ _ c.loop-fed-test.false)

use mathlib.Core.List.{[]}
use native.Mathlib.Omega.{arith}
use Rattle.sheet_reader.proofs.Acts.{stop_stops}
use Rattle.sheet_step.proofs.Leaving.{leaves_late, leaves_frame}
use Rattle.sheet_step.proofs.Lined.{step_late, step_wrong, step_begin, step_rule, step_item, step_end, step_site, prefix_fits, prefix_long}
use Rattle.sheet_step.proofs.take_line.Goals as goal

pub returns-then-line-gt-LAST_LINE-clause-room_after : goal.returns-then-line-gt-LAST_LINE-clause-room_after
returns-then-line-gt-LAST_LINE-clause-room_after c = leaves_late c.args.r _ _ _ _ _ _ _ c.if-line-gt-LAST_LINE.true (c.stop.ensures _)

pub returns-then-line-gt-LAST_LINE-clause-fact : goal.returns-then-line-gt-LAST_LINE-clause-fact
returns-then-line-gt-LAST_LINE-clause-fact c = step_late c.args.r _ _ _ _ _ _ (omega arith) (stop_stops _ _ _ _ _ _ c.requires c.stop.ensures) c.if-line-gt-LAST_LINE.true

pub slice_bounds-site_line-end : goal.slice_bounds-site_line-end
slice_bounds-site_line-end c = prefix_long _ _ c.read_line-got.ensures

pub returns-in-Begin-clause-room_after : goal.returns-in-Begin-clause-room_after
returns-in-Begin-clause-room_after c = leaves_frame c.args.r _ _ _ _ _ _ _ c.if-line-gt-LAST_LINE.false _ c.read_line-got.ensures.0 _ c.in-Begin.is (c.begin_frame.ensures.room_after _)

pub returns-in-Begin-clause-fact : goal.returns-in-Begin-clause-fact
returns-in-Begin-clause-fact c = step_begin c.args.r _ _ _ _ [] _ _ _ _ _ (omega arith) c.if-line-gt-LAST_LINE.false _ c.read_line-got.ensures.0 _ _ c.in-Begin.is (c.begin_frame.ensures.acts (c.requires, c.if-line-gt-LAST_LINE.false))

pub returns-in-Site-clause-room_after : goal.returns-in-Site-clause-room_after
returns-in-Site-clause-room_after c = leaves_frame c.args.r _ _ _ _ _ _ _ c.if-line-gt-LAST_LINE.false _ c.read_line-got.ensures.0 _ c.in-Site.is (c.site_line.ensures.by_index _ _ _)

pub returns-in-Site-clause-fact : goal.returns-in-Site-clause-fact
returns-in-Site-clause-fact c = step_site c.args.r _ _ _ _ _ _ _ _ _ _ (omega arith) c.if-line-gt-LAST_LINE.false _ c.read_line-got.ensures.0 (prefix_fits _ _ c.read_line-got.ensures) c.in-Site.is (c.site_line.ensures.acts (c.requires, c.if-line-gt-LAST_LINE.false))

pub returns-in-Rule-clause-room_after : goal.returns-in-Rule-clause-room_after
returns-in-Rule-clause-room_after c = leaves_frame c.args.r _ _ _ _ _ _ _ c.if-line-gt-LAST_LINE.false _ c.read_line-got.ensures.0 _ c.in-Rule.is (c.rule_frame.ensures.room_after _)

pub returns-in-Rule-clause-fact : goal.returns-in-Rule-clause-fact
returns-in-Rule-clause-fact c = step_rule c.args.r _ _ _ _ _ _ _ _ _ _ (omega arith) c.if-line-gt-LAST_LINE.false _ c.read_line-got.ensures.0 _ _ _ _ c.in-Rule.is (c.rule_frame.ensures.acts (c.requires, c.if-line-gt-LAST_LINE.false))

pub returns-in-Item-clause-room_after : goal.returns-in-Item-clause-room_after
returns-in-Item-clause-room_after c = leaves_frame c.args.r _ _ _ _ _ _ _ c.if-line-gt-LAST_LINE.false _ c.read_line-got.ensures.0 _ c.in-Item.is (c.item_frame.ensures.room_after _)

pub returns-in-Item-clause-fact : goal.returns-in-Item-clause-fact
returns-in-Item-clause-fact c = step_item c.args.r _ _ _ _ _ _ _ _ _ _ (omega arith) c.if-line-gt-LAST_LINE.false _ c.read_line-got.ensures.0 _ _ _ c.in-Item.is (c.item_frame.ensures.acts (c.requires, c.if-line-gt-LAST_LINE.false))

pub returns-in-End-clause-room_after : goal.returns-in-End-clause-room_after
returns-in-End-clause-room_after c = leaves_frame c.args.r _ _ _ _ _ _ _ c.if-line-gt-LAST_LINE.false _ c.read_line-got.ensures.0 _ c.in-End.is (c.end_frame.ensures.by_index _)

pub returns-in-End-clause-fact : goal.returns-in-End-clause-fact
returns-in-End-clause-fact c = step_end c.args.r _ _ _ _ [] _ _ _ _ _ (omega arith) c.if-line-gt-LAST_LINE.false _ c.read_line-got.ensures.0 _ c.in-End.is c.end_frame.ensures.by_index_2

pub returns-in-Wrong-clause-room_after : goal.returns-in-Wrong-clause-room_after
returns-in-Wrong-clause-room_after c = leaves_frame c.args.r _ _ _ _ _ _ _ c.if-line-gt-LAST_LINE.false _ c.read_line-got.ensures.0 _ c.in-Wrong.is (c.stop-in-Wrong.ensures _)

pub returns-in-Wrong-clause-fact : goal.returns-in-Wrong-clause-fact
returns-in-Wrong-clause-fact c = step_wrong c.args.r _ _ _ _ _ _ (omega arith) (stop_stops _ _ _ _ _ _ c.requires c.stop-in-Wrong.ensures) _ c.read_line-got.ensures.0 c.in-Wrong.is c.if-line-gt-LAST_LINE.false

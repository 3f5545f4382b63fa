-- `rule_classes::seat` meets its contract. Assumes nothing.
use Rattle.rule_rows.specs.Holding.{bare}
use Rattle.rule_classes.proofs.Seating.{in_range, seat_new, seat_like, seat_unlike}
use mathlib.Core.Path.{◌≡◌}
use lib.ListN.{get_or}
use Rattle.rule_classes.proofs.seat.Goals as goal

pub bounds-boss-root : goal.bounds-boss-root
bounds-boss-root c = in_range (bare c.args.sites.now c.args.rows.now c.args.words.now) c.args.p.now c.requires.reps c.requires.h_lt_max_sites.1 c.args.boss.now c.args.h c.requires.h_lt_max_sites.0 c.requires.seated _ _ _ _ c.from-k.ensures c.at-s.ensures c.rep_in.ensures c.from-root.ensures

pub bounds-boss-root-then-b-ge-NEVER : goal.bounds-boss-root-then-b-ge-NEVER
bounds-boss-root-then-b-ge-NEVER c = in_range (bare c.args.sites.now c.args.rows.now c.args.words.now) c.args.p.now c.requires.reps c.requires.h_lt_max_sites.1 c.args.boss.now c.args.h c.requires.h_lt_max_sites.0 c.requires.seated _ _ _ _ c.from-k.ensures c.at-s.ensures c.rep_in.ensures c.from-root.ensures

pub returns-then-b-ge-NEVER : goal.returns-then-b-ge-NEVER
returns-then-b-ge-NEVER c = record { fact = λ _. seat_new (bare c.args.sites.now c.args.rows.now c.args.words.now) c.args.p.now c.requires.reps c.requires.h_lt_max_sites.1 c.args.boss.now c.args.h c.requires.h_lt_max_sites.0 c.requires.seated _ _ _ _ c.from-k.ensures c.at-s.ensures c.rep_in.ensures c.from-root.ensures c.if-b-ge-NEVER.true; unlike = λ b e. cc }

pub returns-then-alike : goal.returns-then-alike
returns-then-alike c = record { fact = λ _. seat_like (bare c.args.sites.now c.args.rows.now c.args.words.now) c.args.p.now c.requires.reps c.requires.h_lt_max_sites.1 c.args.boss.now c.args.h c.requires.h_lt_max_sites.0 c.requires.seated _ _ _ _ c.from-k.ensures c.at-s.ensures c.rep_in.ensures c.from-root.ensures c.if-b-ge-NEVER.false _ _ _ _ c.at-i.ensures c.from.ensures c.at-j.ensures c.alike.ensures c.if-alike.true; unlike = λ b e. cc }

pub returns : goal.returns
returns c = record { fact = λ e. cc; unlike = λ b e. let q : get_or c.args.boss.now c.from-root.result 0 ≡ b = cc in rw (← q) (seat_unlike (bare c.args.sites.now c.args.rows.now c.args.words.now) c.args.p.now c.requires.reps c.requires.h_lt_max_sites.1 c.args.boss.now c.args.h c.requires.h_lt_max_sites.0 c.requires.seated _ _ _ _ c.from-k.ensures c.at-s.ensures c.rep_in.ensures c.from-root.ensures c.if-b-ge-NEVER.false _ _ _ _ c.at-i.ensures c.from.ensures c.at-j.ensures c.alike.ensures c.if-alike.false) }

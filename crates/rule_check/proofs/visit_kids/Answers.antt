-- `rule_check::visit_kids` meets its contract. Assumes nothing.
use native.Mathlib.Omega.{arith}
use mathlib.Core.Path.{◌≡◌}
use Rattle.rule_rows.specs.Holding.{chart}
use Rattle.rule_check.proofs.Searching.{children_none, extends_self, no_marks, few_fields, root_site, has_room, children_step, children_done}
use Rattle.rule_check.proofs.visit_kids.Goals as goal

pub offset_bounds-boss-from : goal.offset_bounds-boss-from
offset_bounds-boss-from c = omega (arith, c.from.ensures, c.requires.x_lt_max_sites.0)

pub bounds-boss-from : goal.bounds-boss-from
bounds-boss-from c = omega (arith, c.from.ensures, c.requires.x_lt_max_sites.0)

pub returns-then-b-ge-NEVER-clause-fact : goal.returns-then-b-ge-NEVER-clause-fact
returns-then-b-ge-NEVER-clause-fact c = c.requires.visited

pub returns-then-b-ge-NEVER-clause-extends : goal.returns-then-b-ge-NEVER-clause-extends
returns-then-b-ge-NEVER-clause-extends c = extends_self _ _ _

pub returns-then-b-ge-NEVER-clause-marks : goal.returns-then-b-ge-NEVER-clause-marks
returns-then-b-ge-NEVER-clause-marks c = no_marks (chart c.args.rows.now c.args.words.now c.args.kids.now) c.args.p.now c.args.boss.now c.args.seen.now c.args.x (rw c.from.ensures at c.if-b-ge-NEVER.true)

pub loop-f-init : goal.loop-f-init
loop-f-init c = (omega arith, children_none _ _ _ _ _ _ _ _ c.requires.visited)

pub kid-k-requires : goal.kid-k-requires
kid-k-requires c = let h = few_fields c.args.rows.now c.args.words.now c.args.kids.now c.args.p.now c.args.boss.now c.requires.ready c.args.x c.requires.x_lt_max_sites.0 _ _ _ c.from.ensures c.if-b-ge-NEVER.false c.from-2.ensures c.at-i.ensures _ c.fields-m.ensures in let t = c.loop-f-test.true in omega arith

pub visit-t-requires : goal.visit-t-requires
visit-t-requires c = let h = root_site c.args.rows.now c.args.words.now c.args.kids.now c.args.p.now c.args.boss.now c.requires.ready c.args.x c.requires.x_lt_max_sites.0 _ _ _ c.from.ensures c.if-b-ge-NEVER.false c.from-2.ensures c.at-i.ensures _ c.fields-m.ensures _ _ _ c.kid-k.ensures c.rep_in-z.ensures in
    (h, has_room _ _ _ _ _ _ _ c.loop-f.invariant.1.visited _ h)

pub loop-f-preserved : goal.loop-f-preserved
loop-f-preserved c = let t = c.loop-f-test.true in
    (omega arith, children_step c.args.rows.now c.args.words.now c.args.kids.now c.args.p.now c.args.boss.now c.requires.ready c.args.x c.requires.x_lt_max_sites.0 _ _ _ c.from.ensures c.if-b-ge-NEVER.false c.from-2.ensures c.at-i.ensures _ c.fields-m.ensures _ _ _ c.kid-k.ensures c.rep_in-z.ensures _ _ _ _ _ _ _ _ _ _ c.requires.x_lt_max_sites.1 t c.loop-f.invariant.1 c.visit-t.ensures)

pub returns : goal.returns
returns c = let whole = let e : c.loop-f.f ≡ c.fields-m.result = let h = c.loop-f.invariant.0 in let t = c.loop-f-test.false in omega arith in
    children_done c.args.rows.now c.args.words.now c.args.kids.now c.args.p.now c.args.boss.now c.requires.ready c.args.x c.requires.x_lt_max_sites.0 _ _ _ c.from.ensures c.if-b-ge-NEVER.false c.from-2.ensures c.at-i.ensures _ c.fields-m.ensures _ _ _ _ _ _ _ _ e c.loop-f.invariant.1 in record { fact = whole.0; extends = whole.1.0; marks = whole.1.1 }

-- `rule_check::returning` meets its contract. Assumes nothing.
use native.Mathlib.Omega.{arith}
use mathlib.Core.Path.{refl}
use mathlib.Core.Logic.{inl, inr}
use Rattle.rule_rows.specs.Holding.{chart}
use Rattle.rule_check.proofs.Searching.{visited_none, visited_listed, tail_le, search_start, search_step, search_told, no_holder}
use Rattle.rule_check.proofs.returning.Goals as goal

pub offset_bounds-boss-from : goal.offset_bounds-boss-from
offset_bounds-boss-from c = omega (arith, c.from.ensures, c.requires.l_lt_max_sites)

pub bounds-boss-from : goal.bounds-boss-from
bounds-boss-from c = omega (arith, c.from.ensures, c.requires.l_lt_max_sites)

pub returns-then-boss-from-ge-NEVER-clause-fact : goal.returns-then-boss-from-ge-NEVER-clause-fact
returns-then-boss-from-ge-NEVER-clause-fact c = no_holder (chart c.args.rows.now c.args.words.now c.args.kids.now) _ _ _ _ c.from.ensures c.if-boss-from-ge-NEVER.true

pub returns-then-boss-from-ge-NEVER-clause-fresh_2 : goal.returns-then-boss-from-ge-NEVER-clause-fresh_2
returns-then-boss-from-ge-NEVER-clause-fresh_2 c = c.requires.fresh

pub visit_kids-tail-requires-clause-ready : goal.visit_kids-tail-requires-clause-ready
visit_kids-tail-requires-clause-ready c = c.requires.ready

pub visit_kids-tail-requires-clause-visited : goal.visit_kids-tail-requires-clause-visited
visit_kids-tail-requires-clause-visited c = visited_none _ _ _ _ _ _ c.requires.fresh

pub visit_kids-tail-requires-clause-x_lt_max_sites : goal.visit_kids-tail-requires-clause-x_lt_max_sites
visit_kids-tail-requires-clause-x_lt_max_sites c = (c.requires.l_lt_max_sites, inl refl)

pub loop-head-init : goal.loop-head-init
loop-head-init c = search_start _ _ _ _ _ _ _ c.visit_kids-tail.ensures.fact c.visit_kids-tail.ensures.marks

pub offset_bounds-queue-head : goal.offset_bounds-queue-head
offset_bounds-queue-head c = let h = tail_le _ _ _ _ _ _ _ c.loop-head.invariant.visited in let t = c.loop-head-test.true in omega arith

pub bounds-queue-head : goal.bounds-queue-head
bounds-queue-head c = let h = tail_le _ _ _ _ _ _ _ c.loop-head.invariant.visited in let t = c.loop-head-test.true in omega arith

pub visit_kids-tail-requires-in-loop-head : goal.visit_kids-tail-requires-in-loop-head
visit_kids-tail-requires-in-loop-head c = let l = c.loop-head in
    let t = c.loop-head-test.true in
    record { ready = c.requires.ready; visited = l.invariant.visited; x_lt_max_sites = (l.invariant.visited.sites l.head t, inr (l.invariant.visited.sound l.head t)) }

pub overflow_add-head : goal.overflow_add-head
overflow_add-head c = let h = tail_le _ _ _ _ _ _ _ c.loop-head.invariant.visited in let t = c.loop-head-test.true in omega arith

pub loop-head-smaller : goal.loop-head-smaller
loop-head-smaller c = let h = tail_le _ _ _ _ _ _ _ c.loop-head.invariant.visited in let t = c.loop-head-test.true in omega arith

pub loop-head-preserved : goal.loop-head-preserved
loop-head-preserved c = search_step _ _ _ _ _ _ _ _ _ _ _ c.loop-head.invariant c.loop-head-test.true c.visit_kids-tail-in-loop-head.ensures.fact c.visit_kids-tail-in-loop-head.ensures.extends c.visit_kids-tail-in-loop-head.ensures.marks

pub bounds-seen-from : goal.bounds-seen-from
bounds-seen-from c = omega (arith, c.from-2.ensures, c.requires.l_lt_max_sites)

pub wipe-requires : goal.wipe-requires
wipe-requires c = visited_listed (chart c.args.rows.now c.args.words.now c.args.kids.now) _ _ _ _ _ _ c.loop-head.invariant.visited

pub returns : goal.returns
returns c = let t = c.loop-head-test.false in
    let w = c.loop-head.invariant.within in
    record { fact = search_told (chart c.args.rows.now c.args.words.now c.args.kids.now) _ _ _ c.requires.ready _ _ _ _ _ c.loop-head.invariant (omega arith) c.requires.l_lt_max_sites c.from-2.ensures; fresh_2 = c.wipe.ensures }

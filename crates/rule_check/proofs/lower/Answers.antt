-- `rule_check::lower` meets its contract. Assumes nothing.
use native.Mathlib.Omega.{arith}
use Rattle.rule_rows.specs.Holding.{chart}
use Rattle.rule_check.proofs.Naming.{root_inside, searched_on, searched_calm, lower_zero, lower_above, lower_not, lower_calm, lower_back}
use Rattle.rule_check.proofs.lower.Goals.{then-z-eq0-via-then-z-eq0, then-z-eq0-via-else-z-eq0+then-best-z}
use Rattle.rule_check.proofs.lower.Goals as goal

pub returns-then-z-eq0-clause-fact : goal.returns-then-z-eq0-clause-fact
returns-then-z-eq0-clause-fact c = c.requires.searched

pub returns-then-z-eq0-clause-lower : goal.returns-then-z-eq0-clause-lower
returns-then-z-eq0-clause-lower c = elim c.then-z-eq0.branch [ then-z-eq0-via-then-z-eq0 w ↦ (lower_zero (chart c.args.rows.now c.args.words.now c.args.kids.now) _ _ _ _ c.requires.told w.if-z-eq0.true) | then-z-eq0-via-else-z-eq0+then-best-z w ↦ (lower_above (chart c.args.rows.now c.args.words.now c.args.kids.now) _ _ _ _ c.requires.told w.if-best-z.true) ]

pub bounds-calm-i : goal.bounds-calm-i
bounds-calm-i c = let h = root_inside _ _ _ _ c.requires.ready _ _ c.requires.told _ c.rep_in-l.ensures c.if-best-z.false in let e = c.from-i.ensures in omega arith

pub returns-then-calm-i-ne0-clause-fact : goal.returns-then-calm-i-ne0-clause-fact
returns-then-calm-i-ne0-clause-fact c = c.requires.searched

pub returns-then-calm-i-ne0-clause-lower : goal.returns-then-calm-i-ne0-clause-lower
returns-then-calm-i-ne0-clause-lower c = lower_calm (chart c.args.rows.now c.args.words.now c.args.kids.now) _ _ _ _ c.requires.told _ c.rep_in-l.ensures _ _ _ _ c.requires.searched (root_inside _ _ _ _ c.requires.ready _ _ c.requires.told _ c.rep_in-l.ensures c.if-best-z.false) c.from-i.ensures c.if-calm-i-ne0.true

pub returning-requires-clause-ready : goal.returning-requires-clause-ready
returning-requires-clause-ready c = c.requires.ready

pub returning-requires-clause-l_lt_max_sites : goal.returning-requires-clause-l_lt_max_sites
returning-requires-clause-l_lt_max_sites c = root_inside _ _ _ _ c.requires.ready _ _ c.requires.told _ c.rep_in-l.ensures c.if-best-z.false

pub returning-requires-clause-fresh : goal.returning-requires-clause-fresh
returning-requires-clause-fresh c = c.requires.searched.fresh

pub returns-then-returning-clause-fact : goal.returns-then-returning-clause-fact
returns-then-returning-clause-fact c = searched_on (chart c.args.rows.now c.args.words.now c.args.kids.now) _ _ _ _ _ _ _ c.requires.searched c.returning.ensures.fresh_2

pub returns-then-returning-clause-lower : goal.returns-then-returning-clause-lower
returns-then-returning-clause-lower c = lower_back (chart c.args.rows.now c.args.words.now c.args.kids.now) _ _ _ _ c.requires.told _ c.rep_in-l.ensures c.if-best-z.false (c.returning.ensures.fact.0 c.if-returning.true)

pub bounds-calm-i-2 : goal.bounds-calm-i-2
bounds-calm-i-2 c = let h = root_inside _ _ _ _ c.requires.ready _ _ c.requires.told _ c.rep_in-l.ensures c.if-best-z.false in let e = c.from-i.ensures in omega arith

pub returns-clause-fact : goal.returns-clause-fact
returns-clause-fact c = searched_calm (chart c.args.rows.now c.args.words.now c.args.kids.now) _ _ _ _ _ _ _ _ _ c.from-i.ensures (c.returning.ensures.fact.1 c.if-returning.false) c.requires.searched c.returning.ensures.fresh_2

pub returns-clause-lower : goal.returns-clause-lower
returns-clause-lower c = lower_not (chart c.args.rows.now c.args.words.now c.args.kids.now) _ _ _ _ c.requires.told _ c.rep_in-l.ensures (c.returning.ensures.fact.1 c.if-returning.false)

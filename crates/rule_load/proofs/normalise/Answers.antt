-- `rule_load::normalise` meets its contract. Assumes nothing.
use mathlib.Core.Path.{refl, sym}
use native.Mathlib.Omega.{arith}
use lib.Seq.{length-take-le}
use Rattle.rule_load.proofs.Checking.{rounds_by, left_held, left_equal, left_proper, left_refuse, left_solved}
use Rattle.rule_rounds.proofs.Telling.{told_refused, told_up}
use Rattle.rule_load.proofs.normalise.Goals as goal

pub slice_bounds-check-end : goal.slice_bounds-check-end
slice_bounds-check-end c = sym (length-take-le _ _ (left_equal c.args.m.now c.args.n c.args.tail.now c.args.sites.now c.args.rows.now c.args.shapes.now c.args.kids.now c.args.eqs.now c.args.a c.args.equal.now c.args.low.now c.args.count c.requires.left.0 c.requires.left.1))

pub slice_bounds-check-end-2 : goal.slice_bounds-check-end-2
slice_bounds-check-end-2 c = omega (arith, left_held c.args.m.now c.args.n c.args.tail.now c.args.sites.now c.args.rows.now c.args.shapes.now c.args.kids.now c.args.eqs.now c.args.a c.args.equal.now c.args.low.now c.args.count c.requires.left.0 c.requires.left.1, c.requires.left.1.long_sites)

pub slice_bounds-check-end-3 : goal.slice_bounds-check-end-3
slice_bounds-check-end-3 c = sym (length-take-le _ _ (omega (arith, left_held c.args.m.now c.args.n c.args.tail.now c.args.sites.now c.args.rows.now c.args.shapes.now c.args.kids.now c.args.eqs.now c.args.a c.args.equal.now c.args.low.now c.args.count c.requires.left.0 c.requires.left.1, c.requires.left.1.long_sites)))

pub slice_bounds-check-end-4 : goal.slice_bounds-check-end-4
slice_bounds-check-end-4 c = omega (arith, left_held c.args.m.now c.args.n c.args.tail.now c.args.sites.now c.args.rows.now c.args.shapes.now c.args.kids.now c.args.eqs.now c.args.a c.args.equal.now c.args.low.now c.args.count c.requires.left.0 c.requires.left.1, c.requires.left.1.long_sites, c.requires.left.1.long_rows)

pub slice_bounds-check-end-5 : goal.slice_bounds-check-end-5
slice_bounds-check-end-5 c = sym (length-take-le _ _ (omega (arith, left_held c.args.m.now c.args.n c.args.tail.now c.args.sites.now c.args.rows.now c.args.shapes.now c.args.kids.now c.args.eqs.now c.args.a c.args.equal.now c.args.low.now c.args.count c.requires.left.0 c.requires.left.1, c.requires.left.1.long_sites, c.requires.left.1.long_rows)))

pub returns-in-Err : goal.returns-in-Err
returns-in-Err c = told_refused _ _ c.refuse.ensures (λ is L. rounds_by _ _ _ _ _ _ _ _ _ _ _ (left_refuse c.args.m.now c.args.n c.args.tail.now c.args.sites.now c.args.rows.now c.args.shapes.now c.args.kids.now c.args.eqs.now c.args.a c.args.equal.now c.args.low.now c.args.count is L _ _ c.check-v.ensures c.in-Err.is) c.refuse.ensures)

pub slice_bounds-turn-end : goal.slice_bounds-turn-end
slice_bounds-turn-end c = sym (length-take-le _ _ (left_equal c.args.m.now c.args.n c.args.tail.now c.args.sites.now c.args.rows.now c.args.shapes.now c.args.kids.now c.args.eqs.now c.args.a c.args.equal.now c.args.low.now c.args.count c.requires.left.0 c.requires.left.1))

pub turn-requires : goal.turn-requires
turn-requires c = record { proper = left_proper c.args.m.now c.args.n c.args.tail.now c.args.sites.now c.args.rows.now c.args.shapes.now c.args.kids.now c.args.eqs.now c.args.a c.args.equal.now c.args.low.now c.args.count c.requires.left.0 c.requires.left.1; long_joined = c.requires.sites_in_bounds.0; long_list = c.requires.sites_in_bounds.1 }

pub returns : goal.returns
returns c = told_up _ _ _ _ refl refl c.turn.ensures (λ E is L. rounds_by _ _ _ _ _ _ _ _ _ _ _ (left_solved c.args.m.now c.args.n c.args.tail.now c.args.sites.now c.args.rows.now c.args.shapes.now c.args.kids.now c.args.eqs.now c.args.a c.args.equal.now c.args.low.now c.args.count is L _ c.check-v.ensures c.in_default.is) (rw c.from.ensures at E))

-- `rule_load::solve` meets its contract. Assumes nothing.
use mathlib.Core.Path.{refl, ◌∙◌}
use Prim.Native.Nat.{◌*◌}
use native.Mathlib.Omega.{arith}
use lib.ListN.{replicate}
use Rattle.paper.specs.Numbers.{max_fields, max_items}
use Rattle.rule_load.proofs.Checking.{rounds_by, items_refuse, roomy_so, zeros_inside, left_so}
use Rattle.rule_rounds.proofs.Telling.{told_refused, told_up}
use Rattle.rule_load.proofs.solve.Goals as goal

pub returns-in-Err : goal.returns-in-Err
returns-in-Err c = told_refused _ _ c.refuse.ensures (rounds_by _ _ _ _ _ _ _ _ _ _ _ (items_refuse _ _ _ _ _ _ _ _ _ c.args.count _ _ _ _ (roomy_so c.args.tail.now c.args.sites.now c.args.rows.now c.args.shapes.now (replicate (max_fields * max_items) 0) (replicate (2 * max_items) 0) c.requires.lent.0 c.requires.lent.1.0 refl refl) c.load_items-a.ensures.told refl c.in-Err.is) c.refuse.ensures)

pub normalise-requires-clause-left : goal.normalise-requires-clause-left
normalise-requires-clause-left c = (_, left_so _ _ _ _ _ _ _ _ _ _ _ _ _ _ (roomy_so c.args.tail.now c.args.sites.now c.args.rows.now c.args.shapes.now (replicate (max_fields * max_items) 0) (replicate (2 * max_items) 0) c.requires.lent.0 c.requires.lent.1.0 refl refl) c.load_items-a.ensures.told c.in_default.is (c.load_items-a.ensures.inside (zeros_inside (max_fields * max_items))) _ _ _ c.requires.lent.0 c.load_items-a.ensures.long.tail_long c.load_items-a.ensures.long.sites_long c.load_items-a.ensures.long.rows_long c.requires.lent.1.1.0 c.requires.lent.1.1.1)

pub normalise-requires-clause-sites_in_bounds : goal.normalise-requires-clause-sites_in_bounds
normalise-requires-clause-sites_in_bounds c = (let a = c.load_items-a.ensures.long.sites_long in let b = c.requires.sites_in_bounds.0 in omega arith, c.requires.sites_in_bounds.1)

pub shape_of-tail : goal.shape_of-tail
shape_of-tail c = c.tail-2-1.given ∙ c.tail-1.given

pub shape_of-sites : goal.shape_of-sites
shape_of-sites c = c.sites-2-1.given ∙ c.sites-1.given

pub returns : goal.returns
returns c = told_up _ _ _ _ c.load_items-a.ensures.long.tail_long c.load_items-a.ensures.long.sites_long c.normalise.ensures (λ E. E _ (left_so _ _ _ _ _ _ _ _ _ _ _ _ _ _ (roomy_so c.args.tail.now c.args.sites.now c.args.rows.now c.args.shapes.now (replicate (max_fields * max_items) 0) (replicate (2 * max_items) 0) c.requires.lent.0 c.requires.lent.1.0 refl refl) c.load_items-a.ensures.told c.in_default.is (c.load_items-a.ensures.inside (zeros_inside (max_fields * max_items))) _ _ _ c.requires.lent.0 c.load_items-a.ensures.long.tail_long c.load_items-a.ensures.long.sites_long c.load_items-a.ensures.long.rows_long c.requires.lent.1.1.0 c.requires.lent.1.1.1))

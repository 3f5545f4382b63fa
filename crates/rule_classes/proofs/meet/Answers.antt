-- `rule_classes::meet` meets its contract. Assumes nothing.
use native.Mathlib.Omega.{arith}
use mathlib.Core.Path.{◌≡◌, refl, sym, ◌∙◌}
use borrow.Author.Count.{below_more}
use Rattle.rule_rows.specs.Holding.{held}
use Rattle.rule_rows.proofs.Reading.{few_kids}
use Rattle.rule_classes.proofs.Turning.{test_is, met, not_met}
use Rattle.rule_classes.proofs.meet.Goals as goal

pub loop-g-init : goal.loop-g-init
loop-g-init c = (omega arith, (refl, (c.requires.well, λ f l. absurd (omega arith))))

pub join_kids-requires-clause-well : goal.join_kids-requires-clause-well
join_kids-requires-clause-well c = c.loop-g.invariant.1.1.0

pub join_kids-requires-clause-inside : goal.join_kids-requires-clause-inside
join_kids-requires-clause-inside c = c.requires.inside

pub join_kids-requires-clause-m_le_max_fields : goal.join_kids-requires-clause-m_le_max_fields
join_kids-requires-clause-m_le_max_fields c = rw c.fields-m.ensures (few_kids _ _)

pub returns-then-mates : goal.returns-then-mates
returns-then-mates c = met (held c.args.sites.now c.args.rows.now c.args.words.now c.args.kids.now) _ _ c.loop-g.invariant.1.0 _ _ _ _ c.at-j.ensures c.at-s.ensures c.rep_in-b.ensures _ _ _ _ _ _ _ _ c.loop-g-test.true c.mates.ensures c.if-mates.true c.loop-g.invariant.1.1.1 c.at-i.ensures c.fields-m.ensures c.join_kids.ensures

pub loop-g-preserved : goal.loop-g-preserved
loop-g-preserved c = (omega arith, (c.loop-g.invariant.1.0, (c.loop-g.invariant.1.1.0, below_more _ _ c.loop-g.invariant.1.1.1 (sym (test_is (held c.args.sites.now c.args.rows.now c.args.words.now c.args.kids.now) _ _ c.loop-g.invariant.1.0 _ _ _ _ c.at-j.ensures c.at-s.ensures c.rep_in-b.ensures _ _ c.mates.ensures) ∙ c.if-mates.false))))

pub returns : goal.returns
returns c = let e : c.loop-g.g ≡ c.args.h = let h = c.loop-g.invariant.0 in let t = c.loop-g-test.false in omega arith in
    not_met (held c.args.sites.now c.args.rows.now c.args.words.now c.args.kids.now) _ _ c.loop-g.invariant.1.0 _ _ _ _ c.at-j.ensures c.at-s.ensures c.rep_in-b.ensures _ _ c.loop-g.invariant.1.1.0 (rw e at c.loop-g.invariant.1.1.1)

use mathlib.Core.Path.{sym, ◌∙◌}
use Rattle.overlap.proofs.WalkLaws.{walked_none, looking_start, looking_next, looking_end, looking_same, looking_no}
use Rattle.overlap.proofs.AnswerLaws.{same_here, answer_no, answer_part, answer_all}
use Rattle.overlap.proofs.compare_any.Goals as goal

pub walk-init : goal.walk-init
walk-init c = walked_none _ _ _

pub loop-y-init : goal.loop-y-init
loop-y-init c = looking_start _ _ _ _ _ _ _ c.walk-test.true c.walk.invariant c.site_at-site.ensures

pub returns-then-not-same_at : goal.returns-then-not-same_at
returns-then-not-same_at c = answer_no _ _ _ _ _ c.constrained-n.ensures.value c.constrained-m.ensures.value (looking_no _ _ _ _ _ _ _ _ c.loop-y.invariant _ c.site_at.ensures c.loop-y-test.true c.if-site_at-site.true (sym (same_here _ _ _ _ _ _ _ c.constrained_start.ensures.0 c.constrained_start-then-site_at-site.ensures.0 _ c.same_at.ensures) ∙ c.if-not-same_at.true))

pub walk-preserved-then-site_at-site : goal.walk-preserved-then-site_at-site
walk-preserved-then-site_at-site c = looking_same _ _ _ _ _ _ _ _ c.loop-y.invariant _ c.site_at.ensures c.loop-y-test.true c.if-site_at-site.true (sym (same_here _ _ _ _ _ _ _ c.constrained_start.ensures.0 c.constrained_start-then-site_at-site.ensures.0 _ c.same_at.ensures) ∙ c.if-not-same_at.false)

pub loop-y-preserved : goal.loop-y-preserved
loop-y-preserved c = looking_next _ _ _ _ _ _ _ _ c.loop-y.invariant _ c.site_at.ensures c.loop-y-test.true c.if-site_at-site.false

pub walk-preserved : goal.walk-preserved
walk-preserved c = looking_end _ _ _ _ _ _ _ _ c.loop-y.invariant c.loop-y-test.false

pub returns-then-all : goal.returns-then-all
returns-then-all c = answer_all _ _ _ _ _ c.constrained-n.ensures.value c.constrained-m.ensures.value _ _ c.walk-test.false c.walk.invariant c.if-all.true _ c.subset.ensures

pub returns : goal.returns
returns c = answer_part _ _ _ _ _ c.constrained-n.ensures.value c.constrained-m.ensures.value _ _ c.walk-test.false c.walk.invariant c.if-all.false

use mathlib.Core.Path.{◌≡◌, sym, ◌∙◌}
use Prim.Native.Nat.{◌+◌}
use Rattle.rule_words.specs.Stored.{constrained_word}
use native.Mathlib.Omega.{arith}
use Rattle.overlap.proofs.AnswerLaws.{answer_no}
use Rattle.overlap.proofs.BesideLaws.{told, beside_none, inner_start, inner_end, inner_missing, inner_pass, inner_same, inner_no, beside_ended}
use Rattle.overlap.proofs.walk_both.Goals as goal

pub walk-init : goal.walk-init
walk-init c = let e : constrained_word c.args.a 0 ≡ c.args.a + 4 = omega arith in rw e (beside_none _ _ _ _ _)

pub loop-q-init : goal.loop-q-init
loop-q-init c = inner_start _ _ _ _ _ _ _ _ _ c.walk.invariant (omega (arith, c.walk-test.true)) (c.behind.ensures c.if-behind.false)

pub returns-then-not-same_in : goal.returns-then-not-same_in
returns-then-not-same_in c = λ o e. sym (told _ _ e) ∙ answer_no _ _ _ _ _ c.requires.n_value.0 c.requires.m_value.0 (inner_no _ _ _ _ _ _ _ _ _ _ c.loop-q.invariant c.loop-q-test.true c.if-site-there.true _ c.same_in.ensures c.if-not-same_in.true)

pub walk-preserved-then-site-there : goal.walk-preserved-then-site-there
walk-preserved-then-site-there c = let e : constrained_word c.args.a (c.walk.x + 1) ≡ constrained_word c.args.a c.walk.x + 4 = omega arith in rw e (inner_same _ _ _ _ _ _ _ _ _ _ c.loop-q.invariant c.loop-q-test.true c.if-site-there.true _ c.same_in.ensures c.if-not-same_in.false)

pub walk-preserved-then-site-there-2 : goal.walk-preserved-then-site-there-2
walk-preserved-then-site-there-2 c = let e : constrained_word c.args.a (c.walk.x + 1) ≡ constrained_word c.args.a c.walk.x + 4 = omega arith in rw e (inner_missing _ _ _ _ _ _ _ _ _ _ c.loop-q.invariant c.loop-q-test.true c.if-site-there-2.true)

pub loop-q-preserved : goal.loop-q-preserved
loop-q-preserved c = inner_pass _ _ _ _ _ _ _ _ _ _ c.loop-q.invariant c.loop-q-test.true (omega arith) c.if-there-last.false

pub walk-preserved : goal.walk-preserved
walk-preserved c = let e : constrained_word c.args.a (c.walk.x + 1) ≡ constrained_word c.args.a c.walk.x + 4 = omega arith in rw e (inner_end _ _ _ _ _ _ _ _ _ _ c.loop-q.invariant c.loop-q-test.false)

pub returns : goal.returns
returns c = beside_ended _ _ _ _ _ _ _ _ _ c.walk.invariant (omega (arith, c.walk-test.false)) c.requires.n_value.0 c.requires.m_value.0 _ c.ended.ensures.fact c.ended.ensures.o_value

use mathlib.Core.Path.{sym, ◌∙◌}
use native.Mathlib.Omega.{arith}
use Rattle.site_body.proofs.Bodies.{judge_none, judge_fits, judge_unknown, judge_sources, judge_no_term, judge_high, judge_term}
use Rattle.site_body.proofs.judge.Goals as goal

pub returns-then-not-is_body : goal.returns-then-not-is_body
returns-then-not-is_body c = judge_none c.args.b.now c.args.count c.args.at (sym c.is_body.ensures ∙ c.if-not-is_body.true)

pub first_missing-lost-requires : goal.first_missing-lost-requires
first_missing-lost-requires c = judge_fits c.args.b.now (λ i. omega (arith, c.type_inv.b i)) (sym c.is_body.ensures ∙ c.if-not-is_body.false) c.args.count c.args.at c.off_of.result c.many_of-many.result c.off_of.ensures.0 c.many_of-many.ensures.0

pub returns-in-Some : goal.returns-in-Some
returns-in-Some c = judge_unknown c.args.b.now (λ i. omega (arith, c.type_inv.b i)) (sym c.is_body.ensures ∙ c.if-not-is_body.false) c.args.count c.args.at c.off_of.result c.many_of-many.result c.off_of.ensures.0 c.many_of-many.ensures.0 c.first_missing-lost.result c.in-Some.s c.first_missing-lost.ensures c.in-Some.is

pub returns-then-many-gt-SOURCES : goal.returns-then-many-gt-SOURCES
returns-then-many-gt-SOURCES c = judge_sources c.args.b.now (λ i. omega (arith, c.type_inv.b i)) (sym c.is_body.ensures ∙ c.if-not-is_body.false) c.args.count c.args.at c.off_of.result c.many_of-many.result c.off_of.ensures.0 c.many_of-many.ensures.0 c.first_missing-lost.result c.first_missing-lost.ensures c.in_default.is c.if-many-gt-SOURCES.true

pub term_in-named-requires : goal.term_in-named-requires
term_in-named-requires c = (sym c.is_body.ensures ∙ c.if-not-is_body.false)

pub returns-in_default-named : goal.returns-in_default-named
returns-in_default-named c = judge_no_term c.args.b.now (λ i. omega (arith, c.type_inv.b i)) (sym c.is_body.ensures ∙ c.if-not-is_body.false) c.args.count c.args.at c.off_of.result c.many_of-many.result c.off_of.ensures.0 c.many_of-many.ensures.0 c.first_missing-lost.result c.first_missing-lost.ensures c.in_default.is c.if-many-gt-SOURCES.false c.term_in-named.result c.term_in-named.ensures c.in_default-named.is

pub returns-then-t-ge-TERMS : goal.returns-then-t-ge-TERMS
returns-then-t-ge-TERMS c = judge_high c.args.b.now (λ i. omega (arith, c.type_inv.b i)) (sym c.is_body.ensures ∙ c.if-not-is_body.false) c.args.count c.args.at c.off_of.result c.many_of-many.result c.off_of.ensures.0 c.many_of-many.ensures.0 c.first_missing-lost.result c.first_missing-lost.ensures c.in_default.is c.if-many-gt-SOURCES.false c.term_in-named.result c.term_in-named.ensures c.in-Some-named.t c.in-Some-named.is c.if-t-ge-TERMS.true

pub returns : goal.returns
returns c = judge_term c.args.b.now (λ i. omega (arith, c.type_inv.b i)) (sym c.is_body.ensures ∙ c.if-not-is_body.false) c.args.count c.args.at c.off_of.result c.many_of-many.result c.off_of.ensures.0 c.many_of-many.ensures.0 c.first_missing-lost.result c.first_missing-lost.ensures c.in_default.is c.if-many-gt-SOURCES.false c.term_in-named.result c.term_in-named.ensures c.in-Some-named.t c.in-Some-named.is (omega (arith, c.if-t-ge-TERMS.false))

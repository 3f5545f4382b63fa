-- `rule_items::walk` meets its contract. Assumes nothing.
use Rattle.rule_items.proofs.Walking.{items_long, item_is, long_of, long_self, long_still, walking_none, room_of, walking_done, walking_stop, walking_step}
use native.Mathlib.Omega.{arith}
use mathlib.Core.Path.{refl, ◌∙◌}
use Rattle.rule_items.proofs.walk.Goals as goal

pub loop-i-init : goal.loop-i-init
loop-i-init c = record { going = refl; walked = record { within = omega arith; walking = walking_none _ _ _ _ _ _ _ _ _ c.requires.n_le_max_sites.0; long = long_self _ _ _ _ _ _; inside = λ I. I } }

pub take_item-p-requires : goal.take_item-p-requires
take_item-p-requires c = let whole = room_of _ _ _ _ _ _ _ _ _ _ _ _ _ c.loop-i.invariant.walked.walking (long_still _ _ _ _ _ _ _ _ _ _ _ _ (long_of _ _ _ _ _ _ c.requires.eqs_value) c.loop-i.invariant.walked.long) (let p = c.requires.n_le_max_sites.1 in let b = c.loop-i-test.true in omega arith) in record { room = whole.0; space = whole.1 }

pub returns-in_default-clause-walk : goal.returns-in_default-clause-walk
returns-in_default-clause-walk c = walking_stop _ _ _ _ _ _ _ _ _ _ _ _ _ c.loop-i.invariant.walked.walking _ (let z = items_long c.args.items.now c.args.count c.requires.n_le_max_sites.1 in let b = c.loop-i-test.true in omega arith) (item_is c.args.items.now c.args.count _ _ c.requires.n_le_max_sites.1 c.loop-i-test.true c.item_at-it.ensures) _ _ _ _ _ _ _ c.take_item-p.ensures.turn _ _ c.in_default.is

pub returns-in_default-clause-inside : goal.returns-in_default-clause-inside
returns-in_default-clause-inside c = λ I. c.take_item-p.ensures.inside (c.loop-i.invariant.walked.inside I)

pub loop-i-preserved : goal.loop-i-preserved
loop-i-preserved c = record { going = c.in-Ok.is; walked = record { within = let b = c.loop-i-test.true in omega arith; walking = walking_step _ _ _ _ _ _ _ _ _ _ _ _ _ c.loop-i.invariant.walked.walking _ (let z = items_long c.args.items.now c.args.count c.requires.n_le_max_sites.1 in let b = c.loop-i-test.true in omega arith) (item_is c.args.items.now c.args.count _ _ c.requires.n_le_max_sites.1 c.loop-i-test.true c.item_at-it.ensures) _ _ _ _ _ _ _ c.take_item-p.ensures.turn c.in-Ok.is; long = record { tail_long = c.take_item-p.auto.tail ∙ c.loop-i.invariant.walked.long.tail_long; sites_long = c.take_item-p.auto.sites ∙ c.loop-i.invariant.walked.long.sites_long; rows_long = c.take_item-p.auto.rows ∙ c.loop-i.invariant.walked.long.rows_long; words_long = c.take_item-p.auto.words ∙ c.loop-i.invariant.walked.long.words_long; kids_long = c.take_item-p.auto.kids ∙ c.loop-i.invariant.walked.long.kids_long; eqs_long = c.take_item-p.auto.eqs ∙ c.loop-i.invariant.walked.long.eqs_long }; inside = λ I. c.take_item-p.ensures.inside (c.loop-i.invariant.walked.inside I) } }

pub returns-clause-walk : goal.returns-clause-walk
returns-clause-walk c = walking_done _ _ _ _ _ _ _ _ _ _ _ _ _ c.loop-i.invariant.walked.walking _ _ (let z = items_long c.args.items.now c.args.count c.requires.n_le_max_sites.1 in let b = c.loop-i-test.false in omega arith) c.loop-i.invariant.walked.within c.loop-i.invariant.going refl refl refl

pub returns-clause-inside : goal.returns-clause-inside
returns-clause-inside c = c.loop-i.invariant.walked.inside

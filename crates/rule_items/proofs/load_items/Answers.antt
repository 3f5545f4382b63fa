-- `rule_items::load_items` meets its contract. Assumes nothing.
use Rattle.rule_items.proofs.Telling.{few_items, told_sites, told_short, told_many, told_stop, told_hanging, told_fine, rowed_refused, rowed_walk}
use Rattle.rule_items.proofs.Walking.{long_self}
use Rattle.item_words.specs.Items.{items_in as held_items}
use Rattle.paper.specs.Numbers.{max_items}
use Prim.Native.Nat.{min}
use native.Mathlib.Omega.{arith}
use mathlib.Core.Path.{refl, sym, ◌∙◌}
use Rattle.rule_items.proofs.load_items.Goals as goal

pub returns-then-from-gt-SITES-clause-told : goal.returns-then-from-gt-SITES-clause-told
returns-then-from-gt-SITES-clause-told c = told_sites _ _ _ _ _ _ _ _ _ _ _ _ (let e = c.from.ensures in let x = c.if-from-gt-SITES.true in omega arith) c.refuse.ensures

pub returns-then-from-gt-SITES-clause-long : goal.returns-then-from-gt-SITES-clause-long
returns-then-from-gt-SITES-clause-long c = long_self _ _ _ _ _ _

pub returns-then-from-gt-SITES-clause-inside : goal.returns-then-from-gt-SITES-clause-inside
returns-then-from-gt-SITES-clause-inside c = λ I. I

pub returns-then-from-gt-SITES-clause-rowed : goal.returns-then-from-gt-SITES-clause-rowed
returns-then-from-gt-SITES-clause-rowed c = rowed_refused _ _ _ _ c.refuse.ensures

pub shape_of-tail-then-not-has_room : goal.shape_of-tail-then-not-has_room
shape_of-tail-then-not-has_room c = refl

pub shape_of-sites-then-not-has_room : goal.shape_of-sites-then-not-has_room
shape_of-sites-then-not-has_room c = refl

pub shape_of-rows-then-not-has_room : goal.shape_of-rows-then-not-has_room
shape_of-rows-then-not-has_room c = refl

pub shape_of-words-then-not-has_room : goal.shape_of-words-then-not-has_room
shape_of-words-then-not-has_room c = refl

pub shape_of-kids-then-not-has_room : goal.shape_of-kids-then-not-has_room
shape_of-kids-then-not-has_room c = refl

pub shape_of-eqs-then-not-has_room : goal.shape_of-eqs-then-not-has_room
shape_of-eqs-then-not-has_room c = refl

pub returns-then-not-has_room-clause-told : goal.returns-then-not-has_room-clause-told
returns-then-not-has_room-clause-told c = told_short _ _ _ _ _ _ _ _ _ _ _ _ (let e = c.from.ensures in let x = c.if-from-gt-SITES.false in omega arith) (sym c.has_room.ensures ∙ c.if-not-has_room.true) c.refuse-then-not-has_room.ensures

pub returns-then-not-has_room-clause-long : goal.returns-then-not-has_room-clause-long
returns-then-not-has_room-clause-long c = long_self _ _ _ _ _ _

pub returns-then-not-has_room-clause-inside : goal.returns-then-not-has_room-clause-inside
returns-then-not-has_room-clause-inside c = λ I. I

pub returns-then-not-has_room-clause-rowed : goal.returns-then-not-has_room-clause-rowed
returns-then-not-has_room-clause-rowed c = rowed_refused _ _ _ _ c.refuse-then-not-has_room.ensures

pub shape_of-tail-then-count-gt-ITEMS : goal.shape_of-tail-then-count-gt-ITEMS
shape_of-tail-then-count-gt-ITEMS c = refl

pub shape_of-sites-then-count-gt-ITEMS : goal.shape_of-sites-then-count-gt-ITEMS
shape_of-sites-then-count-gt-ITEMS c = refl

pub shape_of-rows-then-count-gt-ITEMS : goal.shape_of-rows-then-count-gt-ITEMS
shape_of-rows-then-count-gt-ITEMS c = refl

pub shape_of-words-then-count-gt-ITEMS : goal.shape_of-words-then-count-gt-ITEMS
shape_of-words-then-count-gt-ITEMS c = refl

pub shape_of-kids-then-count-gt-ITEMS : goal.shape_of-kids-then-count-gt-ITEMS
shape_of-kids-then-count-gt-ITEMS c = refl

pub shape_of-eqs-then-count-gt-ITEMS : goal.shape_of-eqs-then-count-gt-ITEMS
shape_of-eqs-then-count-gt-ITEMS c = refl

pub returns-then-count-gt-ITEMS-clause-told : goal.returns-then-count-gt-ITEMS-clause-told
returns-then-count-gt-ITEMS-clause-told c = told_many _ _ _ _ _ _ _ _ _ _ _ _ (let e = c.from.ensures in let x = c.if-from-gt-SITES.false in omega arith) (sym c.has_room.ensures ∙ c.if-not-has_room.false) c.if-count-gt-ITEMS.true c.refuse-then-count-gt-ITEMS.ensures

pub returns-then-count-gt-ITEMS-clause-long : goal.returns-then-count-gt-ITEMS-clause-long
returns-then-count-gt-ITEMS-clause-long c = long_self _ _ _ _ _ _

pub returns-then-count-gt-ITEMS-clause-inside : goal.returns-then-count-gt-ITEMS-clause-inside
returns-then-count-gt-ITEMS-clause-inside c = λ I. I

pub returns-then-count-gt-ITEMS-clause-rowed : goal.returns-then-count-gt-ITEMS-clause-rowed
returns-then-count-gt-ITEMS-clause-rowed c = rowed_refused _ _ _ _ c.refuse-then-count-gt-ITEMS.ensures

pub walk-p-requires-clause-n_le_max_sites : goal.walk-p-requires-clause-n_le_max_sites
walk-p-requires-clause-n_le_max_sites c = ((let e = c.from.ensures in let x = c.if-from-gt-SITES.false in omega arith), (let x = c.if-count-gt-ITEMS.false in omega arith))

pub walk-p-requires-clause-eqs_value : goal.walk-p-requires-clause-eqs_value
walk-p-requires-clause-eqs_value c = (sym c.has_room.ensures ∙ c.if-not-has_room.false)

pub returns-in_default-clause-told : goal.returns-in_default-clause-told
returns-in_default-clause-told c = told_stop _ _ _ _ _ _ _ _ _ _ _ _ (let e = c.from.ensures in let x = c.if-from-gt-SITES.false in omega arith) (sym c.has_room.ensures ∙ c.if-not-has_room.false) (let x = c.if-count-gt-ITEMS.false in omega arith) _ c.in_default.is c.walk-p.ensures.walk

pub returns-in_default-clause-long : goal.returns-in_default-clause-long
returns-in_default-clause-long c = record { tail_long = c.walk-p.auto.tail; sites_long = c.walk-p.auto.sites; rows_long = c.walk-p.auto.rows; words_long = c.walk-p.auto.words; kids_long = c.walk-p.auto.kids; eqs_long = c.walk-p.auto.eqs }

pub returns-in_default-clause-inside : goal.returns-in_default-clause-inside
returns-in_default-clause-inside c = c.walk-p.ensures.inside

pub returns-in_default-clause-rowed : goal.returns-in_default-clause-rowed
returns-in_default-clause-rowed c = rowed_walk c.args.m.now c.args.n (held_items c.args.items.now (min c.args.count max_items)) _ _ _ _ _ _ _ _ c.walk-p.ensures.walk

pub returns-in-None-clause-told : goal.returns-in-None-clause-told
returns-in-None-clause-told c = told_fine _ _ _ _ _ _ _ _ _ _ _ _ (let e = c.from.ensures in let x = c.if-from-gt-SITES.false in omega arith) (sym c.has_room.ensures ∙ c.if-not-has_room.false) (let x = c.if-count-gt-ITEMS.false in omega arith) _ c.walk-p.ensures.walk c.in-Ok.is _ (few_items _ _ _ _ _ _ _ c.args.items.now c.args.count _ (let x = c.if-count-gt-ITEMS.false in omega arith) c.hanging.ensures) c.in-None.is refl

pub returns-in-None-clause-long : goal.returns-in-None-clause-long
returns-in-None-clause-long c = record { tail_long = c.walk-p.auto.tail; sites_long = c.walk-p.auto.sites; rows_long = c.walk-p.auto.rows; words_long = c.walk-p.auto.words; kids_long = c.walk-p.auto.kids; eqs_long = c.walk-p.auto.eqs }

pub returns-in-None-clause-inside : goal.returns-in-None-clause-inside
returns-in-None-clause-inside c = c.walk-p.ensures.inside

pub returns-in-None-clause-rowed : goal.returns-in-None-clause-rowed
returns-in-None-clause-rowed c = rowed_walk c.args.m.now c.args.n (held_items c.args.items.now (min c.args.count max_items)) _ _ _ _ _ _ _ _ c.walk-p.ensures.walk

pub returns-in-Some-clause-told : goal.returns-in-Some-clause-told
returns-in-Some-clause-told c = told_hanging _ _ _ _ _ _ _ _ _ _ _ _ (let e = c.from.ensures in let x = c.if-from-gt-SITES.false in omega arith) (sym c.has_room.ensures ∙ c.if-not-has_room.false) (let x = c.if-count-gt-ITEMS.false in omega arith) _ c.walk-p.ensures.walk c.in-Ok.is _ (few_items _ _ _ _ _ _ _ c.args.items.now c.args.count _ (let x = c.if-count-gt-ITEMS.false in omega arith) c.hanging.ensures) _ c.in-Some.is c.refuse-in-Some.ensures

pub returns-in-Some-clause-long : goal.returns-in-Some-clause-long
returns-in-Some-clause-long c = record { tail_long = c.walk-p.auto.tail; sites_long = c.walk-p.auto.sites; rows_long = c.walk-p.auto.rows; words_long = c.walk-p.auto.words; kids_long = c.walk-p.auto.kids; eqs_long = c.walk-p.auto.eqs }

pub returns-in-Some-clause-inside : goal.returns-in-Some-clause-inside
returns-in-Some-clause-inside c = c.walk-p.ensures.inside

pub returns-in-Some-clause-rowed : goal.returns-in-Some-clause-rowed
returns-in-Some-clause-rowed c = rowed_refused _ _ _ _ c.refuse-in-Some.ensures

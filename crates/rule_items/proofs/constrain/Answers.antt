-- `rule_items::constrain` meets its contract. Assumes nothing.
use Rattle.rule_items.proofs.Taking.{way_size, constrain_refused, total_low, kids_inside, constrain_done}
use Rattle.rule_items.proofs.Ranges.{in_range}
use native.Mathlib.Omega.{arith}
use mathlib.Core.Path.{refl}
use Rattle.rule_items.proofs.constrain.Goals as goal

pub set_words-requires : goal.set_words-requires
set_words-requires c = (c.requires.room.item, c.requires.room.words_long)

pub set_kids-requires : goal.set_kids-requires
set_kids-requires c = (c.requires.room.item, c.requires.room.kids_long)

pub overflow_sub-result : goal.overflow_sub-result
overflow_sub-result c = total_low c.args.m.now _ _ _ _ _ _ _ _ c.args.equal _ c.args.s c.args.c c.requires.room c.requires.c_bound _ _ c.add_children-g.ensures.0 c.in-Ok.is

pub returns-in-Err-clause-turn : goal.returns-in-Err-clause-turn
returns-in-Err-clause-turn c = (λ eqs l W h. constrain_refused _ _ _ _ _ _ _ _ _ _ _ _ _ c.requires.room c.requires.c_bound _ _ _ c.add_children-g.ensures.0 c.in-Err.is c.refuse.ensures eqs l W _ _ _ _ _)

pub returns-in-Err-clause-inside : goal.returns-in-Err-clause-inside
returns-in-Err-clause-inside c = λ I. I

pub returns-in-Ok-clause-turn : goal.returns-in-Ok-clause-turn
returns-in-Ok-clause-turn c = (λ eqs l W h. constrain_done _ _ _ _ _ _ _ _ _ _ _ _ _ c.requires.room c.requires.c_bound _ _ c.add_children-g.ensures.0 c.in-Ok.is _ _ _ c.pack-p.ensures.head_value c.pack-p.ensures.second_value c.pack-p.ensures.third_value (in_range c.args.c _ c.well_formed.1.1.1.1.1.1.1.1.1.1.1.1.0) _ _ c.set_words.ensures c.set_kids.ensures (let z = way_size _ _ _ _ _ _ _ _ _ _ _ _ _ W in omega arith) _ _ _ (c.put-more.ensures.puts (let a = c.requires.room.few in let b = c.requires.room.item in let d = c.requires.room.sites_long in omega arith) (let a = c.requires.room.few in let b = c.requires.room.item in let d = c.requires.room.rows_long in omega arith)) _ c.add_children-g.ensures.2 _ refl refl refl refl eqs l W)

pub returns-in-Ok-clause-inside : goal.returns-in-Ok-clause-inside
returns-in-Ok-clause-inside c = kids_inside _ _ _ _ _ _ _ _ _ c.args.equal _ _ _ c.requires.room c.requires.c_bound _ _ c.add_children-g.ensures.0 c.in-Ok.is _ c.set_kids.ensures

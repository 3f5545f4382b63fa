-- `rule_items::is_item` meets its contract. Assumes nothing.
use Rattle.rule_items.proofs.Stepping.{few_children, is_unknown, is_wide, is_new, is_same, is_other}
use Rattle.rule_items.proofs.Taking.{way_size}
use native.Mathlib.Omega.{arith}
use mathlib.Core.Path.{refl}
use Rattle.rule_items.proofs.is_item.Goals as goal

pub returns-then-from-clause-turn : goal.returns-then-from-clause-turn
returns-then-from-clause-turn c = (λ eqs l W. is_unknown _ _ _ _ _ _ _ _ _ _ _ _ _ W _ _ _ (let x = c.if-from.true in let a = c.from.ensures in let b = c.from-2.ensures in let d = c.from-3.ensures in omega arith) c.refuse.ensures _ _ _ _ _)

pub returns-then-from-clause-inside : goal.returns-then-from-clause-inside
returns-then-from-clause-inside c = λ I. I

pub returns-then-many-gt-FIELDS-clause-turn : goal.returns-then-many-gt-FIELDS-clause-turn
returns-then-many-gt-FIELDS-clause-turn c = (λ eqs l W. is_wide _ _ _ _ _ _ _ _ _ _ _ _ _ W _ _ _ (let x = c.if-from.false in let a = c.from.ensures in let b = c.from-2.ensures in let d = c.from-3.ensures in omega arith) _ c.field_count-many.ensures.0 (let a = c.if-many-gt-FIELDS.true in omega arith) c.refuse-then-many-gt-FIELDS.ensures _ _ _ _ _)

pub returns-then-many-gt-FIELDS-clause-inside : goal.returns-then-many-gt-FIELDS-clause-inside
returns-then-many-gt-FIELDS-clause-inside c = λ I. I

pub constrain-requires-clause-room : goal.constrain-requires-clause-room
constrain-requires-clause-room c = c.requires

pub constrain-requires-clause-c_bound : goal.constrain-requires-clause-c_bound
constrain-requires-clause-c_bound c = few_children c.args.c (let x = c.if-many-gt-FIELDS.false in let y = c.field_count-many.ensures.0 in omega arith)

pub returns-clause-turn : goal.returns-clause-turn
returns-clause-turn c = (λ eqs l W. is_same _ _ _ _ _ _ _ _ _ _ _ _ _ W _ c.args.c _ (let x = c.if-from.false in let a = c.from.ensures in let b = c.from-2.ensures in let d = c.from-3.ensures in omega arith) (let x = c.if-many-gt-FIELDS.false in let y = c.field_count-many.ensures.0 in omega arith) _ _ _ c.look.ensures c.in-Some.is c.same_row.ensures c.if-not-same_row.false c.requires.item refl refl refl refl)

pub returns-clause-inside : goal.returns-clause-inside
returns-clause-inside c = λ I. I

pub returns-in_default-clause-turn : goal.returns-in_default-clause-turn
returns-in_default-clause-turn c = (λ eqs l W. is_new _ _ _ _ _ _ _ _ _ _ _ _ _ W _ c.args.c _ (let x = c.if-from.false in let a = c.from.ensures in let b = c.from-2.ensures in let d = c.from-3.ensures in omega arith) (let x = c.if-many-gt-FIELDS.false in let y = c.field_count-many.ensures.0 in omega arith) _ c.look.ensures c.in_default.is _ _ _ _ _ (c.constrain.ensures.turn eqs l W (let z = way_size _ _ _ _ _ _ _ _ _ _ _ _ _ W in let x = c.if-from.false in let a = c.from.ensures in let b = c.from-2.ensures in let d = c.from-3.ensures in omega arith)))

pub returns-in_default-clause-inside : goal.returns-in_default-clause-inside
returns-in_default-clause-inside c = c.constrain.ensures.inside

pub returns-then-not-same_row-clause-turn : goal.returns-then-not-same_row-clause-turn
returns-then-not-same_row-clause-turn c = (λ eqs l W. is_other _ _ _ _ _ _ _ _ _ _ _ _ _ W _ c.args.c _ (let x = c.if-from.false in let a = c.from.ensures in let b = c.from-2.ensures in let d = c.from-3.ensures in omega arith) (let x = c.if-many-gt-FIELDS.false in let y = c.field_count-many.ensures.0 in omega arith) _ _ _ c.look.ensures c.in-Some.is c.same_row.ensures c.if-not-same_row.true c.refuse-then-not-same_row.ensures)

pub returns-then-not-same_row-clause-inside : goal.returns-then-not-same_row-clause-inside
returns-then-not-same_row-clause-inside c = λ I. I

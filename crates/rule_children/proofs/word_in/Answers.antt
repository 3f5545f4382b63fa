use Rattle.rule_children.proofs.WordLaws.{spelt_as, spelt_none, told_as, told_in}
use Rattle.sites.specs.Slots.{site_in}
use Rattle.rule_children.proofs.word_in.Goals as goal

pub returns-in-Some-Variant : goal.returns-in-Some-Variant
returns-in-Some-Variant c = spelt_as _ _ _ (told_as (site_in c.args.m.now c.args.i) _ (told_in c.args.m.now c.args.i _ _ _ (rw c.in-Some-Variant.field-0-is at c.in-Some-Variant.is) c.link_of.ensures c.body.ensures)) c.variant_word.ensures

pub returns-in-Some-Struct : goal.returns-in-Some-Struct
returns-in-Some-Struct c = spelt_as _ _ _ (told_as (site_in c.args.m.now c.args.i) _ (told_in c.args.m.now c.args.i _ _ _ (rw c.in-Some-Struct.field-0-is at c.in-Some-Struct.is) c.link_of.ensures c.body.ensures)) c.struct_word.ensures

pub returns-in-Some-Some : goal.returns-in-Some-Some
returns-in-Some-Some c = spelt_as _ _ _ (told_as (site_in c.args.m.now c.args.i) _ (told_in c.args.m.now c.args.i _ _ _ (rw c.in-Some-Some.field-0-is at c.in-Some-Some.is) c.link_of.ensures c.body.ensures)) c.some_word.ensures

pub returns-in-None : goal.returns-in-None
returns-in-None c = spelt_none (site_in c.args.m.now c.args.i) (told_as (site_in c.args.m.now c.args.i) _ (told_in c.args.m.now c.args.i _ _ _ c.in-None.is c.link_of.ensures c.body.ensures))

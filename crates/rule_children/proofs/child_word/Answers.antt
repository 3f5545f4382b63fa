use mathlib.Core.Path.{sym, ap}
use Rattle.rule_children.proofs.WordLaws.{spelt_as, lone_child}
use Rattle.paper.specs.Sites.{child}
use Rattle.rule_children.proofs.child_word.Goals as goal

pub returns-in-Variant : goal.returns-in-Variant
unfolding child
returns-in-Variant c = spelt_as _ _ _ (ap (λ d. child c.args.s d c.args.f) (sym c.in-Variant.is)) c.variant_word.ensures

pub returns-in-Struct : goal.returns-in-Struct
unfolding child
returns-in-Struct c = spelt_as _ _ _ (ap (λ d. child c.args.s d c.args.f) (sym c.in-Struct.is)) c.struct_word.ensures

pub returns-in-ConstBool : goal.returns-in-ConstBool
returns-in-ConstBool c = spelt_as _ _ _ (sym (lone_child c.args.s c.args.c c.args.f c.in-ConstBool.is)) c.some_word.ensures

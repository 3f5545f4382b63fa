use Rattle.rule_children.proofs.WordLaws.{is_child}
use Rattle.rule_children.proofs.is_child.Goals as goal

pub returns : goal.returns
returns c = is_child c.args.s c.args.c _ _ c.args.w _ c.child_word-first.ensures c.arity-count.ensures.0 c.arity-count.ensures.1 c.field_of.ensures

use Rattle.rule_children.proofs.WordLaws.{tail_told, tail_none}
use borrow.Author.Rules.{rules}
use Rattle.rule_children.proofs.tail_word.Goals as goal

pub returns-in-8 : goal.returns-in-8
returns-in-8 c = tail_told c.args.w c.in-8.is

pub returns-in_default : goal.returns-in_default
returns-in_default c = tail_none c.args.w (λ e. search rules) (λ e. search rules) (λ e. search rules)

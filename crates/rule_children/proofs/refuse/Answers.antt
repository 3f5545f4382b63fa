use Rattle.rule_children.proofs.AnswerLaws.{refuse_is}
use Rattle.rule_children.proofs.refuse.Goals as goal

pub returns : goal.returns
returns c = refuse_is c.args.r

use Rattle.rule_laid.specs.Laid.{Entries}
use Rattle.rule_laid.proofs.any_bad.Given as goal

abbrev pub invariant-loop-i : goal.invariant-loop-i
invariant-loop-i l = Entries l.sites l.rows l.words l.total l.i
